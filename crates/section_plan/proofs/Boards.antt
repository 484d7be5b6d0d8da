-- The planned steps on a board.
use Rattle.std.proofs.Common.{◌≡◌, ℕ, zero, suc, ◌+◌, ◌-◌, ◌*◌, ◌/◌, ◌<◌, ◌≤◌, Bool, true, false, cond, List, [], ◌∷◌, length, map, get_or, All, max, arith, refl, sym, ◌∙◌, subst, ap, inl, inr}
use Rattle.std.specs.Prelude.{◌^◌, nat_le}
use Rattle.std.specs.List.{range_with_len}
use Rattle.std.proofs.Math.Nat.{div-add-mod, mul-le-mul_left}
use Rattle.std.proofs.lemmas.Bool.{cases_lt}
use Rattle.std.proofs.lemmas.List.{length-map}
use Rattle.std.proofs.lemmas.Bool.Decides.{nat_tests}
use Rattle.std.proofs.lemmas.List.Elements.{All-append, All-cons, All-nil}
use Rattle.plan_types.specs.declared.plan.Gear.{Gear}
use Rattle.plan_types.specs.declared.machine.Machine.{Machine}
use Rattle.plan_types.specs.declared.plan.Held.{Held}
use Rattle.plan_types.specs.declared.plan.Line.{Line}
use Rattle.plan_types.specs.declared.plan.Planned.{Planned}
use Rattle.plan_types.specs.declared.plan.Segment.{Segment}
use Rattle.plan_types.specs.Clock.{tick, turn_ns, tick_limit}
use Rattle.plan_types.specs.Lines.{AreHeld, Clocks, IsFit, board_over, come, lines_board, lines_tick, lines_turn, last_from, tick_over}
use Rattle.plan_types.specs.Plan.{cancel, cancel_reach, filtered, on_board, planned_steps, spaced}
use Rattle.plan_types.specs.Sections.{IsReadyLine, clocks_at, last_turn, turns_of_move}
use Rattle.plan_types.specs.Steps.{counts_passed, raw_steps, segment_steps}
use Rattle.plan_types.specs.Valid.{IsValidLine}
use Rattle.clock_line.specs.Kept.{AreKept}
use Rattle.clock_line.proofs.Boards.{board-mono, least_cond}
use Rattle.clock_line.proofs.Holding.{chosen, come-first, come-is, passed, tick-mono, tick-zero, come-fit}
use Rattle.clock_line.proofs.Turns.{tick_over-mono, turn-below, turn_within, tick_over-least, clock-least}
use Rattle.step_ticks.proofs.Lists.{filtered-All}
use Rattle.step_ticks.proofs.Within.{IsWithin, steps-within}
use Rattle.section_plan.specs.Runs.{IsGoodSegment, IsOnTime, IsReadyAt, IsReadyBoard, move_ns, steps_of_move}

-- with one line the ticks are that line's, and the board's ticks are the plan ticks
pub alone-tick : (clocks : Clocks) (time : ℕ) → clocks.held ≡ [] → lines_tick clocks time ≡ tick clocks.first time
alone-tick clocks time alone = rw alone (omega arith)

pub alone-board : (clocks : Clocks) (n : ℕ) → clocks.held ≡ [] → clocks.first.clock ≤ n → lines_board clocks n ≡ n
alone-board clocks n alone from = let z = tick-zero clocks.first in rw alone (omega arith)

-- The board's tick of a plan tick is no later than that of a time by whose plan tick it is, and by which all lines hold that
-- hold by the plan tick.
board-below : (first line : Line) (from most : ℕ) (held : List Held) (n t : ℕ) → AreHeld first line from most held → ((u : ℕ) → from ≤ u → come first line from (tick first u) ≡ tick line u) → from ≤ t → n ≤ tick first t → ((u : ℕ) → tick first u ≤ n → u ≤ t) → board_over first line from most held n ≤ tick_over line most held t
board-below first line from most [] n t are comes begun by early = let c = comes t begun in omega (arith, c, by)
board-below first line from most (h ∷ held) n t are comes begun by early =
    let after = are.0 in
    let c = comes h.from (omega (arith, after)) in
    elim (cases_lt n (tick first h.from)) [
      | inl before ↦
          let e : board_over first line from most (h ∷ held) n ≡ max most (come first line from n) = passed (nat_le (tick first h.from) n) _ _ (grind (arith, nat_tests)) in
          elim (cases_lt t h.from) [
            | inl too ↦
                let f : tick_over line most (h ∷ held) t ≡ max most (tick line t) = passed (nat_le h.from t) _ _ (grind (arith, nat_tests)) in
                let d = comes t begun in
                omega (arith, e, f, d, by)
            | inr late ↦
                let f : tick_over line most (h ∷ held) t ≡ tick_over h.line (max most (tick line h.from)) held t = chosen (nat_le h.from t) _ _ (grind (arith, nat_tests)) in
                let l = tick_over-least h.line (max most (tick line h.from)) held t in
                omega (arith, e, f, l, c, before)
          ]
      | inr later ↦
          let e : board_over first line from most (h ∷ held) n ≡ board_over first h.line h.from (max most (come first line from (tick first h.from))) held n = chosen (nat_le (tick first h.from) n) _ _ (grind (arith, nat_tests)) in
          let holds : h.from ≤ t = early h.from (omega (arith, later)) in
          let f : tick_over line most (h ∷ held) t ≡ tick_over h.line (max most (tick line h.from)) held t = chosen (nat_le h.from t) _ _ (grind (arith, nat_tests)) in
          let m : max most (tick line h.from) ≡ h.most = sym are.1 in
          let m' : max most (come first line from (tick first h.from)) ≡ h.most = ap (max most) c ∙ m in
          let i : board_over first h.line h.from h.most held n ≤ tick_over h.line h.most held t = board-below first h.line h.from h.most held n t are.4 (λ u o. come-fit first h.line h.from u are.5 o) holds by early in
          let e' : board_over first line from most (h ∷ held) n ≡ board_over first h.line h.from h.most held n = e ∙ ap (λ x. board_over first h.line h.from x held n) m' in
          let f' : tick_over line most (h ∷ held) t ≡ tick_over h.line h.most held t = f ∙ ap (λ x. tick_over h.line x held t) m in
          omega (arith, e', f', i)
    ]

-- a turn has some ticks, and few
pub next-turn : (x f : ℕ) → 1_000_000 ≤ f → x * f / 1_000_000_000 < (x + 1_000_000) * f / 1_000_000_000
next-turn x f low = omega arith

next-few : (x f : ℕ) → f ≤ 200_000_000 → (x + 1_000_000) * f / 1_000_000_000 ≤ x * f / 1_000_000_000 + 200_001
next-few x f high = omega arith

pub tick-next : (line : Line) (x : ℕ) → IsValidLine line → line.at ≤ x → (tick line x < tick line (x + turn_ns)) × (tick line (x + turn_ns) ≤ tick line x + 200_001)
tick-next line x valid before =
    let more = next-turn (x - line.at) line.freq valid.freq_low in
    let few = next-few (x - line.at) line.freq valid.freq_high in
    let away : x + 1_000_000 - line.at ≡ (x - line.at) + 1_000_000 = omega (arith, before) in
    (rw away (omega (arith, more)), rw away (omega (arith, few)))

-- the board's tick of a time's plan tick is no later than its own tick a turn later
board-tick : (clocks : Clocks) (x : ℕ) → AreKept clocks → clocks.first.at ≤ x → lines_board clocks (tick clocks.first x) ≤ lines_tick clocks (x + turn_ns)
board-tick clocks x kept before =
    let first = clocks.first in
    let more = (tick-next first x kept.valid before).0 in
    board-below first first 0 0 clocks.held (tick first x) (x + turn_ns) kept.held
    (λ u o. come-first first (tick first u) (omega arith))
    (omega arith)
    (tick-mono first x (x + turn_ns) (omega arith))
    (λ u by. elim (cases_lt (x + turn_ns) u) [ inl late ↦ (let m = tick-mono first (x + turn_ns) u (omega (arith, late)) in absurd (omega (arith, m, more, by))) | inr fine ↦ fine ])

-- the raw steps of good segments
raw-within : (line : Line) (top : ℕ) (g : Gear) (f : ℕ) (segments : List Segment) → All (IsGoodSegment line top) segments → All (IsWithin line.clock top) (raw_steps g f segments)
raw-within line top g f [] good = All-nil (IsWithin line.clock top)
raw-within line top g f (s ∷ segments) good =
    let here : IsGoodSegment line top s = good 0 s (omega arith) in
    let own = steps-within g f s (range_with_len 1 (counts_passed g s s.before (s.before + s.d))) in
    let start = here.after in
    let end = here.in_top in
    let dur = here.valid.dur_is in
    All-append (IsWithin line.clock top) (segment_steps g f s) (raw_steps g f segments)
    (λ k d h. (let w = own k d h in let from = w.after in let to = w.before in record { after = omega arith; before = omega arith }))
    (raw-within line top g f segments (λ k d h. good (suc k) d (omega arith)))

-- filtering keeps some
pub shorter : (b : Bool) (xs ys : List Planned) (n : ℕ) → length xs ≤ n → length ys ≤ n → length (cond b xs ys) ≤ n
shorter true xs ys n h k = h
shorter false xs ys n h k = k

pub filtered-shorter : (r : ℕ) (xs : List Planned) → length (filtered r xs) ≤ length xs
filtered-shorter r [] = omega arith
filtered-shorter r (a ∷ []) = omega arith
filtered-shorter r (a ∷ b ∷ xs) =
    let one = filtered-shorter r xs in
    let two = filtered-shorter r (b ∷ xs) in
    shorter (cancel r a b) (filtered r xs) (a ∷ filtered r (b ∷ xs)) (length (a ∷ b ∷ xs)) (omega arith) (omega arith)

-- on the board they stand no later than the last plan tick does
board-within : (clocks : Clocks) (low top high : ℕ) (xs : List Planned) → lines_board clocks top ≤ high → All (IsWithin low top) xs → All (λ q. q.tick ≤ high) (map (on_board clocks) xs)
board-within clocks low top high [] by h = All-nil (λ (q : Planned). q.tick ≤ high)
board-within clocks low top high (x ∷ xs) by h =
    let here : IsWithin low top x = h 0 x (omega arith) in
    let to = here.before in
    let up = board-mono clocks x.tick top to in
    All-cons (λ (q : Planned). q.tick ≤ high) (on_board clocks x) (map (on_board clocks) xs) (omega (arith, up, by)) (board-within clocks low top high xs by (λ k d l. h (suc k) d (omega (arith, l))))

-- spacing moves each step back by 4 ticks at most for each step before it
spaced-within : (low last top most : ℕ) (xs : List Planned) → low ≤ last → last ≤ top → top + 4 * length xs ≤ most → All (λ q. q.tick ≤ top) xs → All (IsWithin low most) (spaced last xs)
spaced-within low last top most [] from to room h = All-nil (IsWithin low most)
spaced-within low last top most (x ∷ xs) from to room h =
    let before : x.tick ≤ top = h 0 x (omega arith) in
    let t = max x.tick (last + 4) in
    All-cons (IsWithin low most) (record { tick = t; up = x.up }) (spaced t xs) (record { after = omega (arith, from); before = omega (arith, before, to, room) })
    (spaced-within low t (top + 4) most xs (omega (arith, from)) (omega (arith, before, to)) (omega (arith, room)) (λ k d l. (let b = h (suc k) d (omega (arith, l)) in omega (arith, b))))

planned-within : (gear : Gear) (clocks : Clocks) (segments : List Segment) (base top high most : ℕ) → clocks.first.clock ≤ base → base ≤ high → lines_board clocks top ≤ high → All (IsGoodSegment clocks.first top) segments → high + 4 * length (raw_steps gear clocks.first.freq segments) ≤ most
    → All (IsWithin clocks.first.clock most) (planned_steps gear clocks segments base)
planned-within gear clocks segments base top high most from to by good room =
    let raw = raw_steps gear clocks.first.freq segments in
    let reach = cancel_reach clocks.first.freq in
    let kept = filtered reach raw in
    let fewer = filtered-shorter reach raw in
    let same : length (map (on_board clocks) kept) ≡ length kept = length-map kept (on_board clocks) in
    spaced-within clocks.first.clock base high most (map (on_board clocks) kept) from to (omega (arith, fewer, same, room))
    (board-within clocks clocks.first.clock top high kept by (filtered-All (IsWithin clocks.first.clock top) reach raw (raw-within clocks.first top gear clocks.first.freq segments good)))

-- the ticks of the moves and of the steps behind them are those of the turns that moves may take
more-ticks : (x n f : ℕ) → 0 < n → 1_000_000 ≤ f → (x + n * 17_421_000_000_000) * f / 1_000_000_000 + 4 * (n * 3_072_000_003) ≤ (x + n * 30_000_000_000_000) * f / 1_000_000_000
more-ticks x n f some low =
    let m : n * 1_000_000 ≤ n * f = mul-le-mul_left n low in
    omega arith

pub room-for : (line : Line) (turn n : ℕ) → IsValidLine line → line.at ≤ turn * turn_ns → 0 < n → tick line (turn * turn_ns + n * move_ns) + 4 * (n * steps_of_move) ≤ tick line ((turn + n * turns_of_move) * turn_ns)
room-for line turn n valid before some =
    let low = valid.freq_low in
    let x = turn * turn_ns - line.at in
    let more = more-ticks x n line.freq some low in
    let one : turn * turn_ns + n * move_ns - line.at ≡ x + n * 17_421_000_000_000 = omega arith in
    let two : (turn + n * turns_of_move) * turn_ns - line.at ≡ x + n * 30_000_000_000_000 = omega arith in
    rw (one, two) (omega arith)

-- the turn of a step that comes no later than a turn
pub turn-within : (clocks : Clocks) (turn t : ℕ) → IsValidLine clocks.first → clocks.held ≡ [] → clocks.first.at ≤ turn * turn_ns → t ≤ tick clocks.first (turn * turn_ns) → lines_turn clocks t ≤ turn
turn-within clocks turn t valid alone before by =
    let e = alone-tick clocks ((turn + 1) * turn_ns) alone in
    let next = (tick-next clocks.first (turn * turn_ns) valid before).0 in
    let away : (turn + 1) * turn_ns ≡ turn * turn_ns + turn_ns = omega arith in
    let later : tick clocks.first (turn * turn_ns) < tick clocks.first ((turn + 1) * turn_ns) = rw away next in
    turn-below clocks t turn (omega (arith, e, later, by))

-- the planned steps of some moves are on time
pub on-time : (gear : Gear) (clocks : Clocks) (segments : List Segment) (turn n : ℕ) → IsReadyBoard clocks turn n → 0 < n → All (IsGoodSegment clocks.first (tick clocks.first (turn * turn_ns + n * move_ns))) segments → length (raw_steps gear clocks.first.freq segments) ≤ n * steps_of_move → All (IsOnTime clocks (turn + n * turns_of_move)) (planned_steps gear clocks segments (lines_tick clocks (turn * turn_ns)))
on-time gear clocks segments turn n ready some good few = λ k d h. (
    let line = clocks.first in
    let over = turn * turn_ns + n * move_ns in
    let top = tick line over in
    let high = lines_tick clocks (over + turn_ns) in
    let base = lines_tick clocks (turn * turn_ns) in
    let before = ready.before in
    let from = clock-least line 0 clocks.held (turn * turn_ns) in
    let up = tick_over-mono line 0 clocks.held (turn * turn_ns) (over + turn_ns) (omega arith) in
    let by = board-tick clocks over ready.kept (omega (arith, before)) in
    let w = planned-within gear clocks segments base top high (high + 4 * (n * steps_of_move)) from up by good (omega (arith, few)) k d h in
    let room = ready.room in
    let last = w.before in
    record {
      after = w.after;
      in_turn = λ alone. (
          let most = tick line ((turn + n * turns_of_move) * turn_ns) in
          let e = alone-tick clocks (turn * turn_ns) alone in
          let one = tick-mono line (turn * turn_ns) over (omega arith) in
          let own = tick-mono line 0 over (omega arith) in
          let zero = tick-zero line in
          let same = alone-board clocks top alone (omega (arith, own, zero)) in
          let more = room-for line turn n ready.kept.valid ready.before some in
          let v = planned-within gear clocks segments base top top most from (omega (arith, e, one)) (omega (arith, same)) good (omega (arith, more, few)) k d h in
          let end = v.before in
          turn-within clocks (turn + n * turns_of_move) (get_or (planned_steps gear clocks segments base) k d).tick ready.kept.valid alone (omega (arith, before)) end);
      small = omega (arith, last, room);
    })

-- the board has ticks for the beginning of the turn, and for the segments
pub base-small : (clocks : Clocks) (turn n : ℕ) → IsReadyBoard clocks turn n → lines_tick clocks (turn * turn_ns) < tick_limit
base-small clocks turn n ready =
    let room = ready.room in
    let up = tick_over-mono clocks.first 0 clocks.held (turn * turn_ns) (turn * turn_ns + n * move_ns + turn_ns) (omega arith) in
    omega (arith, room, up)

pub ends-small : (clocks : Clocks) (turn n : ℕ) (segments : List Segment) → IsReadyBoard clocks turn n → All (IsGoodSegment clocks.first (tick clocks.first (turn * turn_ns + n * move_ns))) segments → All (λ s. lines_board clocks s.end < tick_limit) segments
ends-small clocks turn n segments ready good = λ k d h. (
    let over = turn * turn_ns + n * move_ns in
    let before = ready.before in
    let room = ready.room in
    let by = board-tick clocks over ready.kept (omega (arith, before)) in
    let up = board-mono clocks (get_or segments k d).end (tick clocks.first over) (good k d h).in_top in
    omega (arith, room, by, up))

-- a board whose one line is ready, is ready
pub one-board : (clocks : Clocks) (turn n : ℕ) → IsValidLine clocks.first → clocks.held ≡ [] → clocks.first.at ≤ turn * turn_ns → turn < 2 ^ 62 → 0 < n → tick clocks.first ((turn + n * turns_of_move) * turn_ns) < tick_limit - 2 ^ 32 → IsReadyBoard clocks turn n
one-board clocks turn n valid alone before soon some planned =
    let over = turn * turn_ns + n * move_ns in
    let last : last_from clocks.first.at clocks.held ≡ clocks.first.at = ap (λ (h : List Held). last_from clocks.first.at h) alone in
    let is = alone-tick clocks (over + turn_ns) alone in
    let few = (tick-next clocks.first over valid (omega (arith, before))).1 in
    let more = room-for clocks.first turn n valid before some in
    record {
      kept = record { valid = valid; held = subst (λ (h : List Held). AreHeld clocks.first clocks.first 0 0 h) (sym alone) tt };
      before = before;
      soon = omega (arith, last, before, soon);
      planned = planned;
      room = omega (arith, is, few, more, planned);
    }

pub one-ready : (m : Machine) (clocks : List Clocks) (turn n b : ℕ) → turn < 2 ^ 62 → 0 < n → IsReadyLine m clocks turn n b → IsReadyAt m clocks turn n b
one-ready m clocks turn n b soon some line = record { freq = line.freq; board = one-board (clocks_at clocks b) turn n line.valid line.alone line.before soon some line.room }

-- the turns of ticks have 64 bits
pub turns-small : (clocks : Clocks) (turn : ℕ) (steps : List Planned) → last_from clocks.first.at clocks.held < 2 ^ 62 * turn_ns → All (IsOnTime clocks turn) steps → All (λ q. lines_turn clocks q.tick < 2 ^ 64) steps
turns-small clocks turn steps soon each = λ k d h. (
    let t = (get_or steps k d).tick in
    let within = turn_within clocks t in
    let small = (each k d h).small in
    omega (arith, within, small, soon))

-- the turn of the last of some steps
pub last_turn-soon : (clocks : Clocks) (turn : ℕ) (steps : List Planned) → All (λ q. lines_turn clocks q.tick ≤ turn) steps → last_turn clocks steps ≤ turn
last_turn-soon clocks turn [] h = omega arith
last_turn-soon clocks turn (s ∷ []) h = h 0 s (omega arith)
last_turn-soon clocks turn (s ∷ t ∷ steps) h = last_turn-soon clocks turn (t ∷ steps) (λ k d l. h (suc k) d (omega arith))

pub last_turn-at : (clocks : Clocks) (steps : List Planned) (d : Planned) (i : ℕ) → length steps ≡ i + 1 → last_turn clocks steps ≡ lines_turn clocks (get_or steps i d).tick
last_turn-at clocks [] d i h = absurd (omega arith)
last_turn-at clocks (s ∷ []) d zero h = refl
last_turn-at clocks (s ∷ []) d (suc i) h = absurd (omega arith)
last_turn-at clocks (s ∷ t ∷ steps) d zero h = absurd (omega arith)
last_turn-at clocks (s ∷ t ∷ steps) d (suc i) h = last_turn-at clocks (t ∷ steps) d i (omega arith)
