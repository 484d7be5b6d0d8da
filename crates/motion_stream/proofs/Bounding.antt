-- When a section ends at the latest, whatever moves the text gives it.
use Rattle.std.proofs.Common.{◌≡◌, ℕ, suc, ◌+◌, ◌-◌, ◌*◌, ◌/◌, ◌<◌, ◌≤◌, Bool, true, false, cond, eqb, List, [], ◌∷◌, ◌++◌, All, length, map, max, min, get_or, sum_by, refl, ap, sym, subst, ◌∙◌, arith, inl, inr, ◌^◌, length-append}
use Rattle.std.specs.List.{range_with_len}
use Rattle.std.specs.Prelude.{nat_le}
use Rattle.std.proofs.lemmas.Bool.{cases_lt}
use Rattle.std.proofs.lemmas.Bool.Decides.{nat_tests}
use Rattle.std.proofs.Math.Nat.{mul-le-mul_left}
use Rattle.std.proofs.lemmas.List.{map-append}
use Rattle.std.proofs.lemmas.List.Elements.{All-append, All-cons, All-head, All-nil, All-tail}
use Rattle.std.proofs.lemmas.List.FromFn.{get_or-map-range_with_len, length-map-range_with_len}
use Rattle.std.proofs.lemmas.List.Sums.{sum_by-cons}
use Rattle.plan_types.specs.declared.machine.Machine.{Machine}
use Rattle.plan_types.specs.declared.plan.Gear.{Gear}
use Rattle.plan_types.specs.declared.plan.Line.{Line}
use Rattle.plan_types.specs.declared.plan.Move.{Move}
use Rattle.plan_types.specs.declared.plan.Part.{Part}
use Rattle.plan_types.specs.declared.plan.Planned.{Planned}
use Rattle.plan_types.specs.declared.plan.Segment.{Segment}
use Rattle.plan_types.specs.declared.plan.Held.{Held}
use Rattle.plan_types.specs.Clock.{tick, tick_limit, turn_ns}
use Rattle.plan_types.specs.Lines.{AreHeld, Clocks, board_over, come, last_from, lines_board, lines_tick, lines_turn, tick_over}
use Rattle.plan_types.specs.Machines.{IsValidMachine, no_move, stepper_at}
use Rattle.plan_types.specs.Numbers.{gap}
use Rattle.plan_types.specs.Parts.{changing, part, parts, top_speed}
use Rattle.plan_types.specs.Plan.{cancel, cancel_reach, filtered, on_board, planned_steps, spaced}
use Rattle.plan_types.specs.Sections.{TimedPart, clocks_at, duration, end_time, for_each_stepper, latest, section_end, segment_of, stepper_end, stepper_plan, timed, timed_moves, turns_of_move}
use Rattle.plan_types.specs.Speeds.{greatest_speeds, speed_change}
use Rattle.plan_types.specs.Steps.{counts_passed, raw_steps, segment_steps}
use Rattle.plan_types.specs.Valid.{IsValidGear, IsValidLine, IsValidMove}
use Rattle.clock_line.proofs.Boards.{board-mono}
use Rattle.clock_line.proofs.Holding.{chosen as chosen_later, tick-mono}
use Rattle.clock_line.proofs.Turns.{turn-below}
use Rattle.trapezoid.proofs.Distances.{quotients-within}
use Rattle.step_ticks.proofs.Lists.{filtered-All}
use Rattle.step_ticks.proofs.Within.{IsWithin, steps-within}
use Rattle.section_plan.specs.Runs.{IsJoined, IsShortMove, move_ns, part_at, steps_of_move}
use Rattle.section_plan.proofs.Boards.{alone-board, alone-tick, last_turn-soon, room-for, shorter, filtered-shorter, next-turn, turn-within}
use Rattle.section_plan.proofs.Counts.{few-steps, raw_steps-append}
use Rattle.section_plan.proofs.Durations.{duration-small}
use Rattle.section_stream.proofs.Speeds.{joined-at, length-greatest}
use Rattle.section_feed.specs.Boards.{IsLasting, MayStart, most_ns}
use Rattle.section_feed.proofs.Lasts.{kept-lasting, lines-small}

-- the parts of a move have its distance together
three_parts : (p q r : Part) → sum_by (λ x. x.d) (p ∷ q ∷ r ∷ []) ≡ p.d + q.d + r.d
three_parts p q r =
    let D : Part → ℕ = λ x. x.d in
    let a = sum_by-cons D p (q ∷ r ∷ []) in
    let b = sum_by-cons D q (r ∷ []) in
    let c = sum_by-cons D r [] in
    omega (arith, a, b, c)

changes_within : (v g h a most top : ℕ) → top ≡ min v (max (max g h) ((g + h + a) / 2)) → a ≤ most → gap g h ≤ most → (top - g) + (top - h) ≤ most
changes_within v g h a most top is small apart = omega arith

parts_whole : (m : Move) (g h cruise : ℕ) → IsValidMove m → IsJoined m g h → sum_by (λ p. p.d) (parts m g h cruise) ≡ m.d
parts_whole m g h cruise valid joined =
    let top = top_speed m g h cruise in
    let rising = (top - g) / (2 * m.a) in
    let falling = (top - h) / (2 * m.a) in
    let some = valid.moves in
    let strong = valid.acceleration_low in
    let within : changing m cruise ≤ m.d = omega (arith, some) in
    let change : 2 * m.a * changing m cruise ≤ speed_change m = mul-le-mul_left (2 * m.a) within in
    let room = changes_within (m.v * m.v) g h (2 * m.a * changing m cruise) (speed_change m) top refl change joined.apart in
    let both = quotients-within (2 * m.a) m.d (top - g) (top - h) (omega (arith, strong)) room in
    let all = three_parts (part rising g top) (part (m.d - rising - falling) top top) (part falling top h) in
    omega (arith, both, all)

-- some parts of moves on a drive: their raw steps come by a tick, and are few
pub record AreFew (g : Gear) (f : ℕ) (F : TimedPart → Segment) (low top n : ℕ) (ts : List TimedPart) : Type 0 where
  pub within : All (IsWithin low top) (raw_steps g f (map F ts))
  pub few : length (raw_steps g f (map F ts)) ≤ n

joined_few : (g : Gear) (f : ℕ) (F : TimedPart → Segment) (low top n k : ℕ) (ts us : List TimedPart) → AreFew g f F low top n ts → AreFew g f F low top k us → AreFew g f F low top (n + k) (ts ++ us)
joined_few g f F low top n k ts us a b =
    let e : raw_steps g f (map F (ts ++ us)) ≡ raw_steps g f (map F ts) ++ raw_steps g f (map F us) = ap (raw_steps g f) (map-append F ts us) ∙ raw_steps-append g f (map F ts) (map F us) in
    let l = length-append (raw_steps g f (map F ts)) (raw_steps g f (map F us)) in
    let one = a.few in
    let two = b.few in
    record {
      within = subst (λ (xs : List Planned). All (IsWithin low top) xs) (sym e) (All-append (IsWithin low top) (raw_steps g f (map F ts)) (raw_steps g f (map F us)) a.within b.within);
      few = subst (λ (xs : List Planned). length xs ≤ n + k) (sym e) (omega (arith, l, one, two));
    }

chosen : (P : List TimedPart → Type 0) (b : Bool) (xs ys : List TimedPart) → P xs → P ys → P (cond b xs ys)
chosen P true xs ys h k = h
chosen P false xs ys h k = k

raw_within : (g : Gear) (f : ℕ) (corexy : Bool) (drive : ℕ) (line : Line) (m : Move) (before begin top : ℕ) (ps : List Part) → tick line (begin + duration ps) ≤ top → All (IsWithin line.clock top) (raw_steps g f (map (segment_of corexy drive line) (timed m before begin ps)))
raw_within g f corexy drive line m before begin top [] by = All-nil (IsWithin line.clock top)
raw_within g f corexy drive line m before begin top (p ∷ ps) by =
    let F = segment_of corexy drive line in
    let others = timed m (before + p.d) (begin + p.ns) ps in
    let here = part_at m p before begin in
    let s = F here in
    let time : begin + p.ns + duration ps ≡ begin + duration (p ∷ ps) = omega arith in
    let later = raw_within g f corexy drive line m (before + p.d) (begin + p.ns) top ps (subst (λ t. tick line t ≤ top) (sym time) by) in
    let up = tick-mono line begin (begin + p.ns) (omega arith) in
    let end = tick-mono line (begin + p.ns) (begin + duration (p ∷ ps)) (omega arith) in
    let own : All (IsWithin line.clock top) (segment_steps g f s) = (λ k d lt.
    let w = steps-within g f s (range_with_len 1 (counts_passed g s s.before (s.before + s.d))) k d lt in
    let from = w.after in
    let to = w.before in
    record { after = omega (arith, from); before = omega (arith, to, up, end, by) }) in
    chosen (λ ts. All (IsWithin line.clock top) (raw_steps g f (map F ts))) (eqb p.d 0) others (here ∷ others) later
    (All-append (IsWithin line.clock top) (segment_steps g f s) (raw_steps g f (map F others)) own later)

-- the speeds at the ends of moves that can join them
abbrev pub AreJoined : List Move → List ℕ → Type 0
AreJoined moves speeds = (i : ℕ) → i < length moves → IsJoined (get_or moves i no_move) (get_or speeds i 0) (get_or speeds (i + 1) 0)

joined_rest : (m : Move) (moves : List Move) (s : ℕ) (speeds : List ℕ) → AreJoined (m ∷ moves) (s ∷ speeds) → AreJoined moves speeds
joined_rest m moves s speeds h = λ i lt. let e : suc i + 1 ≡ suc (i + 1) = omega arith in subst (λ n. IsJoined (get_or moves i no_move) (get_or speeds i 0) (get_or (s ∷ speeds) n 0)) e (h (suc i) (omega (arith, lt)))

pub moves_few : (g : Gear) (f : ℕ) (corexy : Bool) (drive : ℕ) (line : Line) (cruise top : ℕ) (moves : List Move) (speeds : List ℕ) (begin : ℕ) → IsValidGear g → drive < 4 → cruise < 1_000_000 → All IsShortMove moves → length speeds ≡ length moves + 1 → AreJoined moves speeds → tick line (begin + length moves * move_ns) ≤ top
    → AreFew g f (segment_of corexy drive line) line.clock top (length moves * steps_of_move) (timed_moves cruise moves speeds begin)
moves_few g f corexy drive line cruise top [] speeds begin gear four share short count joined by = record { within = All-nil (IsWithin line.clock top); few = omega arith }
moves_few g f corexy drive line cruise top (m ∷ moves) [] begin gear four share short count joined by = absurd (omega (arith, count))
moves_few g f corexy drive line cruise top (m ∷ moves) (s ∷ []) begin gear four share short count joined by = absurd (omega (arith, count))
moves_few g f corexy drive line cruise top (m ∷ moves) (s ∷ t ∷ speeds) begin gear four share short count joined by =
    let F = segment_of corexy drive line in
    let ps = parts m s t cruise in
    let one : IsShortMove m = All-head IsShortMove m moves short in
    let time = duration-small m s t cruise one.valid one.short share in
    let whole = parts_whole m s t cruise one.valid (joined 0 (omega arith)) in
    let here_by = tick-mono line (begin + duration ps) (begin + length (m ∷ moves) * move_ns) (omega (arith, time)) in
    let rest_by = tick-mono line (begin + duration ps + length moves * move_ns) (begin + length (m ∷ moves) * move_ns) (omega (arith, time)) in
    let here : AreFew g f F line.clock top steps_of_move (timed m 0 begin ps) = record {
      within = raw_within g f corexy drive line m 0 begin top ps (omega (arith, here_by, by));
      few = few-steps g f corexy drive line m begin ps gear one.valid four refl whole;
    } in
    let rest = moves_few g f corexy drive line cruise top moves (t ∷ speeds) (begin + duration ps) gear four share (All-tail IsShortMove m moves short) (omega (arith, count)) (joined_rest m moves s (t ∷ speeds) joined) (omega (arith, rest_by, by)) in
    let both = joined_few g f F line.clock top steps_of_move (length moves * steps_of_move) (timed m 0 begin ps) (timed_moves cruise moves (t ∷ speeds) (begin + duration ps)) here rest in
    record { within = both.within; few = let n = both.few in omega (arith, n) }

-- moves that are short end soon
end_soon : (cruise : ℕ) (moves : List Move) (speeds : List ℕ) (begin : ℕ) → cruise < 1_000_000 → All IsShortMove moves → end_time cruise moves speeds begin ≤ begin + length moves * move_ns
end_soon cruise [] speeds begin share short = omega arith
end_soon cruise (m ∷ moves) [] begin share short = omega arith
end_soon cruise (m ∷ moves) (s ∷ []) begin share short = omega arith
end_soon cruise (m ∷ moves) (s ∷ t ∷ speeds) begin share short =
    let one : IsShortMove m = All-head IsShortMove m moves short in
    let time = duration-small m s t cruise one.valid one.short share in
    let rest = end_soon cruise moves (t ∷ speeds) (begin + duration (parts m s t cruise)) share (All-tail IsShortMove m moves short) in
    omega (arith, time, rest)

spaced_by : (clocks : Clocks) (last top most : ℕ) (xs : List Planned) → clocks.held ≡ [] → last ≤ top → top + 4 * length xs ≤ most → All (IsWithin clocks.first.clock top) xs → All (λ q. q.tick ≤ most) (spaced last (map (on_board clocks) xs))
spaced_by clocks last top most [] alone to room h = All-nil (λ (q : Planned). q.tick ≤ most)
spaced_by clocks last top most (x ∷ xs) alone to room h =
    let own : IsWithin clocks.first.clock top x = h 0 x (omega arith) in
    let from = own.after in
    let before = own.before in
    let same = alone-board clocks x.tick alone from in
    let t = max (on_board clocks x).tick (last + 4) in
    All-cons (λ (q : Planned). q.tick ≤ most) (record { tick = t; up = x.up }) (spaced t (map (on_board clocks) xs)) (omega (arith, same, before, to, room))
    (spaced_by clocks t (top + 4) most xs alone (omega (arith, same, before, to)) (omega (arith, room)) (λ k d lt. let w = h (suc k) d (omega (arith, lt)) in let a = w.after in let b = w.before in record { after = a; before = omega (arith, b) }))

planned_by : (gear : Gear) (clocks : Clocks) (segments : List Segment) (base top most : ℕ) → clocks.held ≡ [] → base ≤ top → All (IsWithin clocks.first.clock top) (raw_steps gear clocks.first.freq segments) → top + 4 * length (raw_steps gear clocks.first.freq segments) ≤ most → All (λ q. q.tick ≤ most) (planned_steps gear clocks segments base)
planned_by gear clocks segments base top most alone to within room =
    let raw = raw_steps gear clocks.first.freq segments in
    let reach = cancel_reach clocks.first.freq in
    let fewer = filtered-shorter reach raw in
    spaced_by clocks base top most (filtered reach raw) alone to (omega (arith, fewer, room)) (filtered-All (IsWithin clocks.first.clock top) reach raw within)

-- a stepper's last step is soon
stepper_soon : (m : Machine) (clocks : List Clocks) (moves : List Move) (turn s : ℕ) → IsValidMachine m → s < length m.steppers → MayStart (clocks_at clocks (stepper_at m s).board) turn → (clocks_at clocks (stepper_at m s).board).held ≡ [] → All IsShortMove moves → 0 < length moves → stepper_end m clocks moves turn s ≤ turn + length moves * turns_of_move
stepper_soon m clocks moves turn s valid there may alone short some =
    let def = stepper_at m s in
    let own = clocks_at clocks def.board in
    let line = own.first in
    let n = length moves in
    let ok = valid.steppers s there in
    let begun = may.begun in
    let top = tick line (turn * turn_ns + n * move_ns) in
    let last = turn + n * turns_of_move in
    let most = tick line (last * turn_ns) in
    let few = moves_few def.gear line.freq m.corexy def.drive line m.cruise top moves (greatest_speeds moves m.scv) (turn * turn_ns) ok.gear ok.drive valid.cruise short (length-greatest moves m.scv) (λ i lt. joined-at moves m.scv i lt) (omega arith) in
    let raw = few.few in
    let room = room-for line turn n may.lasting.valid begun some in
    let base = alone-tick own (turn * turn_ns) alone in
    let up = tick-mono line (turn * turn_ns) (turn * turn_ns + n * move_ns) (omega arith) in
    let all = planned_by def.gear own (map (segment_of m.corexy def.drive line) (timed_moves m.cruise moves (greatest_speeds moves m.scv) (turn * turn_ns))) (lines_tick own (turn * turn_ns)) top most alone (omega (arith, base, up)) few.within (omega (arith, raw, room)) in
    last_turn-soon own last (stepper_plan m clocks moves turn s) (λ k d lt. turn-within own last (get_or (stepper_plan m clocks moves turn s) k d).tick may.lasting.valid alone (omega (arith, begun)) (all k d lt))

latest_by : (xs : List ℕ) (most : ℕ) → ((k d : ℕ) → k < length xs → get_or xs k d ≤ most) → latest xs ≤ most
latest_by [] most all = omega arith
latest_by (x ∷ xs) most all = let own = all 0 x (omega arith) in let rest = latest_by xs most (λ k d lt. all (suc k) d (omega (arith, lt))) in omega (arith, own, rest)

-- A section ends no later than its moves may take, with the steps that follow one another too closely behind it.
pub section_soon : (m : Machine) (clocks : List Clocks) (moves : List Move) (turn : ℕ) → IsValidMachine m → ((b : ℕ) → b < length m.boards → MayStart (clocks_at clocks b) turn) → ((b : ℕ) → b < length m.boards → (clocks_at clocks b).held ≡ []) → All IsShortMove moves → 0 < length moves → section_end m clocks moves turn ≤ turn + length moves * turns_of_move
section_soon m clocks moves turn valid may alone short some =
    let f = stepper_end m clocks moves turn in
    let n = length m.steppers in
    let last = turn + length moves * turns_of_move in
    let time = end_soon m.cruise moves (greatest_speeds moves m.scv) (turn * turn_ns) valid.cruise short in
    let over : end_time m.cruise moves (greatest_speeds moves m.scv) (turn * turn_ns) / turn_ns ≤ last = omega (arith, time) in
    let long = length-map-range_with_len f 0 n in
    let steps = latest_by (for_each_stepper m f) last (λ k d lt.
    let inside : k < n = omega (arith, lt, long) in
    let is = get_or-map-range_with_len f 0 n k k d inside (omega arith) in
    let own = stepper_soon m clocks moves turn k valid inside (may (stepper_at m k).board (valid.steppers k inside).board) (alone (stepper_at m k).board (valid.steppers k inside).board) short some in
    omega (arith, is, own)) in
    omega (arith, over, steps)

-- the same by any lines: steps are not much later than their plan ticks
spaced_within : (clocks : Clocks) (low last top board most : ℕ) (xs : List Planned) → ((n : ℕ) → n ≤ top → lines_board clocks n ≤ board) → last ≤ board → board + 4 * length xs ≤ most → All (IsWithin low top) xs → All (λ q. q.tick ≤ most) (spaced last (map (on_board clocks) xs))
spaced_within clocks low last top board most [] by to room h = All-nil (λ (q : Planned). q.tick ≤ most)
spaced_within clocks low last top board most (x ∷ xs) by to room h =
    let own : IsWithin low top x = h 0 x (omega arith) in
    let before = own.before in
    let at = by x.tick before in
    let t = max (on_board clocks x).tick (last + 4) in
    All-cons (λ (q : Planned). q.tick ≤ most) (record { tick = t; up = x.up }) (spaced t (map (on_board clocks) xs)) (omega (arith, at, to, room))
    (spaced_within clocks low t top (board + 4) most xs (λ n le. (let b = by n le in omega (arith, b))) (omega (arith, at, to)) (omega (arith, room)) (All-tail (IsWithin low top) x xs h))

pub planned_within : (gear : Gear) (clocks : Clocks) (segments : List Segment) (low base top board most : ℕ) → ((n : ℕ) → n ≤ top → lines_board clocks n ≤ board) → base ≤ board → All (IsWithin low top) (raw_steps gear clocks.first.freq segments) → board + 4 * length (raw_steps gear clocks.first.freq segments) ≤ most
    → All (λ q. q.tick ≤ most) (planned_steps gear clocks segments base)
planned_within gear clocks segments low base top board most by to within room =
    let raw = raw_steps gear clocks.first.freq segments in
    let reach = cancel_reach clocks.first.freq in
    let fewer = filtered-shorter reach raw in
    spaced_within clocks low base top board most (filtered reach raw) by to (omega (arith, fewer, room)) (filtered-All (IsWithin low top) reach raw within)

-- lines that all hold by a plan tick rise no faster than plan ticks behind it
abbrev HoldBy : Line → ℕ → List Held → Type 0
HoldBy first a [] = Unit {0}
HoldBy first a (h ∷ held) = (tick first h.from ≤ a) × HoldBy first a held

board_steep : (first line : Line) (from most : ℕ) (held : List Held) (a n : ℕ) → a ≤ n → HoldBy first a held → board_over first line from most held n ≤ board_over first line from most held a + (n - a)
board_steep first line from most [] a n le by = omega (arith, le)
board_steep first line from most (h ∷ held) a n le by =
    let now = by.0 in
    let rest = board_steep first h.line h.from (max most (come first line from (tick first h.from))) held a n le by.1 in
    let here : board_over first line from most (h ∷ held) n ≡ board_over first h.line h.from (max most (come first line from (tick first h.from))) held n = chosen_later (nat_le (tick first h.from) n) _ _ (grind (arith, nat_tests)) in
    let there : board_over first line from most (h ∷ held) a ≡ board_over first h.line h.from (max most (come first line from (tick first h.from))) held a = chosen_later (nat_le (tick first h.from) a) _ _ (grind (arith, nat_tests)) in
    omega (arith, rest, here, there)

held_by : (first line : Line) (from most : ℕ) (held : List Held) (bound : ℕ) → AreHeld first line from most held → last_from from held ≤ bound → HoldBy first (tick first bound) held
held_by first line from most [] bound are last = tt
held_by first line from most (h ∷ held) bound are last =
    let later = last_late first h.line h.from h.most held are.4 in
    (tick-mono first h.from bound (omega (arith, last, later)), held_by first h.line h.from h.most held bound are.4 last)
  where
    last_late : (first line : Line) (from most : ℕ) (held : List Held) → AreHeld first line from most held → from ≤ last_from from held
    last_late first line from most [] are = omega arith
    last_late first line from most (g ∷ held) are = let rest = last_late first g.line g.from g.most held are.4 in let up = are.0 in omega (arith, rest, up)

-- a board's tick of a plan tick is not much later
board_far : (clocks : Clocks) (n : ℕ) → IsLasting clocks → lines_board clocks n < tick_limit + n
board_far clocks n is =
    let kept = kept-lasting clocks is in
    let soon = is.soon in
    let small = is.small in
    let a = tick clocks.first most_ns in
    elim (cases_lt n a) as (λ _. lines_board clocks n < tick_limit + n) [
      | inl low ↦ (let m = board-mono clocks n a (omega (arith, low)) in omega (arith, m, small))
      | inr far ↦ (let s = board_steep clocks.first clocks.first 0 0 clocks.held a n far (held_by clocks.first clocks.first 0 0 clocks.held most_ns kept.held (omega (arith, soon))) in omega (arith, s, small))
    ]

-- a turn has 1,000 ticks or more
tick_least : (line : Line) (time a : ℕ) → 1_000_000 ≤ line.freq → line.at ≤ a → (time - a) / 1_000 ≤ tick line time
tick_least line time a low at =
    let product : (time - line.at) * 1_000_000 ≤ (time - line.at) * line.freq = mul-le-mul_left (time - line.at) low in
    omega (arith, product, at)

over_least : (first line : Line) (from most : ℕ) (held : List Held) (time a : ℕ) → 1_000_000 ≤ first.freq → line.freq ≡ first.freq → line.at ≤ a → AreHeld first line from most held → last_from from held ≤ a → (m : ℕ) → (time - a) / 1_000 ≤ tick_over line m held time
over_least first line from most [] time a low same at are last m = let t = tick_least line time a (omega (arith, low, same)) at in omega (arith, t)
over_least first line from most (h ∷ held) time a low same at are last m =
    let t = tick_least line time a (omega (arith, low, same)) at in
    let fit = are.5 in
    let own = fit.before in
    let up = last_late h.from h.line h.most held are.4 in
    let rest = over_least first h.line h.from h.most held time a low fit.same_freq (omega (arith, own, up, last)) are.4 last (max m (tick line h.from)) in
    either (nat_le h.from time) (tick_over h.line (max m (tick line h.from)) held time) (max m (tick line time)) rest (omega (arith, t))
  where
    last_late : (from : ℕ) (line : Line) (most : ℕ) (held : List Held) → AreHeld first line from most held → from ≤ last_from from held
    last_late from line most [] are = omega arith
    last_late from line most (g ∷ held) are = let r = last_late g.from g.line g.most held are.4 in let u = are.0 in omega (arith, r, u)

    either : (b : Bool) (x y : ℕ) → (time - a) / 1_000 ≤ x → (time - a) / 1_000 ≤ y → (time - a) / 1_000 ≤ cond b x y
    either true x y h k = h
    either false x y h k = k

-- no tick is in a turn that stands for none
turn_known : (clocks : Clocks) (t : ℕ) → IsLasting clocks → clocks.first.at ≤ most_ns → t ≤ 2 ^ 66 → lines_turn clocks t ≤ 2 ^ 58
turn_known clocks t is begun few =
    let kept = kept-lasting clocks is in
    let soon = is.soon in
    let low = is.valid.freq_low in
    let least = over_least clocks.first clocks.first 0 0 clocks.held ((2 ^ 58 + 1) * turn_ns) most_ns low refl begun kept.held (omega (arith, soon)) 0 in
    turn-below clocks t (2 ^ 58) (omega (arith, least, few))

-- a stepper's last step is in a turn of a run
stepper_known : (m : Machine) (clocks : List Clocks) (moves : List Move) (turn s : ℕ) → IsValidMachine m → s < length m.steppers → MayStart (clocks_at clocks (stepper_at m s).board) turn → All IsShortMove moves → length moves ≤ 2_000_000 → stepper_end m clocks moves turn s ≤ 2 ^ 58
stepper_known m clocks moves turn s valid there may short some =
    let def = stepper_at m s in
    let own = clocks_at clocks def.board in
    let line = own.first in
    let n = length moves in
    let ok = valid.steppers s there in
    let begun = may.begun in
    let small = may.turn_small in
    let lasting = may.lasting in
    let low = lasting.clock_small in
    let high = lasting.valid.freq_high in
    let time = turn * turn_ns + n * move_ns in
    let top = tick line time in
    let away : (time - line.at) * line.freq ≤ (time - line.at) * 200_000_000 = mul-le-mul_left (time - line.at) high in
    let reach : top ≤ 2 ^ 64 = omega (arith, away, low, small, some) in
    let few = moves_few def.gear line.freq m.corexy def.drive line m.cruise top moves (greatest_speeds moves m.scv) (turn * turn_ns) ok.gear ok.drive valid.cruise short (length-greatest moves m.scv) (λ i lt. joined-at moves m.scv i lt) (omega arith) in
    let raw = few.few in
    let base = lines-small own (turn * turn_ns) lasting (omega (arith, small)) in
    let all = planned_within def.gear own (map (segment_of m.corexy def.drive line) (timed_moves m.cruise moves (greatest_speeds moves m.scv) (turn * turn_ns))) line.clock (lines_tick own (turn * turn_ns)) top (tick_limit + top) (2 ^ 66)
    (λ k le. (let b = board_far own k lasting in omega (arith, b, le))) (omega (arith, base)) few.within (omega (arith, raw, some, reach)) in
    last_turn-soon own (2 ^ 58) (stepper_plan m clocks moves turn s) (λ k d lt. turn_known own (get_or (stepper_plan m clocks moves turn s) k d).tick lasting (omega (arith, begun, small)) (all k d lt))

-- a section ends in a turn of a run, whatever its lines are
pub section_known : (m : Machine) (clocks : List Clocks) (moves : List Move) (turn : ℕ) → IsValidMachine m → ((b : ℕ) → b < length m.boards → MayStart (clocks_at clocks b) turn) → All IsShortMove moves → length moves ≤ 2_000_000 → section_end m clocks moves turn ≤ 2 ^ 58
section_known m clocks moves turn valid may short few =
    let f = stepper_end m clocks moves turn in
    let n = length m.steppers in
    let small = (may 0 valid.boards_some).turn_small in
    let time = end_soon m.cruise moves (greatest_speeds moves m.scv) (turn * turn_ns) valid.cruise short in
    let over : end_time m.cruise moves (greatest_speeds moves m.scv) (turn * turn_ns) / turn_ns ≤ 2 ^ 58 = omega (arith, time, small, few) in
    let long = length-map-range_with_len f 0 n in
    let steps = latest_by (for_each_stepper m f) (2 ^ 58) (λ k d lt.
    let inside : k < n = omega (arith, lt, long) in
    let is = get_or-map-range_with_len f 0 n k k d inside (omega arith) in
    let own = stepper_known m clocks moves turn k valid inside (may (stepper_at m k).board (valid.steppers k inside).board) short few in
    omega (arith, is, own)) in
    omega (arith, over, steps)
