-- Ticks and turns of a board to whose lines one more is added, which holds from a time on.
use Rattle.std.proofs.Common.{◌≡◌, inl, inr, ℕ, suc, ◌+◌, ◌-◌, ◌*◌, ◌/◌, ◌%◌, ◌<◌, ◌≤◌, List, [], ◌∷◌, ◌++◌, All, map, max, Bool, true, false, cond, arith, ap, refl, subst, sym, ◌∙◌}
use Rattle.std.specs.Prelude.{nat_le, nat_lt, take_while, ◌&&◌}
use Rattle.std.proofs.Math.Nat.{div-add-mod}
use Rattle.std.proofs.lemmas.Nat.{mod_below}
use Rattle.std.proofs.lemmas.Bool.{cases_lt, ltb-true}
use Rattle.std.proofs.lemmas.List.Elements.{All-cons, All-nil}
use Rattle.std.proofs.lemmas.List.Sums.{take_while-cons}
use Rattle.std.proofs.lemmas.Bool.Decides.{nat_tests}
use Rattle.plan_types.specs.declared.plan.Line.{Line}
use Rattle.plan_types.specs.declared.plan.Held.{Held}
use Rattle.plan_types.specs.Clock.{tick, turn_ns}
use Rattle.plan_types.specs.Lines.{AreHeld, Clocks, IsFit, board_over, come, last_from, lines_board, lines_tick, lines_turn, tick_over}
use Rattle.plan_types.specs.Plan.{cancel_reach, filtered, max_error, on_board, spaced}
use Rattle.plan_types.specs.Steps.{raw_steps}
use Rattle.plan_types.specs.declared.plan.Gear.{Gear}
use Rattle.plan_types.specs.declared.plan.Planned.{Planned}
use Rattle.plan_types.specs.declared.plan.Segment.{Segment}
use Rattle.step_ticks.specs.Due.{is_due}
use Rattle.step_ticks.specs.Streaming.{due_steps}
use Rattle.plan_types.specs.Valid.{IsValidLine}
use Rattle.clock_line.specs.Kept.{AreKept, added}
use Rattle.clock_line.proofs.Boards.{board-added, board-mono, board-least}
use Rattle.clock_line.proofs.Holding.{are-added, chosen, come-first, come-is, passed, tick-mono, tick-zero, come-fit}
use Rattle.clock_line.proofs.Turns.{last_from-above, last_from-each, tick_over-mono, turn-after, turn-below}
use Rattle.section_stream.specs.Apart.{AreTurnsApart, IsNearby}
use Rattle.step_ticks.proofs.Giving.{same-on-board}

-- the line that is added, with what it keeps of those before it
abbrev one_more : Clocks → ℕ → Line → Held
one_more clocks from line = record { from = from; line = line; most = lines_tick clocks from; start = tick line from; plan = tick clocks.first from }

-- before its time the ticks stay
tick-before : (line : Line) (most : ℕ) (held : List Held) (h : Held) (time : ℕ) → time < h.from → tick_over line most (held ++ h ∷ []) time ≡ tick_over line most held time
tick-before line most [] h time before = passed (nat_le h.from time) _ _ (grind (arith, nat_tests))
tick-before line most (g ∷ held) h time before = ap (λ n. cond (nat_le g.from time) n (max most (tick line time))) (tick-before g.line (max most (tick line g.from)) held h time before)

pub added-before : (clocks : Clocks) (from : ℕ) (line : Line) (time : ℕ) → time < from → lines_tick (added clocks from line) time ≡ lines_tick clocks time
added-before clocks from line time before = tick-before clocks.first 0 clocks.held (one_more clocks from line) time before

-- from its time on they are those of the line, and never below the tick that the others had then
tick-behind : (first line : Line) (start most : ℕ) (held : List Held) (h : Held) (time : ℕ) → AreHeld first line start most held → last_from start held ≤ h.from → h.from ≤ time → tick_over line most (held ++ h ∷ []) time ≡ max (tick_over line most held h.from) (tick h.line time)
tick-behind first line start most [] h time are last order = chosen (nat_le h.from time) _ _ (grind (arith, nat_tests))
tick-behind first line start most (g ∷ held) h time are last order =
    let above = last_from-above first g.line g.from g.most held are.4 in
    let m = are.1 in
    let one : tick_over line most (g ∷ held ++ h ∷ []) time ≡ tick_over g.line (max most (tick line g.from)) (held ++ h ∷ []) time = chosen (nat_le g.from time) _ _ (grind (arith, nat_tests)) in
    let two : tick_over line most (g ∷ held) h.from ≡ tick_over g.line (max most (tick line g.from)) held h.from = chosen (nat_le g.from h.from) _ _ (grind (arith, nat_tests)) in
    let three = tick-behind first g.line g.from g.most held h time are.4 last order in
    one ∙ ap (λ x. tick_over g.line x (held ++ h ∷ []) time) (sym m) ∙ three ∙ ap (λ x. max x (tick h.line time)) (ap (λ x. tick_over g.line x held h.from) m ∙ sym two)

pub added-behind : (clocks : Clocks) (from : ℕ) (line : Line) (time : ℕ) → AreKept clocks → last_from 0 clocks.held < from → from ≤ time → lines_tick (added clocks from line) time ≡ max (lines_tick clocks from) (tick line time)
added-behind clocks from line time kept after order = tick-behind clocks.first clocks.first 0 0 clocks.held (one_more clocks from line) time kept.held (omega arith) order

-- up to its time none becomes less
pub added-least : (clocks : Clocks) (from : ℕ) (line : Line) (time : ℕ) → AreKept clocks → last_from 0 clocks.held < from → time ≤ from → lines_tick clocks time ≤ lines_tick (added clocks from line) time
added-least clocks from line time kept after order = elim (cases_lt time from) [
  | inl before ↦ (let e = added-before clocks from line time before in omega arith)
  | inr over ↦ (
      let same : time ≡ from = omega arith in
      let e = added-behind clocks from line time kept after over in
      let f : lines_tick clocks time ≡ lines_tick clocks from = ap (lines_tick clocks) same in
      omega arith)
]

-- the lines are those of a board again
pub kept-added : (clocks : Clocks) (from : ℕ) (line : Line) → AreKept clocks → last_from 0 clocks.held < from → IsFit clocks.first line from → AreKept (added clocks from line)
kept-added clocks from line kept after fit = record {
  valid = kept.valid;
  held = are-added clocks.first clocks.first 0 0 clocks.held (one_more clocks from line) kept.held (omega arith) (λ i inside. (let e = last_from-each clocks.first clocks.first 0 0 clocks.held kept.held i inside in omega arith)) refl refl refl fit;
}

-- ticks before a turn that begins by its time stay in their turns
pub turn-added : (clocks : Clocks) (from : ℕ) (line : Line) (turn t : ℕ) → AreKept clocks → last_from 0 clocks.held < from → IsFit clocks.first line from → turn * turn_ns ≤ from → t < lines_tick clocks (turn * turn_ns) → lines_turn (added clocks from line) t ≡ lines_turn clocks t
turn-added clocks from line turn t kept after fit order before =
    let new = added clocks from line in
    let a = lines_turn clocks t in
    let b = lines_turn new t in
    let here = added-least clocks from line (turn * turn_ns) kept after order in
    let was = turn-after clocks t a kept (omega arith) in
    let is = turn-after new t b (kept-added clocks from line kept after fit) (omega arith) in
    let down : t < lines_tick new ((a + 1) * turn_ns) = elim (cases_lt (a + 1) turn) as (λ _. t < lines_tick new ((a + 1) * turn_ns)) [
      | inl less ↦ (let l = added-least clocks from line ((a + 1) * turn_ns) kept after (omega arith) in omega arith)
      | inr more ↦ (let m = tick_over-mono new.first 0 new.held (turn * turn_ns) ((a + 1) * turn_ns) (omega arith) in omega arith)
    ] in
    let up : t < lines_tick clocks ((b + 1) * turn_ns) = elim (cases_lt ((b + 1) * turn_ns) from) as (λ _. t < lines_tick clocks ((b + 1) * turn_ns)) [
      | inl less ↦ (let e = added-before clocks from line ((b + 1) * turn_ns) less in omega arith)
      | inr more ↦ (let m = tick_over-mono clocks.first 0 clocks.held (turn * turn_ns) ((b + 1) * turn_ns) (omega arith) in omega arith)
    ] in
    let one = turn-below new t a down in
    let two = turn-below clocks t b up in
    omega arith

-- before a board's first line nothing happens
begin-over : (first : Line) (held : List Held) (time : ℕ) → AreHeld first first 0 0 held → time < first.at → tick_over first 0 held time ≡ first.clock
begin-over first [] time are before =
    let m = tick-mono first 0 time (omega arith) in
    let none : time - first.at ≡ 0 - first.at = omega arith in
    let z = tick-zero first in
    let e : tick first time ≡ tick first 0 = ap (λ n. first.clock + n * first.freq / 1_000_000_000) none in
    omega arith
begin-over first (h ∷ held) time are before =
    let fit = are.5 in
    let from = fit.first_before in
    let none : time - first.at ≡ 0 - first.at = omega arith in
    let z = tick-zero first in
    let e : tick first time ≡ tick first 0 = ap (λ n. first.clock + n * first.freq / 1_000_000_000) none in
    let p : tick_over first 0 (h ∷ held) time ≡ max 0 (tick first time) = passed (nat_le h.from time) _ _ (grind (arith, nat_tests)) in
    omega arith

pub begin-tick : (clocks : Clocks) (time : ℕ) → AreKept clocks → time < clocks.first.at → lines_tick clocks time ≡ clocks.first.clock
begin-tick clocks time kept before = begin-over clocks.first clocks.held time kept.held before

over-from : (first line : Line) (from most : ℕ) (held : List Held) (time : ℕ) → AreHeld first line from most held → ((t : ℕ) → from ≤ t → come first line from (tick first t) ≡ tick line t) → from ≤ time → tick_over line most held time ≤ board_over first line from most held (tick first time)
over-from first line from most [] time are comes order = let c = comes time order in omega arith
over-from first line from most (h ∷ held) time are comes order =
    let n = tick first time in
    let c = comes time order in
    let above = are.0 in
    elim (cases_lt time h.from) as (λ _. tick_over line most (h ∷ held) time ≤ board_over first line from most (h ∷ held) n) [
      | inl before ↦ (
          let e : tick_over line most (h ∷ held) time ≡ max most (tick line time) = passed (nat_le h.from time) _ _ (grind (arith, nat_tests)) in
          let up = tick-mono first time h.from (omega arith) in
          elim (cases_lt n (tick first h.from)) as (λ _. tick_over line most (h ∷ held) time ≤ board_over first line from most (h ∷ held) n) [
            | inl less ↦ (let f : board_over first line from most (h ∷ held) n ≡ max most (come first line from n) = passed (nat_le (tick first h.from) n) _ _ (grind (arith, nat_tests)) in omega arith)
            | inr more ↦ (
                let f : board_over first line from most (h ∷ held) n ≡ board_over first h.line h.from (max most (come first line from (tick first h.from))) held n = chosen (nat_le (tick first h.from) n) _ _ (grind (arith, nat_tests)) in
                let l = board-least first h.line h.from (max most (come first line from (tick first h.from))) held n in
                omega arith)
          ])
      | inr late ↦ (
          let up = tick-mono first h.from time late in
          let m = are.1 in
          let d = comes h.from (omega arith) in
          let e : tick_over line most (h ∷ held) time ≡ tick_over h.line (max most (tick line h.from)) held time = chosen (nat_le h.from time) _ _ (grind (arith, nat_tests)) in
          let f : board_over first line from most (h ∷ held) n ≡ board_over first h.line h.from (max most (come first line from (tick first h.from))) held n = chosen (nat_le (tick first h.from) n) _ _ (grind (arith, nat_tests)) in
          let g : tick_over h.line (max most (tick line h.from)) held time ≡ tick_over h.line h.most held time = ap (λ x. tick_over h.line x held time) (sym m) in
          let k : board_over first h.line h.from (max most (come first line from (tick first h.from))) held n ≡ board_over first h.line h.from h.most held n = ap (λ x. board_over first h.line h.from x held n) (ap (max most) d ∙ sym m) in
          let r = over-from first h.line h.from h.most held time are.4 (λ t o. come-fit first h.line h.from t are.5 o) late in
          omega arith)
    ]

pub board-from : (clocks : Clocks) (time n : ℕ) → AreKept clocks → tick clocks.first time ≤ n → lines_tick clocks time ≤ lines_board clocks n
board-from clocks time n kept order =
    let at = over-from clocks.first clocks.first 0 0 clocks.held time kept.held (λ t o. come-first clocks.first (tick clocks.first t) (omega arith)) (omega arith) in
    let up = board-mono clocks (tick clocks.first time) n order in
    omega arith

-- the turns of one line are apart
pub line-apart : (line : Line) (k : ℕ) → 1_000_000 ≤ line.freq → line.freq % 1_000 ≡ 0 → line.at ≤ k * turn_ns → tick line (k * turn_ns) + max_error line.freq ≤ tick line ((k + 1) * turn_ns)
line-apart line k low_freq whole begun =
    let more : ((k + 1) * turn_ns - line.at) * line.freq ≡ (k * turn_ns - line.at) * line.freq + 1_000_000 * line.freq = (let e : (k + 1) * turn_ns - line.at ≡ (k * turn_ns - line.at) + 1_000_000 = omega arith in rw e (omega arith)) in
    let p = div-add-mod ((k * turn_ns - line.at) * line.freq) 1_000_000_000 in
    let q = div-add-mod (((k + 1) * turn_ns - line.at) * line.freq) 1_000_000_000 in
    let r = mod_below (((k + 1) * turn_ns - line.at) * line.freq) 1_000_000_000 (omega arith) in
    let t = mod_below ((k * turn_ns - line.at) * line.freq) 1_000_000_000 (omega arith) in
    let u = div-add-mod line.freq 1_000 in
    let v = div-add-mod (line.freq * 25) 1_000_000 in
    omega arith

pub one-apart : (clocks : Clocks) → IsValidLine clocks.first → clocks.held ≡ [] → AreTurnsApart clocks
one-apart clocks valid alone = record {
  turns = λ k begun. (
      let one : lines_tick clocks (k * turn_ns) ≡ tick clocks.first (k * turn_ns) = rw alone (omega arith) in
      let two : lines_tick clocks ((k + 6) * turn_ns) ≡ tick clocks.first ((k + 6) * turn_ns) = rw alone (omega arith) in
      let apart = line-apart clocks.first k valid.freq_low valid.freq_whole begun in
      let up = tick-mono clocks.first ((k + 1) * turn_ns) ((k + 6) * turn_ns) (omega arith) in
      omega arith);
}

-- and so they stay where a line is added from the beginning of a turn on that is not too far behind
pub apart-added : (clocks : Clocks) (turn : ℕ) (line : Line) → AreKept clocks → AreTurnsApart clocks → last_from 0 clocks.held < turn * turn_ns → IsFit clocks.first line (turn * turn_ns) → IsNearby clocks turn line → AreTurnsApart (added clocks (turn * turn_ns) line)
apart-added clocks turn line kept apart after fit near = record {
  turns = λ k begun. (
      let from = turn * turn_ns in
      let goes = near.goes in
      let past = near.past in
      elim (cases_lt (k + 6) turn) as (λ _. lines_tick (added clocks from line) (k * turn_ns) + max_error clocks.first.freq ≤ lines_tick (added clocks from line) ((k + 6) * turn_ns)) [
        | inl before ↦ (
            let was = apart.turns k begun in
            let e = added-before clocks from line (k * turn_ns) (omega arith) in
            let f = added-before clocks from line ((k + 6) * turn_ns) (omega arith) in
            omega arith)
        | inr over ↦ (
            let f = added-behind clocks from line ((k + 6) * turn_ns) kept after (omega arith) in
            elim (cases_lt k turn) as (λ _. lines_tick (added clocks from line) (k * turn_ns) + max_error clocks.first.freq ≤ lines_tick (added clocks from line) ((k + 6) * turn_ns)) [
              | inl amid ↦ (
                  let e = added-before clocks from line (k * turn_ns) (omega arith) in
                  let up = tick_over-mono clocks.first 0 clocks.held (k * turn_ns) ((turn - 1) * turn_ns) (omega arith) in
                  omega arith)
              | inr late ↦ (
                  let e = added-behind clocks from line (k * turn_ns) kept after (omega arith) in
                  let same = fit.same_freq in
                  let low = kept.valid.freq_low in
                  let whole = kept.valid.freq_whole in
                  let begins = fit.before in
                  let one = line-apart line k (omega arith) (omega arith) (omega arith) in
                  let error : max_error line.freq ≡ max_error clocks.first.freq = ap max_error same in
                  let up = tick-mono line ((k + 1) * turn_ns) ((k + 6) * turn_ns) (omega arith) in
                  let far = tick-mono line ((turn + 6) * turn_ns) ((k + 6) * turn_ns) (omega arith) in
                  omega arith)
            ])
      ]);
}

before-until : (reach until end bound : ℕ) (steps : List Planned) → until ≤ bound → All (λ k. k.tick < bound) (take_while (is_due reach until end) steps)
before-until reach until end bound [] h = All-nil (λ (k : Planned). k.tick < bound)
before-until reach until end bound (s ∷ steps) h = subst (λ (ks : List Planned). All (λ (k : Planned). k.tick < bound) ks) (sym (take_while-cons (is_due reach until end) s steps)) (one (nat_lt s.tick until) (nat_lt (s.tick + reach) end) refl (before-until reach until end bound steps h))
  where
    one : (b c : Bool) → nat_lt s.tick until ≡ b → All (λ k. k.tick < bound) (take_while (is_due reach until end) steps) → All (λ k. k.tick < bound) (cond (b && c) (s ∷ take_while (is_due reach until end) steps) [])
    one false c e later = All-nil (λ (k : Planned). k.tick < bound)
    one true false e later = All-nil (λ (k : Planned). k.tick < bound)
    one true true e later = All-cons (λ (k : Planned). k.tick < bound) s (take_while (is_due reach until end) steps) (let l = ltb-true s.tick until e in omega arith) later

pub due-added : (gear : Gear) (clocks : Clocks) (from : ℕ) (line : Line) (segments : List Segment) (base until end : ℕ) → until ≤ tick clocks.first from → due_steps gear (added clocks from line) segments base until end ≡ due_steps gear clocks segments base until end
due-added gear clocks from line segments base until end before =
    let reach = cancel_reach clocks.first.freq in
    let kept = take_while (is_due reach until end) (filtered reach (raw_steps gear clocks.first.freq segments)) in
    ap (spaced base) (same-on-board clocks from line kept (before-until reach until end (tick clocks.first from) (filtered reach (raw_steps gear clocks.first.freq segments)) before))
