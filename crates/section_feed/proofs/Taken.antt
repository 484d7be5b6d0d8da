-- When a planned section ends where a board takes up a line while it goes on.
use Rattle.std.proofs.Common.{◌≡◌, ◌⊎◌, ℕ, zero, suc, ◌+◌, ◌*◌, ◌/◌, ◌<◌, ◌≤◌, max, List, [], ◌∷◌, length, map, arith, ap, sym, ◌∙◌, refl, subst, inl, inr}
use Rattle.std.specs.List.{range_with_len}
use Rattle.std.proofs.lemmas.Bool.{cases_eq, cases_lt}
use Rattle.plan_types.specs.declared.machine.Machine.{Machine}
use Rattle.plan_types.specs.declared.plan.Gear.{Gear}
use Rattle.plan_types.specs.declared.plan.Line.{Line}
use Rattle.plan_types.specs.declared.plan.Move.{Move}
use Rattle.plan_types.specs.declared.plan.Planned.{Planned}
use Rattle.plan_types.specs.declared.plan.Segment.{Segment}
use Rattle.plan_types.specs.Clock.{tick, turn_ns}
use Rattle.plan_types.specs.Lines.{Clocks, lines_board, lines_tick, lines_turn}
use Rattle.plan_types.specs.Machines.{stepper_at}
use Rattle.plan_types.specs.Plan.{AreSpaced, cancel_reach, filtered, on_board, planned_steps, spaced}
use Rattle.plan_types.specs.Sections.{clocks_at, end_time, for_each_stepper, last_turn, latest, section_end, section_parts, segment_of, stepper_end, stepper_plan}
use Rattle.plan_types.specs.Speeds.{greatest_speeds}
use Rattle.plan_types.specs.Steps.{raw_steps}
use Rattle.clock_line.specs.Kept.{AreKept, added}
use Rattle.clock_line.proofs.Boards.{board-added}
use Rattle.clock_line.proofs.Turns.{tick_over-mono, turn-below}
use Rattle.step_ticks.proofs.Lists.{spaced-AreSpaced}
use Rattle.section_stream.proofs.Adding.{added-before, added-least, board-from, kept-added}
use Rattle.section_feed.specs.Boards.{IsLasting, MayTake}
use Rattle.section_feed.specs.Lined.{ArePlannedBefore, line_at}
use Rattle.section_feed.proofs.Ends.{end-most}
use Rattle.section_feed.proofs.Lasts.{kept-lasting}
use Rattle.section_feed.proofs.Opening.{steps-within}
use Rattle.section_feed.proofs.Staying.{here-line, other-line, plan-by}
use Rattle.section_units.proofs.Lateness.{turn_from}

-- all steps of a section whose last one is in a turn before another are before that one
pub steps-before : (m : Machine) (clocks : List Clocks) (moves : List Move) (start b turn : ℕ) → AreKept (clocks_at clocks b) → latest (for_each_stepper m (stepper_end m clocks moves start)) < turn → ArePlannedBefore m clocks moves start b turn
steps-before m clocks moves start b turn kept over s there same =
    let own = clocks_at clocks b in
    let plan = stepper_plan m clocks moves start s in
    let end = latest (for_each_stepper m (stepper_end m clocks moves start)) in
    let most = end-most m clocks moves start s there in
    let e = ap (λ k. last_turn (clocks_at clocks k) plan) same in
    let def = stepper_at m s in
    let mine = clocks_at clocks def.board in
    let base = lines_tick mine (start * turn_ns) in
    let rise : AreSpaced base plan = spaced-AreSpaced base (map (on_board mine) (filtered (cancel_reach mine.first.freq) (raw_steps def.gear mine.first.freq (map (segment_of m.corexy def.drive mine.first) (section_parts m moves start))))) in
    let within = steps-within own base end plan kept rise (omega (arith, most, e)) in
    let up = tick_over-mono own.first 0 own.held ((end + 1) * turn_ns) (turn * turn_ns) (omega (arith, over)) in
    λ k d l. (let w = within k d l in omega (arith, w, up))

-- the last of some steps is at a tick or later
abbrev EndsFrom : ℕ → List Planned → Type 0
EndsFrom low [] = ⊥
EndsFrom low (s ∷ []) = low ≤ s.tick
EndsFrom low (s ∷ t ∷ steps) = EndsFrom low (t ∷ steps)

ends-spaced : (low t : ℕ) (one : Planned) (xs : List Planned) → one.tick ≡ t → low ≤ t → EndsFrom low (one ∷ spaced t xs)
ends-spaced low t one [] e h = omega (arith, e, h)
ends-spaced low t one (x ∷ xs) e h = ends-spaced low (max x.tick (t + 4)) (record { tick = max x.tick (t + 4); up = x.up }) xs refl (omega (arith, h))

ends-more : (low : ℕ) (a : Planned) (steps : List Planned) → EndsFrom low steps → EndsFrom low (a ∷ steps)
ends-more low a [] h = absurd h
ends-more low a (b ∷ steps) h = h

-- with one more line steps are planned as before, or the last of them is not before the line's time
spaced-either : (clocks : Clocks) (turn : ℕ) (line : Line) (last : ℕ) (kept : List Planned) → AreKept clocks → MayTake clocks turn line
    → (spaced last (map (on_board (added clocks (turn * turn_ns) line)) kept) ≡ spaced last (map (on_board clocks) kept)) ⊎ EndsFrom (lines_tick clocks (turn * turn_ns)) (spaced last (map (on_board (added clocks (turn * turn_ns) line)) kept))
spaced-either clocks turn line last [] ok may = inl refl
spaced-either clocks turn line last (x ∷ xs) ok may =
    let from = turn * turn_ns in
    let new = added clocks from line in
    let low = lines_tick clocks from in
    let Next : ℕ → List Planned = λ n. record { tick = max n (last + 4); up = x.up } ∷ spaced (max n (last + 4)) (map (on_board new) xs) in
    let t = max (lines_board clocks x.tick) (last + 4) in
    let one : Planned = record { tick = t; up = x.up } in
    elim (cases_lt x.tick (tick clocks.first from)) as (λ _. (Next (lines_board new x.tick) ≡ one ∷ spaced t (map (on_board clocks) xs)) ⊎ EndsFrom low (Next (lines_board new x.tick))) [
      | inl before ↦
          let e = board-added clocks from line x.tick before in
          elim (spaced-either clocks turn line t xs ok may) [
            | inl same ↦ inl (ap Next e ∙ ap (λ ks. one ∷ ks) same)
            | inr ends ↦ inr (subst (EndsFrom low) (sym (ap Next e)) (ends-more low one (spaced t (map (on_board new) xs)) ends))
          ]
      | inr over ↦
          let least = added-least clocks from line from ok may.after (omega arith) in
          let up = board-from new from x.tick (kept-added clocks from line ok may.after may.fit) over in
          let n = max (lines_board new x.tick) (last + 4) in
          inr (ends-spaced low n (record { tick = n; up = x.up }) (map (on_board new) xs) refl (omega (arith, least, up)))
    ]

-- a tick's turn is no earlier with the line, up to the line's turn
turn-kept : (clocks : Clocks) (turn j t : ℕ) (line : Line) → AreKept clocks → MayTake clocks turn line → j < turn → j ≤ lines_turn clocks t → j ≤ lines_turn (added clocks (turn * turn_ns) line) t
turn-kept clocks turn zero t line ok may low h = omega arith
turn-kept clocks turn (suc k) t line ok may low h =
    let from = turn * turn_ns in
    let same = added-before clocks from line (suc k * turn_ns) (omega (arith, low)) in
    elim (cases_lt t (lines_tick clocks ((k + 1) * turn_ns))) as (λ _. suc k ≤ lines_turn (added clocks from line) t) [
      | inl before ↦ absurd (let b = turn-below clocks t k before in omega (arith, b, h))
      | inr over ↦
          let one : (k + 1) * turn_ns ≡ suc k * turn_ns = omega arith in
          let e = ap (lines_tick clocks) one in
          turn_from (added clocks from line) (suc k) t (kept-added clocks from line ok may.after may.fit) (omega (arith, same, over, e))
    ]

last-kept : (clocks : Clocks) (turn j : ℕ) (line : Line) (steps : List Planned) → AreKept clocks → MayTake clocks turn line → j < turn → j ≤ last_turn clocks steps → j ≤ last_turn (added clocks (turn * turn_ns) line) steps
last-kept clocks turn j line [] ok may low h = h
last-kept clocks turn j line (s ∷ []) ok may low h = turn-kept clocks turn j s.tick line ok may low h
last-kept clocks turn j line (s ∷ t ∷ steps) ok may low h = last-kept clocks turn j line (t ∷ steps) ok may low h

last-ends : (clocks : Clocks) (j low : ℕ) (steps : List Planned) → AreKept clocks → lines_tick clocks (j * turn_ns) ≤ low → EndsFrom low steps → j ≤ last_turn clocks steps
last-ends clocks j low [] ok h ends = absurd ends
last-ends clocks j low (s ∷ []) ok h ends = turn_from clocks j s.tick ok (omega (arith, h, ends))
last-ends clocks j low (s ∷ t ∷ steps) ok h ends = last-ends clocks j low (t ∷ steps) ok h ends

plan-late : (gear : Gear) (clocks : Clocks) (turn j : ℕ) (line : Line) (segments : List Segment) (base : ℕ) → AreKept clocks → MayTake clocks turn line → j < turn → j ≤ last_turn clocks (planned_steps gear clocks segments base)
    → j ≤ last_turn (added clocks (turn * turn_ns) line) (planned_steps gear (added clocks (turn * turn_ns) line) segments base)
plan-late gear clocks turn j line segments base ok may low h =
    let from = turn * turn_ns in
    let new = added clocks from line in
    let Late : List Planned → Type 0 = λ steps. j ≤ last_turn new steps in
    elim (spaced-either clocks turn line base (filtered (cancel_reach clocks.first.freq) (raw_steps gear clocks.first.freq segments)) ok may) [
      | inl same ↦ subst Late (sym same) (last-kept clocks turn j line (planned_steps gear clocks segments base) ok may low h)
      | inr ends ↦
          let e = added-before clocks from line (j * turn_ns) (omega (arith, low)) in
          let up = tick_over-mono clocks.first 0 clocks.held (j * turn_ns) from (omega (arith, low)) in
          last-ends new j (lines_tick clocks from) (planned_steps gear new segments base) (kept-added clocks from line ok may.after may.fit) (omega (arith, e, up)) ends
    ]

stepper-late : (m : Machine) (clocks : List Clocks) (moves : List Move) (start b turn j s : ℕ) (line : Line) → b < length clocks → start < turn → AreKept (clocks_at clocks b) → MayTake (clocks_at clocks b) turn line → j < turn → j ≤ stepper_end m clocks moves start s
    → j ≤ stepper_end m (line_at clocks b turn line) moves start s
unfolding plan-by
stepper-late m clocks moves start b turn j s line inside before ok may low h =
    let board = (stepper_at m s).board in
    let own = clocks_at clocks b in
    let from = turn * turn_ns in
    let End : Clocks → ℕ = λ c. last_turn c (plan-by m moves start s c) in
    elim (cases_eq board b) as (λ _. j ≤ stepper_end m (line_at clocks b turn line) moves start s) [
      | inl same ↦
          let now : stepper_end m (line_at clocks b turn line) moves start s ≡ End (added own from line) = ap (λ n. End (clocks_at (line_at clocks b turn line) n)) same ∙ ap End (here-line clocks b turn line inside) in
          let was : stepper_end m clocks moves start s ≡ End own = ap (λ n. End (clocks_at clocks n)) same in
          let gear = (stepper_at m s).gear in
          let segments = map (segment_of m.corexy (stepper_at m s).drive own.first) (section_parts m moves start) in
          let e = added-before own from line (start * turn_ns) (omega (arith, before)) in
          let late = plan-late gear own turn j line segments (lines_tick own (start * turn_ns)) ok may low (omega (arith, h, was)) in
          let Late : ℕ → Type 0 = λ base. j ≤ last_turn (added own from line) (planned_steps gear (added own from line) segments base) in
          let there = subst Late (sym e) late in
          omega (arith, now, there)
      | inr other ↦ (let now : stepper_end m (line_at clocks b turn line) moves start s ≡ stepper_end m clocks moves start s = ap End (other-line clocks b board turn line other) in omega (arith, now, h))
    ]

latest-late : (f g : ℕ → ℕ) (j a n : ℕ) → ((i : ℕ) → j ≤ f i → j ≤ g i) → j ≤ latest (map f (range_with_len a n)) → j ≤ latest (map g (range_with_len a n))
latest-late f g j a zero each h = h
latest-late f g j a (suc n) each h = elim (cases_lt (f a) j) as (λ _. j ≤ max (g a) (latest (map g (range_with_len (a + 1) n)))) [
  | inl less ↦ (let rest = latest-late f g j (a + 1) n each (omega (arith, h, less)) in omega (arith, rest))
  | inr over ↦ (let here = each a over in omega (arith, here))
]

-- it ends in a turn before the line's or later, where it did before
pub end-late : (m : Machine) (clocks : List Clocks) (moves : List Move) (start b turn j : ℕ) (line : Line) → b < length clocks → start < turn → IsLasting (clocks_at clocks b) → MayTake (clocks_at clocks b) turn line → j < turn → j ≤ section_end m clocks moves start
    → j ≤ section_end m (line_at clocks b turn line) moves start
end-late m clocks moves start b turn j line inside before lasting may low h =
    let ok = kept-lasting (clocks_at clocks b) lasting in
    let f = stepper_end m clocks moves start in
    let g = stepper_end m (line_at clocks b turn line) moves start in
    let time = end_time m.cruise moves (greatest_speeds moves m.scv) (start * turn_ns) / turn_ns in
    elim (cases_lt time j) as (λ _. j ≤ max time (latest (map g (range_with_len 0 (length m.steppers))))) [
      | inl less ↦ (let rest = latest-late f g j 0 (length m.steppers) (λ i own. stepper-late m clocks moves start b turn j i line inside before ok may low own) (omega (arith, h, less)) in omega (arith, rest))
      | inr over ↦ omega (arith, over)
    ]
