-- Further lines of boards that hold from behind the planned steps of a section on change nothing of its plan.
use Rattle.std.proofs.Common.{◌≡◌, ◌∙◌, ℕ, ◌*◌, ◌/◌, ◌<◌, ◌≤◌, List, [], ◌∷◌, ◌++◌, All, length, max, ap, sym, refl, arith, inl, inr}
use Rattle.laws_board.proofs.Names.{All-head, All-tail, Machine, Held, Line, Move, Planned, turn_ns, Clocks, lines_tick, IsValidMachine, stepper_at, clocks_at, stepper_plan, AreKept}
use Rattle.plan_types.specs.Lines.{AreHeld}
use Rattle.plan_types.specs.Sections.{end_time, for_each_stepper, last_turn, latest, stepper_end}
use Rattle.plan_types.specs.Speeds.{greatest_speeds}
use Rattle.clock_line.specs.Kept.{clocks_of}
use Rattle.section_feed.specs.Fewer.{AreFirstLines, AreSameTo}
use Rattle.section_feed.proofs.Fewer.{alike-lines, plans-agree, turns-alike}
use Rattle.section_feed.proofs.Staying.{AreAlike, map-on}
use Rattle.section_feed.proofs.Taken.{steps-before}
use Rattle.laws_report.specs.reports.Retold.{PlansAlike}
use Rattle.laws_report.proofs.reports.Retelling.{board-of}

held-first : (first line : Line) (from most : ℕ) (held rest : List Held) → AreHeld first line from most (held ++ rest) → AreHeld first line from most held
held-first first line from most [] rest are = tt
held-first first line from most (h ∷ held) rest are = (are.0, are.1, are.2, are.3, held-first first h.line h.from h.most held rest are.4, are.5)

pub kept-first : (first : Line) (held rest : List Held) → AreKept (clocks_of first (held ++ rest)) → AreKept (clocks_of first held)
kept-first first held rest kept = record { valid = kept.valid; held = held-first first first 0 0 held rest kept.held }

-- plans that are the same up to a tick before which one of them is over, are the same
same-before : (bound : ℕ) (ps qs : List Planned) → AreSameTo bound ps qs → All (λ (q : Planned). q.tick < bound) qs → ps ≡ qs
same-before bound [] [] same all = refl
same-before bound [] (q ∷ qs) same all = absurd same
same-before bound (p ∷ ps) [] same all = absurd same
same-before bound (p ∷ ps) (q ∷ qs) same all =
    let P : Planned → Type 0 = λ x. x.tick < bound in
    let own : q.tick < bound = All-head P q qs all in
    let here : p ≡ q = elim same.0 as (λ _. p ≡ q) [ inl e ↦ e | inr late ↦ absurd (let l = late.1 in omega (arith, own, l)) ] in
    ap (λ x. x ∷ ps) here ∙ ap (λ xs. q ∷ xs) (same-before bound ps qs same.1 (All-tail P q qs all))

-- so the last of its steps is in the same turn
last-alike : (one other : Clocks) (bound : ℕ) (steps : List Planned) → AreAlike one other bound → All (λ (q : Planned). q.tick < bound) steps → last_turn one steps ≡ last_turn other steps
last-alike one other bound [] alike all = refl
last-alike one other bound (s ∷ []) alike all = sym (alike s.tick (All-head (λ (q : Planned). q.tick < bound) s [] all))
last-alike one other bound (s ∷ t ∷ steps) alike all = last-alike one other bound (t ∷ steps) alike (All-tail (λ (q : Planned). q.tick < bound) s (t ∷ steps) all)

pub fewer : (m : Machine) (short clocks : List Clocks) (moves : List Move) (turn last : ℕ) → IsValidMachine m → ((b : ℕ) → b < length m.boards → AreKept (clocks_at clocks b)) → ((b : ℕ) → b < length m.boards → AreFirstLines (clocks_at short b) (clocks_at clocks b) last) → turn ≤ last
    → latest (for_each_stepper m (stepper_end m clocks moves turn)) < last → PlansAlike m short clocks moves turn
fewer m short clocks moves turn last valid kept are order over =
    let one = λ (s : ℕ). clocks_at short (stepper_at m s).board in
    let all = λ (s : ℕ). clocks_at clocks (stepper_at m s).board in
    let bound = λ (s : ℕ). lines_tick (all s) (last * turn_ns) in
    let own = λ (s : ℕ). kept (stepper_at m s).board (board-of m s valid) in
    let first = λ (s : ℕ). are (stepper_at m s).board (board-of m s valid) in
    let agree = λ (s : ℕ). plans-agree m short clocks moves turn last s (own s) (first s) order in
    let before = λ (s : ℕ) (inside : s < length m.steppers). steps-before m clocks moves turn (stepper_at m s).board last (own s) over s inside refl in
    let steps = λ (s : ℕ) (inside : s < length m.steppers). same-before (bound s) (stepper_plan m short moves turn s) (stepper_plan m clocks moves turn s) (agree s).same (before s inside) in
    let alike = λ (s : ℕ). turns-alike (one s) (all s) last (own s) (alike-lines (one s) (all s) last (own s) (first s)) in
    record {
      freq = λ s inside. (agree s).freq;
      base = λ s inside. (agree s).base;
      steps = steps;
      end = ap (λ ts. max (end_time m.cruise moves (greatest_speeds moves m.scv) (turn * turn_ns) / turn_ns) (latest ts))
          (map-on (stepper_end m short moves turn) (stepper_end m clocks moves turn) 0 (length m.steppers)
          (λ s low high. let inside : s < length m.steppers = omega (arith, high) in ap (last_turn (one s)) (steps s inside) ∙ last-alike (one s) (all s) (bound s) (stepper_plan m clocks moves turn s) (alike s) (before s inside)));
    }
