-- Sections that home.
use Rattle.std.proofs.Common.{◌≡◌, ℕ, zero, suc, ◌+◌, ◌<◌, ◌≤◌, true, List, [], ◌∷◌, ◌++◌, All, get_or, length, map, refl, ap, sym, ◌∙◌, arith, inl, inr}
use Rattle.std.proofs.Math.Logic.{∥∥₁_map}
use Rattle.std.proofs.lemmas.Bool.Decides.{leb_tells}
use Rattle.std.proofs.lemmas.List.Elements.{All-head, All-tail}
use Rattle.std.specs.List.{range_with_len}
use Rattle.gcode_program.specs.Held.{IsShortOrNear}
use Rattle.plan_types.specs.declared.machine.Machine.{Machine}
use Rattle.plan_types.specs.declared.plan.Move.{Move}
use Rattle.plan_types.specs.Lines.{Clocks}
use Rattle.plan_types.specs.Valid.{IsValidMove}
use Rattle.section_plan.proofs.Shorts.{short-move}
use Rattle.section_plan.specs.Runs.{IsShortMove}
use Rattle.section_feed.specs.On.{CanComplete}
use Rattle.section_feed.proofs.Telling.{has-each}
use Rattle.section_units.specs.Plans.{AreOnBoardsBy, IsOnBoardBy}
use Rattle.section_units.specs.Sections.{AreBefore}
use Rattle.step_feed.specs.Pacing.{Release}
use Rattle.motion_work.specs.Homes.{all_before, before_turn}

-- near moves are short
pub near_short : (moves : List Move) → All IsValidMove moves → All IsShortOrNear moves → All IsShortMove moves
near_short moves valid near = λ k d lt. by_near (get_or moves k d) (valid k d lt) (near k d lt) where
  by_near : (m : Move) → IsValidMove m → IsShortOrNear m → IsShortMove m
  by_near m ok n = elim n [ inl reach ↦ short-move m ok reach | inr small ↦ record { valid = ok; short = omega (arith, small) } ]

-- of releases before a turn, and others behind it, the first are those before it
none_behind : (turn : ℕ) (more : List Release) → All (λ r. turn ≤ r.turn) more → before_turn turn more ≡ []
none_behind turn [] h = refl
none_behind turn (r ∷ more) h =
    let P : Release → Type 0 = λ q. turn ≤ q.turn in
    let late : turn ≤ r.turn = All-head P r more h in
    elim (leb_tells (suc r.turn) turn) [ inl p ↦ absurd (let lt = p.1 in omega (arith, lt, late)) | inr p ↦ rw p.0 (none_behind turn more (All-tail P r more h)) ]

first_before : (turn : ℕ) (rs more : List Release) → AreBefore turn rs → All (λ r. turn ≤ r.turn) more → rs ≡ before_turn turn (rs ++ more)
first_before turn [] more h late = sym (none_behind turn more late)
first_before turn (r ∷ rs) more h late =
    let before = h.0 in
    elim (leb_tells (suc r.turn) turn) [ inl p ↦ rw p.0 (ap (λ x. r ∷ x) (first_before turn rs more h.1 late)) | inr p ↦ absurd (let ge = p.1 in omega (arith, ge, before)) ]

same_each : (turn : ℕ) (released : ℕ → List Release) (i n : ℕ) (boards : List (List Release)) → length boards ≡ n → ((b : ℕ) → b < n → released (i + b) ≡ before_turn turn (get_or boards b [])) → map released (range_with_len i n) ≡ all_before turn boards
same_each turn released i zero [] len each = refl
same_each turn released i zero (x ∷ boards) len each = absurd (omega (arith, len))
same_each turn released i (suc n) [] len each = absurd (omega (arith, len))
same_each turn released i (suc n) (x ∷ boards) len each =
    let e : i + 0 ≡ i = omega arith in
    let later : (b : ℕ) → b < n → released (i + 1 + b) ≡ before_turn turn (get_or boards b []) = λ b lt. ap released (let f : i + 1 + b ≡ i + suc b = omega arith in f) ∙ each (suc b) (omega (arith, lt)) in
    ap (λ y. y ∷ map released (range_with_len (i + 1) n)) (ap released (sym e) ∙ each 0 (omega arith)) ∙ ap (λ y. before_turn turn x ∷ y) (same_each turn released (i + 1) n boards (omega (arith, len)) later)

-- What an open section that homes has released before a turn are the releases before that turn of a whole one.
pub record IsCutAt (m : Machine) (clocks : List Clocks) (moves : List Move) (start next : ℕ) (boards : List (List Release)) : Type 0 where
  pub planned : List (List Release)
  pub are : AreOnBoardsBy true m clocks moves start planned
  pub cut : boards ≡ all_before next planned

pub homed_cut : (m : Machine) (clocks : List Clocks) (moves : List Move) (start next : ℕ) (released : ℕ → List Release) → ((b : ℕ) → AreBefore next (released b)) → ((b : ℕ) → b < length m.boards → ∥ CanComplete true m clocks moves start b next (released b) ∥₁)
    → ∥ IsCutAt m clocks moves start next (map released (range_with_len 0 (length m.boards))) ∥₁
homed_cut m clocks moves start next released before can =
    let P : ℕ → List Release → Type 0 = λ b x. IsOnBoardBy true m clocks moves start b x × (released b ≡ before_turn next x) in
    ∥∥₁_map (has-each P (length m.boards) (λ b h. ∥∥₁_map (can b h) (λ c. (released b ++ c.more, (c.whole, first_before next (released b) c.more (before b) c.later)))))
    (λ all. record {
      planned = all.boards;
      are = record { count = all.count; each = λ b h. (all.each b h).0 };
      cut = same_each next released 0 (length m.boards) all.boards all.count (λ b h. ap released (let e : 0 + b ≡ b = omega arith in e) ∙ (all.each b h).1);
    })
