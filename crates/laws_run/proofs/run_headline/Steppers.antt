-- An object id that has units in a section is that of a stepper of the board.
use Rattle.std.proofs.Common.{◌≡◌, ◌≢◌, ℕ, suc, ◌<◌, false, List, [], ◌∷◌, All, take, length, ap, ◌∙◌, subst, arith, inl, inr}
use Rattle.laws_board.proofs.Names.{leb_tells, All-cons, All-head, All-nil, All-tail, Machine, IsValidMachine, board_at, stepper_at, clocks_at, Orders, parts_on, Started, Told, BoardSection, of_stepper, units_of}
use Rattle.plan_types.specs.Sections.{section_plans}
use Rattle.section_units.specs.Plans.{plans_on}
use Rattle.motion_work.specs.Seen.{part_on}
use Rattle.section_units.specs.Sections.{IsSection}
use Rattle.laws_board.specs.sections.Parts.{MakesIn}
use Rattle.laws_board.proofs.plans.Placing.{count_is, count_on}
use Rattle.laws_board.proofs.plans.Sitting.{have_steps, past, place_on, plans_few}

module _ (m : Machine) (v : IsValidMachine m) (t : Told) (b : ℕ) (os : List Orders) (are : (s : ℕ) → s < length m.steppers → (stepper_at m s).board ≡ b → MakesIn (stepper_at m s).oid os) where
  abbrev Is : BoardSection → Type 0
  Is x = IsSection (clocks_at t.clocks b) (board_at m b).freq (board_at m b).slots x

  one : (s : Started) (oid : ℕ) → Is (part_on m t.clocks s b) → of_stepper oid (units_of (part_on m t.clocks s b).releases) ≢ [] → MakesIn oid os
  one s oid is some = elim (leb_tells (suc oid) (count_on b m.steppers)) [
    | inl p ↦
        let at = place_on b m.steppers oid p.1 in
        let own : (stepper_at m at.0).oid ≡ oid = (v.steppers at.0 at.1).oid ∙ count_is (stepper_at m at.0).board (take at.0 m.steppers) ∙ ap (λ n. count_on n (take at.0 m.steppers)) at.2 ∙ at.3 in
        let At : ℕ → Type 0 = λ n. MakesIn n os in
        subst At own (are at.0 at.1 at.2)
    | inr p ↦
        let x = part_on m t.clocks s b in
        let none : x.plan oid ≡ [] = past (plans_on m t.clocks s.section.moves s.start b) oid (omega (arith, plans_few b m.steppers (section_plans m t.clocks s.section.moves s.start), p.1)) in
        let steps = have_steps false oid (clocks_at t.clocks b) _ (of_stepper oid (units_of x.releases)) (is.begun oid) some in
        let count = is.whole oid ∙ ap length none in
        absurd (omega (arith, steps, count))
  ]

  pub all_made : (begun : List Started) (oid : ℕ) → All Is (parts_on m t.clocks begun b) → All (λ x. of_stepper oid (units_of x.releases) ≢ [] → MakesIn oid os) (parts_on m t.clocks begun b)
  all_made [] oid a = All-nil (λ (x : BoardSection). of_stepper oid (units_of x.releases) ≢ [] → MakesIn oid os)
  all_made (s ∷ begun) oid a =
      All-cons (λ (x : BoardSection). of_stepper oid (units_of x.releases) ≢ [] → MakesIn oid os) (part_on m t.clocks s b) (parts_on m t.clocks begun b)
      (one s oid (All-head Is (part_on m t.clocks s b) (parts_on m t.clocks begun b) a)) (all_made begun oid (All-tail Is (part_on m t.clocks s b) (parts_on m t.clocks begun b) a))
