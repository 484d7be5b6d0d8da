-- The units of one stepper among those of several.
use Rattle.std.proofs.Common.{◌≡◌, ℕ, List, [], ◌∷◌, ◌++◌, refl, ap, inl, inr}
use Rattle.std.proofs.lemmas.Bool.Decides.{eqb_tells}
use Rattle.step_feed.specs.Units.{StepUnit}
use Rattle.section_units.specs.Sections.{of_stepper}

-- the units of one stepper
pub of_append : (oid : ℕ) (us vs : List StepUnit) → of_stepper oid (us ++ vs) ≡ of_stepper oid us ++ of_stepper oid vs
of_append oid [] vs = refl
of_append oid (u ∷ us) vs = elim (eqb_tells u.stepper oid) [ inl p ↦ rw p.0 (ap (λ x. u ∷ x) (of_append oid us vs)) | inr p ↦ rw p.0 (of_append oid us vs) ]

pub of_one : (oid : ℕ) (u : StepUnit) (us : List StepUnit) → u.stepper ≡ oid → of_stepper oid (u ∷ us) ≡ u ∷ of_stepper oid us
of_one oid u us e = elim (eqb_tells u.stepper oid) [ inl p ↦ rw p.0 refl | inr p ↦ absurd (p.1 e) ]

pub of_other : (oid : ℕ) (u : StepUnit) (us : List StepUnit) → (u.stepper ≡ oid → ⊥) → of_stepper oid (u ∷ us) ≡ of_stepper oid us
of_other oid u us ne = elim (eqb_tells u.stepper oid) [ inl p ↦ absurd (ne p.1) | inr p ↦ rw p.0 refl ]
