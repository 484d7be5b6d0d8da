-- The plans of a board's steppers.
use Rattle.std.proofs.Common.{◌≡◌, ℕ, zero, suc, ◌≤◌, List, [], ◌∷◌, length, refl, arith}
use Rattle.plan_types.specs.declared.plan.Planned.{Planned}
use Rattle.section_units.specs.Merged.{plan_at}

-- behind the last one there is none
pub no_plan : (plans : List (List Planned)) (oid : ℕ) → length plans ≤ oid → plan_at plans oid ≡ []
no_plan [] zero h = refl
no_plan [] (suc oid) h = refl
no_plan (p ∷ plans) zero h = absurd (omega (arith, h))
no_plan (p ∷ plans) (suc oid) h = no_plan plans oid (omega (arith, h))
