-- A run that is told is the run that was made.
use Rattle.std.proofs.Common.{◌≡◌, Option, Some, None, IfSome, sym, subst}
use Rattle.session_lanes.specs.declared.near.Ran.{Ran}
use Rattle.session_lanes.specs.declared.near.Told.{Told}
use Rattle.session_lanes.specs.Runs.{ran_at}

pub told_as : {A O : Type 0} (P : Ran A O → Type 0) (told : Option (Told A)) (o : O) (ran : Ran A O) → (t : Told A) × (told ≡ Some t) × (ran_at t o ≡ ran) → P ran → IfSome told (λ t. P (ran_at t o))
told_as P told o ran e p = subst (λ x. IfSome x (λ t. P (ran_at t o))) (sym e.1) (subst P (sym e.2) p)
