use Rattle.std.proofs.Common.{◌≡◌, ℕ, ◌<◌, List}
use Rattle.plan_types.specs.declared.plan.Window.{Window}
use Rattle.step_pack.specs.declared.Bounds.{Bounds}
use Rattle.plan_types.specs.Packing.{window_at}
use Rattle.step_pack.specs.Bounds.{AreBounds}
use Rattle.step_pack.proofs.find.reach.Given as goal

-- the steps so far are of one direction, and these are the intervals that meet them
pub record HasCovered (behind : ℕ) (windows : List Window) (bend place : ℕ) (b : Bounds) : Type 0 where
  pub bounds : AreBounds behind windows place place place bend b
  pub one_way : (k : ℕ) → k < place → (window_at windows k).up ≡ (window_at windows 0).up

abbrev pub invariant-loop-place : goal.invariant-loop-place
invariant-loop-place l = HasCovered l.behind l.windows l.bend l.place l.bounds
