use Rattle.std.proofs.Common.{◌↔◌, drop}
use Rattle.plan_types.specs.Plan.{AreSpaced}
use Rattle.step_pack.proofs.are_spaced.Given as goal

-- all steps are spaced exactly where the rest is
abbrev pub invariant-loop-place : goal.invariant-loop-place
invariant-loop-place l = AreSpaced l.last l.steps ↔ AreSpaced l.before (drop l.place l.steps)
