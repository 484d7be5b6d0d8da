use Rattle.std.proofs.Common.{◌≡◌, ◌++◌, drop}
use Rattle.plan_types.specs.Packing.{windows_of}
use Rattle.step_pack.proofs.windows_of.Given as goal

-- the windows so far and those of the rest are all
abbrev pub invariant-loop-place : goal.invariant-loop-place
invariant-loop-place l = l.windows.items ++ windows_of l.max_error l.before (drop l.place l.steps) ≡ windows_of l.max_error l.last l.steps
