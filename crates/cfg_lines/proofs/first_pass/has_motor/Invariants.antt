use Rattle.std.proofs.Common.{◌≡◌, length}
use Rattle.cfg_lines.specs.Items.{has_motor}
use Rattle.cfg_lines.proofs.first_pass.has_motor.Given as goal

abbrev pub invariant-loop-rest : goal.invariant-loop-rest
invariant-loop-rest l = has_motor l.rest l.fn.motor ≡ has_motor l.fn.motors l.fn.motor

abbrev pub decreases-loop-rest : goal.decreases-loop-rest
decreases-loop-rest l = length l.rest
