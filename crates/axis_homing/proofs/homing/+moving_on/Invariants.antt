use Rattle.std.proofs.Common.{length}
use Rattle.axis_homing.proofs.homing.+moving_on.Given as goal

abbrev pub decreases-moving_on : goal.decreases-moving_on
decreases-moving_on l = length l.steppers.now
