use Rattle.std.proofs.Common.{length}
use Rattle.motion_work.proofs.homes.+moving_among.Given as goal

abbrev pub decreases-moving_among : goal.decreases-moving_among
decreases-moving_among l = length l.steppers.now
