use Rattle.std.proofs.Common.{length}
use Rattle.board_asking.proofs.setup.+steppers_on.Given as goal

abbrev pub decreases-steppers_on : goal.decreases-steppers_on
decreases-steppers_on l = length l.steppers.now
