use Rattle.std.proofs.Common.{length}
use Rattle.board_asking.proofs.setup.+put_steppers.Given as goal

abbrev pub decreases-put_steppers : goal.decreases-put_steppers
decreases-put_steppers l = length l.steppers.now
