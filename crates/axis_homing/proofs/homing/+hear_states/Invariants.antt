use Rattle.std.proofs.Common.{length}
use Rattle.axis_homing.proofs.homing.+hear_states.Given as goal

abbrev pub decreases-hear_states : goal.decreases-hear_states
decreases-hear_states l = length l.states.now
