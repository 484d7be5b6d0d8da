use Rattle.laws_board.proofs.groups.Grouped.{halts_there}
use Rattle.laws_board.proofs.groups.bound_steppers_stop_with_their_trigger.Goals as goal

pub returns : goal.returns
returns c = halts_there
