use Rattle.board_step.proofs.Clocked.{all_calls}
use Rattle.board_step.proofs.stands_for_the_clocked_stepper.Goals as goal

pub returns : goal.returns
returns c = all_calls
