use Rattle.laws_homing.proofs.home_runs.Along.{all_settled}
use Rattle.laws_homing.proofs.home_runs.boards_settle_with_the_answer.Goals as goal

pub returns : goal.returns
returns c = all_settled
