use Rattle.laws_homing.proofs.home_runs.Clear.{few_set_up}
use Rattle.laws_homing.proofs.home_runs.links_that_spoil_few_take_the_set_up.Goals as goal

pub returns : goal.returns
returns c = few_set_up
