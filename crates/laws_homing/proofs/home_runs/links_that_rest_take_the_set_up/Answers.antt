use Rattle.laws_homing.proofs.home_runs.Resting.{rests_set_up}
use Rattle.laws_homing.proofs.home_runs.links_that_rest_take_the_set_up.Goals as goal

pub returns : goal.returns
returns c = rests_set_up
