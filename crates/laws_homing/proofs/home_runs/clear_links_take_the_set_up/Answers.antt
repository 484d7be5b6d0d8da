use Rattle.laws_homing.proofs.home_runs.Clear.{clear_set_up}
use Rattle.laws_homing.proofs.home_runs.clear_links_take_the_set_up.Goals as goal

pub returns : goal.returns
returns c = clear_set_up
