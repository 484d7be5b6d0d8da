use Rattle.laws_homing.proofs.home_runs.Clocking.{clocks_set}
use Rattle.laws_homing.proofs.home_runs.clocks_are_set_in_time.Goals as goal

pub returns : goal.returns
returns c = clocks_set
