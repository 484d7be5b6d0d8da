use Rattle.laws_homing.proofs.home_runs.Unclocked.{none_from, sends_none}
use Rattle.laws_homing.proofs.home_runs.homing_turns_set_no_clocks.Goals as goal

pub returns : goal.returns
returns c = record { sets = none_from; sends = sends_none }
