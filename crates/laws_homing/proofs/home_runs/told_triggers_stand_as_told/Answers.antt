use Rattle.laws_homing.proofs.home_runs.Told.{told_stands}
use Rattle.laws_homing.proofs.home_runs.told_triggers_stand_as_told.Goals as goal

pub returns : goal.returns
returns c = told_stands
