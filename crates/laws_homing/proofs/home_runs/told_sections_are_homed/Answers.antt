use Rattle.laws_homing.proofs.home_runs.Homed.{told_homed}
use Rattle.laws_homing.proofs.home_runs.told_sections_are_homed.Goals as goal

pub returns : goal.returns
returns c = told_homed
