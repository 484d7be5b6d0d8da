use Rattle.laws_homing.proofs.home_runs.Windows.{told_halts}
use Rattle.laws_homing.proofs.home_runs.told_triggers_have_halted.Goals as goal

pub returns : goal.returns
returns c = told_halts
