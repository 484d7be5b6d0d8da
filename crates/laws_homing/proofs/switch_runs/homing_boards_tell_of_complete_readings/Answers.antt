use Rattle.laws_homing.proofs.switch_runs.Ordering.{run_tells}
use Rattle.laws_homing.proofs.switch_runs.homing_boards_tell_of_complete_readings.Goals as goal

pub returns : goal.returns
returns c = run_tells
