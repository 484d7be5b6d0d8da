use Rattle.laws_homing.proofs.home_runs.Stopped.{run_stops}
use Rattle.laws_homing.proofs.home_runs.moving_steppers_stop_with_their_trigger.Goals as goal

pub returns : goal.returns
returns c = run_stops
