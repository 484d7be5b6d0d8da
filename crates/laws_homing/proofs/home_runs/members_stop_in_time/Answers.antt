use Rattle.laws_homing.proofs.home_runs.Fired.{stops_by_fired}
use Rattle.laws_homing.proofs.home_runs.Hearing.{stops_by_heard}
use Rattle.laws_homing.proofs.home_runs.Timeouts.{stops_by_end}
use Rattle.laws_homing.proofs.home_runs.members_stop_in_time.Goals as goal

pub returns : goal.returns
returns c = record { end = stops_by_end; heard = stops_by_heard; fired = stops_by_fired }
