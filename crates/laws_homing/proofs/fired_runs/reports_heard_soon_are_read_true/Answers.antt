use Rattle.laws_homing.proofs.fired_runs.Heard.{soon_true}
use Rattle.laws_homing.proofs.fired_runs.reports_heard_soon_are_read_true.Goals as goal

pub returns : goal.returns
returns g = soon_true
