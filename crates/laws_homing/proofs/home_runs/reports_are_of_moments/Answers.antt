use Rattle.laws_homing.proofs.home_runs.Fired.{run_moments}
use Rattle.laws_homing.proofs.home_runs.reports_are_of_moments.Goals as goal

pub returns : goal.returns
returns c = run_moments
