use Rattle.laws_homing.specs.switch_runs.Runs.{IsReadInRun}
use Rattle.laws_homing.proofs.switch_runs.Ordering.{bring_fit}
use Rattle.laws_homing.proofs.switch_runs.runs_read_the_endstops_that_home.Goals as goal

pub returns : goal.returns
returns c = λ m switches pins entries b came turns r. bring_fit m switches pins entries b (λ now. IsReadInRun m switches pins b came) came turns r (λ tick k. k)
