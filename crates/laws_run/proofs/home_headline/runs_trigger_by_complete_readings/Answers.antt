use Rattle.laws_run.proofs.home_headline.Read.{run_reads}
use Rattle.laws_run.proofs.home_headline.runs_trigger_by_complete_readings.Goals as goal

pub returns : goal.returns
returns g c = λ m s name files files' out out' kept kept' t r. run_reads g.F.Files g.S.Sink m s name files files' out out' kept kept' t r
