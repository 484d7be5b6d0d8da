use Rattle.laws_run.proofs.run_causes.Answering.{run_stale}
use Rattle.laws_run.proofs.run_causes.runs_end_for_stale_clocks.Goals as goal

pub returns : goal.returns
returns g c = λ m s name files files' out out' kept kept' t r v board turn e. run_stale g.F.Files g.S.Sink m s name files files' out out' kept kept' t r v board turn e
