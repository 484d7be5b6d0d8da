use Rattle.laws_run.proofs.run_limits.Runs.{run_limits}
use Rattle.laws_run.proofs.run_limits.runs_keep_limits.Goals as goal

pub returns : goal.returns
returns g c = λ m s name files files' out out' kept kept' t r v text told at some through. run_limits g.F.Files g.S.Sink m s name files files' out out' kept kept' t r v text told at some through
