use Rattle.laws_run.proofs.home_wholes.Shows.{run_wholes}
use Rattle.laws_run.proofs.home_wholes.homing_runs_are_whole.Goals as goal

pub returns : goal.returns
returns g c = λ m s name files files' out out' kept kept' t r v text told at. run_wholes g.F.Files g.S.Sink m s name files files' out out' kept kept' t r v text told at
