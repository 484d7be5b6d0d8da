use Rattle.laws_run.proofs.clear_homes.Clear.{run_through}
use Rattle.laws_run.proofs.clear_homes.clear_homing_runs_go_through.Goals as goal

pub returns : goal.returns
returns g c = λ m s name files files' out out' kept kept' t r v short text told at clear own other goes sends. run_through g.F.Files g.S.Sink m s name files files' out out' kept kept' t r v short text told at clear own other goes sends
