use Rattle.laws_run.proofs.clear_homes.Clear.{run_closes}
use Rattle.laws_run.proofs.clear_homes.clear_runs_with_switches_go_through.Goals as goal

pub returns : goal.returns
returns g c = λ m s name files files' out out' kept kept' t r v short text told at clear own other goes sends closes. run_closes g.F.Files g.S.Sink m s name files files' out out' kept kept' t r v short text told at clear own other goes sends closes
