use Rattle.laws_run.proofs.clear_homes.Clear.{run_misses}
use Rattle.laws_run.proofs.clear_homes.clear_runs_miss_no_switch.Goals as goal

pub returns : goal.returns
returns g c = λ m s name files files' out out' kept kept' t r v short text told at clear goes sends. run_misses g.F.Files g.S.Sink m s name files files' out out' kept kept' t r v short text told at clear goes sends
