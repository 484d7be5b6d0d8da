use Rattle.laws_run.proofs.missed_switches.Running.{run_shut}
use Rattle.laws_run.proofs.missed_switches.unswitched_runs_shut_no_board.Goals as goal

pub returns : goal.returns
returns g c = λ m s name files files' out out' kept kept' t r v short text told at section e little. run_shut g.F.Files g.S.Sink m s name files files' out out' kept kept' t r v short section e text told at little
