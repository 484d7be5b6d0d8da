use Rattle.laws_run.proofs.missed_switches.Missing.{run_missed}
use Rattle.laws_run.proofs.missed_switches.runs_end_where_a_switch_was_missed.Goals as goal

pub returns : goal.returns
returns g c = λ m s name files files' out out' kept kept' t r v short text told at reads shut. run_missed g.F.Files g.S.Sink m s name files files' out out' kept kept' t r v short text told at reads shut
