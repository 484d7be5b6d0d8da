use Rattle.laws_run.proofs.home_wholes.Own.{run_own}
use Rattle.laws_run.proofs.home_wholes.homing_runs_are_cut_at_trigger_ticks.Goals as goal

pub returns : goal.returns
returns g c = λ m s name files files' out out' kept kept' t r v short text told at other reads. run_own g.F.Files g.S.Sink m s name files files' out out' kept kept' t r v short text told at other reads
