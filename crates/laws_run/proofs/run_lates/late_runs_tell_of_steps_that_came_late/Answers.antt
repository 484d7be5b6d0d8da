use Rattle.laws_run.proofs.run_lates.Late.{run_late}
use Rattle.laws_run.proofs.run_lates.late_runs_tell_of_steps_that_came_late.Goals as goal

pub returns : goal.returns
returns g c = λ m s name files files' out out' kept kept' t r v board first arrival spoiled spill e. run_late g.F.Files g.S.Sink m s name files files' out out' kept kept' t r v board first arrival spoiled spill e
