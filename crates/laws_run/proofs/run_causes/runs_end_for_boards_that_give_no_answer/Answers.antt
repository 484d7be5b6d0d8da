use Rattle.laws_run.proofs.run_causes.Answering.{run_silent}
use Rattle.laws_run.proofs.run_causes.runs_end_for_boards_that_give_no_answer.Goals as goal

pub returns : goal.returns
returns g c = λ m s name files files' out out' kept kept' t r v text told at board turn e. run_silent g.F.Files g.S.Sink m s name files files' out out' kept kept' t r v text told at board turn e
