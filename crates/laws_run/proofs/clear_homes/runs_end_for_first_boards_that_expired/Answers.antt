use Rattle.laws_run.proofs.clear_homes.First.{run_first}
use Rattle.laws_run.proofs.clear_homes.runs_end_for_first_boards_that_expired.Goals as goal

pub returns : goal.returns
returns g c = λ m s name files files' out out' kept kept' t r board turn e. run_first g.F.Files g.S.Sink m s name files files' out out' kept kept' t r board turn e
