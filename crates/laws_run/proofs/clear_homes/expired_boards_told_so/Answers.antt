use Rattle.laws_run.proofs.clear_homes.Expired.{run_expired}
use Rattle.laws_run.proofs.clear_homes.expired_boards_told_so.Goals as goal

pub returns : goal.returns
returns g c = λ m s name files files' out out' kept kept' t r board turn e. run_expired g.F.Files g.S.Sink m s name files files' out out' kept kept' t r board turn e
