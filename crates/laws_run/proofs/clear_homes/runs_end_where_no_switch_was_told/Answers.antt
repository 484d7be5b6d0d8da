use Rattle.laws_run.proofs.clear_homes.First.{run_unswitched}
use Rattle.laws_run.proofs.clear_homes.runs_end_where_no_switch_was_told.Goals as goal

pub returns : goal.returns
returns g c = λ m s name files files' out out' kept kept' t r section e. run_unswitched g.F.Files g.S.Sink m s name files files' out out' kept kept' t r section e
