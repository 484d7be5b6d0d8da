use Rattle.laws_run.proofs.home_headline.Held.{run_clear_takes}
use Rattle.laws_run.proofs.home_wholes.clear_runs_take_set_ups_in_time.Goals as goal

pub returns : goal.returns
returns g c = λ m s name files files' out out' kept kept' t r v short text other clear sends. run_clear_takes g.F.Files g.S.Sink m s name files files' out out' kept kept' t r v short text other clear sends
