use Rattle.laws_run.proofs.home_headline.Following.{run_follows}
use Rattle.laws_run.proofs.home_headline.homing_runs_follow_their_plans.Goals as goal

pub returns : goal.returns
returns g c = λ m s name files files' out out' kept kept' t r v short text told at. run_follows g.F.Files g.S.Sink m s name files files' out out' kept kept' t r v short text told at
