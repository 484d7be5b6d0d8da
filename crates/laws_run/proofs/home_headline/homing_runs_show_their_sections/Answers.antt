use Rattle.laws_run.proofs.home_headline.Shows.{run_shows}
use Rattle.laws_run.proofs.home_headline.homing_runs_show_their_sections.Goals as goal

pub returns : goal.returns
returns g c = λ m s name files files' out out' kept kept' t r v short text told at. run_shows g.F.Files g.S.Sink m s name files files' out out' kept kept' t r v short text told at
