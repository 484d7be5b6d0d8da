use Rattle.laws_run.proofs.home_headline.Cuts.{run_answers}
use Rattle.laws_run.proofs.home_headline.runs_tell_of_answers.Goals as goal

pub returns : goal.returns
returns g c = λ m s name files files' out out' kept kept' t r. run_answers g.F.Files g.S.Sink m s name files files' out out' kept kept' t r
