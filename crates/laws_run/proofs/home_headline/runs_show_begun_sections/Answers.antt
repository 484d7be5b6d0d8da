use Rattle.laws_run.proofs.home_headline.Sections.{run_begins}
use Rattle.laws_run.proofs.home_headline.runs_show_begun_sections.Goals as goal

pub returns : goal.returns
returns g c = λ m s name files files' out out' kept kept' t r v text told at. run_begins g.F.Files g.S.Sink m s name files files' out out' kept kept' t r v text told at
