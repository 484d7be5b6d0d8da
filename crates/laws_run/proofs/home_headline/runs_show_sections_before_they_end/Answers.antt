use Rattle.laws_run.proofs.run_headline.Cutting.{run_silent}
use Rattle.laws_run.proofs.home_headline.Before.{run_before}
use Rattle.laws_run.proofs.home_headline.runs_show_sections_before_they_end.Goals as goal

pub returns : goal.returns
returns g c = record {
  shown = λ m s name files files' out out' kept kept' t r v text told at turns last cut. run_before g.F.Files g.S.Sink m s name files files' out out' kept kept' t r v text told at turns last cut;
  silent = λ m s name files files' out out' kept kept' t r memory. run_silent g.F.Files g.S.Sink m s name files files' out out' kept kept' t r memory;
}
