use Rattle.laws_run.proofs.run_headline.Runs.{run_none, run_names}
use Rattle.laws_run.proofs.run_headline.runs_name_their_causes.Goals as goal

pub returns : goal.returns
returns g c = record {
  named = λ m s name files files' out out' kept kept' t r own other. run_names g.F.Files g.S.Sink m s name files files' out out' kept kept' t r own other;
  earlier = λ m s name files files' out out' kept kept' t r. run_none g.F.Files g.S.Sink m s name files files' out out' kept kept' t r;
}
