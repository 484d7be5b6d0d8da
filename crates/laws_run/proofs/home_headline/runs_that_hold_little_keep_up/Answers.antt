use Rattle.laws_run.proofs.home_headline.Held.{front_keeps, run_keeps}
use Rattle.laws_run.proofs.home_headline.runs_that_hold_little_keep_up.Goals as goal

pub returns : goal.returns
returns g c = record {
  whole = λ m s name files files' out out' kept kept' t r v short text other little. run_keeps g.F.Files g.S.Sink m s name files files' out out' kept kept' t r v short text other little;
  before = λ m s name files files' out out' kept kept' t r v short text turns last cut front later are long little.
      front_keeps g.F.Files g.S.Sink m s name files files' out out' kept kept' t r v short text turns last cut front later are long little;
}
