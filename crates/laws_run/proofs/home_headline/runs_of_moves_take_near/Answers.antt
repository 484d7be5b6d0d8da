use Rattle.laws_run.proofs.home_headline.OfMoves.{front_near, run_moves_near, run_near}
use Rattle.laws_run.proofs.home_headline.runs_of_moves_take_near.Goals as goal

pub returns : goal.returns
returns g c = record {
  timely = λ m s name files files' out out' kept kept' t r v text moves other timely. run_moves_near g.F.Files g.S.Sink m s name files files' out out' kept kept' t r v text moves other timely;
  near = λ m s name files files' out out' kept kept' t r v short text moves other holds. run_near g.F.Files g.S.Sink m s name files files' out out' kept kept' t r v text moves short other holds;
  before = λ m s name files files' out out' kept kept' t r v text moves turns last cut front later are long.
      front_near g.F.Files g.S.Sink m s name files files' out out' kept kept' t r v text moves turns last cut front later are long;
}
