use Rattle.laws_run.proofs.home_headline.OfMoves.{run_own_lines}
use Rattle.laws_run.proofs.home_headline.runs_of_moves_tell_no_switch.Goals as goal

pub returns : goal.returns
returns g c = λ m s name files files' out out' kept kept' t r v text told at moves through. run_own_lines g.F.Files g.S.Sink m s name files files' out out' kept kept' t r v text moves told at through
