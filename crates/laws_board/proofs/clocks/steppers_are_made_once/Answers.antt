use Rattle.laws_board.proofs.clocks.Made.{made_before, made_few, made_none, made_once}
use Rattle.laws_board.proofs.clocks.steppers_are_made_once.Goals as goal

pub returns : goal.returns
returns c = record {
  few = made_few;
  none = made_none;
  before = made_before;
  once = made_once;
}
