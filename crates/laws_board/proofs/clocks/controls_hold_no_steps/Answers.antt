use Rattle.laws_board.proofs.clocks.Ordering.{may_order, tells}
use Rattle.laws_board.proofs.clocks.controls_hold_no_steps.Goals as goal

pub returns : goal.returns
returns c = record {
  commands = may_order;
  turn = λ m switches pins entries b c before t turns r. (tells m switches pins entries b c before t turns r).0;
  goes_on = λ m switches pins entries b c before t turns r. (tells m switches pins entries b c before t turns r).1;
  connecting = λ m switches pins entries b c before t turns r. (tells m switches pins entries b c before t turns r).2;
  connected = λ m switches pins entries b c before t turns r. (tells m switches pins entries b c before t turns r).3;
}
