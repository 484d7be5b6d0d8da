use Rattle.laws_board.proofs.clocks.Orders.{all_limits, ends_in_order, last_stands, turns_in_order}
use Rattle.laws_board.proofs.clocks.board_turns_are_turns.Goals as goal

pub returns : goal.returns
returns c = record {
  turns = turns_in_order;
  ends = ends_in_order;
  last = last_stands;
  limits = all_limits;
}
