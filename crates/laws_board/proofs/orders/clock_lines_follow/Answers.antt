use Rattle.laws_board.proofs.orders.Followed.{drifting_tracked, exact_tracked, lines_in_time, lines_tracked}
use Rattle.laws_board.proofs.orders.clock_lines_follow.Goals as goal

pub returns : goal.returns
returns c = record {
  exact = exact_tracked;
  drifting = drifting_tracked;
  held = lines_tracked;
  in_time = lines_in_time;
}
