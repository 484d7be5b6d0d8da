use Rattle.board_sim.proofs.Keeps.{first_kept}
use Rattle.board_sim.proofs.HaltedTime.{whole_part, time_keeps, part_cut, part_whole}
use Rattle.board_sim.proofs.HaltedTakes.{commands_keep}
use Rattle.board_sim.specs.Board.{new_controller}
use Rattle.board_sim.proofs.keeps_in_step.Goals as goal

pub returns : goal.returns
returns c = record {
  first = λ b pins. whole_part (new_controller b) _ _ (first_kept b);
  takes = commands_keep;
  passes = time_keeps;
  cut = part_cut;
  whole = part_whole;
}
