use Rattle.laws_board.proofs.Names.{board_at}
use Rattle.laws_board.proofs.sections.Linking.{valid_ticks}
use Rattle.laws_homing.proofs.clear_groups.Resting.{off_at}
use Rattle.laws_homing.proofs.clear_groups.boards_rest_between_sections.Goals as goal

pub returns : goal.returns
returns g = λ m switches pins entries b v none within c before turns known alone h is at. off_at m v switches pins entries none b (valid_ticks (board_at m b) (v.boards b _ within)).up c before turns known alone h is at
