use Rattle.laws_board.proofs.sections.HomeBoards.{told_section, told_between}
use Rattle.laws_board.proofs.halts.homing_boards_keep_their_sections.Goals as goal

pub returns : goal.returns
returns c = record { section = told_section; between = told_between }
