use Rattle.laws_board.proofs.sections.Released.{run_released}
use Rattle.laws_board.proofs.boards.units_are_released.Goals as goal

pub returns : goal.returns
returns c = run_released
