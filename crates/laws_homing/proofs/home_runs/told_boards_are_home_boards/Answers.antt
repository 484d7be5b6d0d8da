use Rattle.laws_homing.proofs.home_runs.Homed.{home_board}
use Rattle.laws_homing.proofs.home_runs.told_boards_are_home_boards.Goals as goal

pub returns : goal.returns
returns c = home_board
