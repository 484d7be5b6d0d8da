use Rattle.laws_homing.proofs.clear_groups.Noted.{board_followed}
use Rattle.laws_homing.proofs.clear_groups.tracked_boards_are_followed.Goals as goal

pub returns : goal.returns
returns g = λ m b clocks ready start last until v within k begins goes ends in_run. board_followed m b clocks ready start last until v within k begins goes ends in_run
