use Rattle.laws_homing.proofs.clear_boards.Taking.{takes_rested}
use Rattle.laws_homing.proofs.clear_boards.clear_boards_take_what_is_queued.Goals as goal

pub returns : goal.returns
returns c = λ b pins place entries t before rests are. takes_rested b pins place entries t before rests are
