use Rattle.laws_board.proofs.causes.Again.{tells_again}
use Rattle.laws_board.proofs.causes.boards_tell_their_clocks.Goals as goal

pub returns : goal.returns
returns c = tells_again
