use Rattle.laws_board.proofs.orders.MadeIn.{made_ready}
use Rattle.laws_board.proofs.orders.steppers_are_made_in_time.Goals as goal

pub returns : goal.returns
returns c = made_ready
