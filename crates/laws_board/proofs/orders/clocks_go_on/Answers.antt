use Rattle.laws_board.proofs.orders.Going.{goes_tracked, own_on}
use Rattle.laws_board.proofs.orders.clocks_go_on.Goals as goal

pub returns : goal.returns
returns c = record { own = own_on; tracked = goes_tracked }
