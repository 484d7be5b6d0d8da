use Rattle.laws_board.proofs.causes.Connect.{connect_cause}
use Rattle.laws_board.proofs.causes.connecting_ends_for_a_cause.Goals as goal

pub returns : goal.returns
returns c = connect_cause
