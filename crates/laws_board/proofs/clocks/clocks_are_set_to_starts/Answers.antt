use Rattle.laws_board.proofs.clocks.Clocked.{clocks_set}
use Rattle.laws_board.proofs.clocks.clocks_are_set_to_starts.Goals as goal

pub returns : goal.returns
returns c = clocks_set
