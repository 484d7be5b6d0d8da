use Rattle.laws_board.proofs.clocks.Held.{lines_keep}
use Rattle.laws_board.proofs.clocks.lines_keep_up.Goals as goal

pub returns : goal.returns
returns c = lines_keep
