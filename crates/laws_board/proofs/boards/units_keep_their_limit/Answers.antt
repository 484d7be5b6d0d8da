use Rattle.laws_board.proofs.sections.Limiting.{units_fit}
use Rattle.laws_board.proofs.boards.units_keep_their_limit.Goals as goal

pub returns : goal.returns
returns c = units_fit
