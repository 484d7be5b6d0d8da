use Rattle.laws_board.proofs.clocks.Links.{told_own}
use Rattle.laws_board.proofs.clocks.answers_tell_own_ticks.Goals as goal

pub returns : goal.returns
returns c = told_own
