use Rattle.board_step.proofs.Whole.{whole}
use Rattle.board_step.proofs.whole_ticks.Goals as goal

pub returns : goal.returns
returns c = whole
