use Rattle.board_world.proofs.Apart.{ticks_fit}
use Rattle.board_world.proofs.laws.ticks_stay_in_range.Goals as goal

pub returns : goal.returns
returns c = ticks_fit
