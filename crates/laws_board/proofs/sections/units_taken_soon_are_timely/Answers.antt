use Rattle.laws_board.proofs.sections.Heeded.{taken_soon}
use Rattle.laws_board.proofs.sections.units_taken_soon_are_timely.Goals as goal

pub returns : goal.returns
returns c = taken_soon
