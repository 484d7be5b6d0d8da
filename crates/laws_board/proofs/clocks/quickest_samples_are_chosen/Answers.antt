use Rattle.laws_board.proofs.clocks.Quickest.{quickest}
use Rattle.laws_board.proofs.clocks.quickest_samples_are_chosen.Goals as goal

pub returns : goal.returns
returns c = λ first others freq. quickest first others freq
