use Rattle.laws_board.proofs.sections.Tracking.{tracked}
use Rattle.laws_board.proofs.sections.sampled_lines_are_tracked.Goals as goal

pub returns : goal.returns
returns c = tracked
