use Rattle.motion_work.proofs.Telling.{fit_lengths}
use Rattle.motion_work.proofs.told.are_fit.Goals as goal

pub returns-then-boards-lines : goal.returns-then-boards-lines
returns-then-boards-lines c = fit_lengths c.args.boards.now c.args.turn c.args.lines.now c.if-boards-lines.true
