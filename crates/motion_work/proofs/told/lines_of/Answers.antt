use Rattle.plan_types.specs.Machines.{no_board}
use Rattle.motion_work.proofs.Telling.{fit_at}
use Rattle.motion_work.proofs.told.lines_of.Goals as goal

pub new-requires : goal.new-requires
new-requires c = ((fit_at c.args.boards.now c.args.turn c.args.lines.now no_board (record { at = 0; clock = 0; freq = 0 }) c.requires.boards c.requires.small c.requires.fit).1 c.loop-line.line-index c.loop-line-test.true).valid
