use Rattle.board_world.proofs.Answering.{none_read, part_read, whole_read}
use Rattle.board_world.proofs.world.whole_command.Goals as goal

pub returns-in_default : goal.returns-in_default
returns-in_default c = none_read c.args.d.now.formats c.args.bytes.now _ c.in_default.ensures.err

pub returns-then-used-bytes : goal.returns-then-used-bytes
returns-then-used-bytes c = part_read c.args.d.now.formats c.in-Ok.c c.args.bytes.now c.in-Ok.used c.in-Ok.ensures.within c.if-used-bytes.true c.in-Ok.ensures.ok

pub returns : goal.returns
returns c = whole_read c.args.d.now.formats c.in-Ok.c c.args.bytes.now c.in-Ok.used c.if-used-bytes.false c.in-Ok.ensures.ok
