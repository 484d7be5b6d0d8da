use Rattle.std.proofs.Common.{subst}
use Rattle.section_feed.specs.Wholes.{AreDone}
use Rattle.section_feed.proofs.Ending.{board-done}
use Rattle.section_feed.proofs.board.BoardStream.is_done.Goals as goal

pub returns-then-are_done : goal.returns-then-are_done
returns-then-are_done c = λ t homing freq kinds base parts released set was. (
    let s = c.args.self.now in
    let done = subst AreDone c.deref.ensures.value (c.are_done.ensures c.if-are_done.true) in
    board-done homing s.lines s.goes s.time s.turn s.steppers.items s.feed s.order freq kinds base parts released s.up_to done (c.is_empty.ensures t) set was)
