use Rattle.std.proofs.Common.{drop, arith}
use Rattle.board_world.specs.Stands.{under_way}
use Rattle.link_work.specs.Turn.{put_all}
use Rattle.link_work.proofs.Putting.{next_put, all_put}
use Rattle.link_work.proofs.put.put_from.Goals as goal

pub loop-i-preserved : goal.loop-i-preserved
loop-i-preserved c =
    let blocks = under_way c.args.way c.args.world.now in
    next_put blocks c.loop-i.i c.args.turn c.loop-i.wire c.put.new.self (put_all c.args.wire.now c.args.turn (drop c.args.from blocks)) c.copy.result.items
    (omega (arith, c.loop-i-test.true, c.copies-i-end.ensures.seen)) c.loop-i.invariant c.copy.ensures.seen c.in_ok-put.ensures.ok

pub returns : goal.returns
returns c =
    let blocks = under_way c.args.way c.args.world.now in
    all_put blocks c.loop-i.i c.args.turn c.loop-i.wire (put_all c.args.wire.now c.args.turn (drop c.args.from blocks))
    (omega (arith, c.loop-i-test.false, c.copies-i-end.ensures.seen)) c.loop-i.invariant
