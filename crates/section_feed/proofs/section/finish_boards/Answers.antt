use Rattle.std.proofs.Common.{◌<◌, length, arith}
use Rattle.section_feed.specs.Going.{IsBoardStill}
use Rattle.section_feed.proofs.Changing.{to-none, to-next, to-all}
use Rattle.section_feed.proofs.section.finish_boards.Goals as goal

pub loop-place-init : goal.loop-place-init
loop-place-init c = to-none (IsBoardStill) c.args.boards.now.items

pub returns : goal.returns
returns c = to-all (IsBoardStill) c.loop-place.place c.args.boards.now.items c.loop-place.boards.items c.loop-place.invariant (let s = c.loop-place.invariant.same in omega (arith, c.loop-place-test.false))

pub loop-place-preserved : goal.loop-place-preserved
loop-place-preserved c =
    let inside : c.loop-place.place < length c.loop-place.boards.items = (let l = c.len.ensures in let t = c.loop-place-test.true in omega arith) in
    to-next (IsBoardStill) c.loop-place.place c.args.boards.now.items c.loop-place.boards.items c.index_mut.result.now c.finish.new.self c.loop-place.invariant inside c.index_mut.ensures.value (record { on = c.finish.ensures.on; time = c.finish.ensures.time; turn = c.finish.ensures.turn; set = c.finish.ensures.set; packed = c.finish.ensures.packed })
