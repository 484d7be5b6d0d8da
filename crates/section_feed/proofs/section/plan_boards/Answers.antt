use Rattle.std.proofs.Common.{◌<◌, length, arith}
use Rattle.section_feed.specs.Going.{IsPlanned}
use Rattle.section_feed.proofs.Changing.{to-none, to-next, to-all}
use Rattle.section_feed.proofs.section.plan_boards.Goals as goal

pub loop-place-init : goal.loop-place-init
loop-place-init c = to-none (IsPlanned c.args.turn) c.args.boards.now.items

pub returns : goal.returns
returns c = to-all (IsPlanned c.args.turn) c.loop-place.place c.args.boards.now.items c.loop-place.boards.items c.loop-place.invariant (let s = c.loop-place.invariant.same in omega (arith, c.loop-place-test.false))

pub loop-place-preserved : goal.loop-place-preserved
loop-place-preserved c =
    let inside : c.loop-place.place < length c.loop-place.boards.items = (let l = c.len.ensures in let t = c.loop-place-test.true in omega arith) in
    to-next (IsPlanned c.args.turn) c.loop-place.place c.args.boards.now.items c.loop-place.boards.items c.index_mut.result.now c.plan.new.self c.loop-place.invariant inside c.index_mut.ensures.value (record { on = c.in_ok-plan.ensures.on; time = c.in_ok-plan.ensures.time; next = c.plan.ensures.turn; set = c.in_ok-plan.ensures.set; goes = c.plan.ensures.goes; packed = c.in_ok-plan.ensures.packed; most = c.in_ok-plan.ensures.most })
