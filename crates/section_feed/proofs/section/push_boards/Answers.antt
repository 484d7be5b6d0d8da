use Rattle.std.proofs.Common.{◌<◌, length, arith, subst, sym}
use Rattle.section_feed.specs.Going.{IsOpen, IsPushed}
use Rattle.section_feed.proofs.Changing.{to-none, to-next, to-all, to-old}
use Rattle.section_feed.proofs.section.push_boards.Goals as goal

pub loop-place-init : goal.loop-place-init
loop-place-init c = to-none (IsPushed c.args.ready.now) c.args.boards.now.items

pub returns : goal.returns
returns c = to-all (IsPushed c.args.ready.now) c.loop-place.place c.args.boards.now.items c.loop-place.boards.items c.loop-place.invariant (let s = c.loop-place.invariant.same in omega (arith, c.loop-place-test.false))

pub loop-place-preserved : goal.loop-place-preserved
loop-place-preserved c =
    let inside : c.loop-place.place < length c.loop-place.boards.items = (let l = c.len.ensures in let t = c.loop-place-test.true in omega arith) in
    to-next (IsPushed c.args.ready.now) c.loop-place.place c.args.boards.now.items c.loop-place.boards.items c.index_mut.result.now c.push.new.self c.loop-place.invariant inside c.index_mut.ensures.value (record { on = c.in_ok-push.ensures.on; time = c.in_ok-push.ensures.time; turn = c.push.ensures.turn; set = c.in_ok-push.ensures.set; goes = c.push.ensures.goes; packed = c.push.ensures.packed })

pub push-requires : goal.push-requires
push-requires c =
    let inside : c.loop-place.place < length c.loop-place.boards.items = (let l = c.len.ensures in let t = c.loop-place-test.true in omega arith) in
    let same = c.loop-place.invariant.same in
    let old = c.index_mut.result.now in
    let here : IsOpen old = subst IsOpen (sym (to-old (IsPushed c.args.ready.now) c.loop-place.place c.args.boards.now.items c.loop-place.boards.items old old c.loop-place.invariant inside c.index_mut.ensures.value)) (c.requires.going c.loop-place.place old (omega arith)) in
    record { going = here.goes }
