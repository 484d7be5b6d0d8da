use Rattle.std.proofs.Common.{◌*◌, ◌<◌, length, arith, subst, sym}
use Rattle.std.proofs.Math.Logic.{∥∥₁_map, ∥∥₁_elim}
use Rattle.std.proofs.lemmas.Grind.{merely}
use Rattle.std.proofs.Props.{props}
use Rattle.plan_types.specs.Clock.{turn_ns}
use Rattle.clock_line.specs.Kept.{added}
use Rattle.section_feed.specs.Boards.{IsUpTo}
use Rattle.section_feed.specs.Changes.{IsLined}
use Rattle.section_feed.proofs.Changing.{to-none, to-old, to-next, to-all}
use Rattle.section_feed.proofs.Lining.{MayLine, lined-on, may-line}
use Rattle.section_feed.proofs.steppers.line_all.Goals as goal

pub loop-place-init : goal.loop-place-init
loop-place-init c = merely (to-none (IsLined (added c.args.lines.now (c.args.turn * turn_ns) c.args.line) c.args.goes c.args.time c.args.packed c.args.turn) c.args.steppers.now.items)

pub returns : goal.returns
returns c = ∥∥₁_map c.loop-place.invariant (λ to. to-all (IsLined (added c.args.lines.now (c.args.turn * turn_ns) c.args.line) c.args.goes c.args.time c.args.packed c.args.turn) c.loop-place.place c.args.steppers.now.items c.loop-place.steppers.items to (let s = to.same in omega (arith, c.loop-place-test.false)))

pub add_line-requires : goal.add_line-requires
add_line-requires c =
    let old = c.index_mut.result.now in
    let inside : c.loop-place.place < length c.loop-place.steppers.items = (let l = c.len.ensures in let t = c.loop-place-test.true in omega arith) in
    let may : MayLine old (c.args.turn * turn_ns) c.args.line = ∥∥₁_elim c.loop-place.invariant (hlevel props) (λ to. ∥∥₁_elim c.requires.steppers (hlevel props) (λ all. (
    let same = to.same in
    let up : IsUpTo c.args.lines.now c.args.goes c.args.time c.args.packed c.loop-place.place old = subst (IsUpTo c.args.lines.now c.args.goes c.args.time c.args.packed c.loop-place.place) (sym (to-old (IsLined (added c.args.lines.now (c.args.turn * turn_ns) c.args.line) c.args.goes c.args.time c.args.packed c.args.turn) c.loop-place.place c.args.steppers.now.items c.loop-place.steppers.items old old to inside c.index_mut.ensures.value)) (all.each c.loop-place.place old (omega arith)) in
    may-line c.args.lines.now c.args.goes c.args.time c.args.packed c.args.turn c.loop-place.place c.args.line old c.requires.lasting c.requires.may c.requires.behind c.requires.small up))) in
    let here : MayLine old c.begin_of-from.result c.args.line = subst (λ t. MayLine old t c.args.line) (sym c.begin_of-from.ensures) may in
    record {
      after = here.hold.after;
      fit = here.hold.fit;
      tick_small = here.hold.tick_small;
      start_small = here.hold.start_small;
      plan_small = here.hold.plan_small;
      on_board = here.on_board;
      order = here.order;
    }

pub loop-place-preserved : goal.loop-place-preserved
loop-place-preserved c =
    let old = c.index_mut.result.now in
    let inside : c.loop-place.place < length c.loop-place.steppers.items = (let l = c.len.ensures in let t = c.loop-place-test.true in omega arith) in
    ∥∥₁_elim c.loop-place.invariant (hlevel props) (λ to. ∥∥₁_map c.requires.steppers (λ all. (
    let same = to.same in
    let up : IsUpTo c.args.lines.now c.args.goes c.args.time c.args.packed c.loop-place.place old = subst (IsUpTo c.args.lines.now c.args.goes c.args.time c.args.packed c.loop-place.place) (sym (to-old (IsLined (added c.args.lines.now (c.args.turn * turn_ns) c.args.line) c.args.goes c.args.time c.args.packed c.args.turn) c.loop-place.place c.args.steppers.now.items c.loop-place.steppers.items old old to inside c.index_mut.ensures.value)) (all.each c.loop-place.place old (omega arith)) in
    to-next (IsLined (added c.args.lines.now (c.args.turn * turn_ns) c.args.line) c.args.goes c.args.time c.args.packed c.args.turn) c.loop-place.place c.args.steppers.now.items c.loop-place.steppers.items old _ to inside c.index_mut.ensures.value (lined-on c.args.lines.now c.args.goes c.args.time c.args.packed c.args.turn c.loop-place.place c.begin_of-from.result c.args.line old c.add_line.new.self c.begin_of-from.ensures c.requires.behind up c.in_ok-add_line.ensures.lines c.add_line.ensures.end c.add_line.ensures.turn c.add_line.ensures.kind c.add_line.ensures.units c.in_ok-add_line.ensures.caught_up c.in_ok-add_line.ensures.due c.in_ok-add_line.ensures.added))))
