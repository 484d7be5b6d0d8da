use Rattle.std.proofs.Common.{true, false, ◌<◌, [], length, arith, refl, subst, sym}
use Rattle.clock_line.proofs.Holding.{tick-mono}
use Rattle.std.proofs.Math.Logic.{∥∥₁_map, ∥∥₁_elim}
use Rattle.std.proofs.lemmas.Grind.{merely}
use Rattle.std.proofs.Props.{props}
use Rattle.section_feed.specs.Boards.{IsUpTo, most_ns}
use Rattle.section_feed.specs.Changes.{StepperGoesOn}
use Rattle.section_feed.proofs.Changing.{to-none, to-old, to-next, to-all}
use Rattle.std.proofs.lemmas.Bool.{false≢true}
use Rattle.section_feed.proofs.Boarding.{kept-on}
use Rattle.section_feed.proofs.steppers.finish_all.Goals as goal

pub loop-place-init : goal.loop-place-init
loop-place-init c = merely (to-none (StepperGoesOn c.args.lines.now false c.args.time c.args.turn [] []) c.args.steppers.now.items)

pub returns : goal.returns
returns c = ∥∥₁_map c.loop-place.invariant (λ to. to-all (StepperGoesOn c.args.lines.now false c.args.time c.args.turn [] []) c.loop-place.place c.args.steppers.now.items c.loop-place.steppers.items to (let s = to.same in omega (arith, c.loop-place-test.false)))

pub loop-place-preserved : goal.loop-place-preserved
loop-place-preserved c =
    let old = c.index_mut.result.now in
    let inside : c.loop-place.place < length c.loop-place.steppers.items = (let l = c.len.ensures in let t = c.loop-place-test.true in omega arith) in
    ∥∥₁_elim c.loop-place.invariant (hlevel props) (λ to. ∥∥₁_map c.requires.steppers (λ all. (
    let same = to.same in
    let up : IsUpTo c.args.lines.now true c.args.time c.args.turn c.loop-place.place old = subst (IsUpTo c.args.lines.now true c.args.time c.args.turn c.loop-place.place) (sym (to-old (StepperGoesOn c.args.lines.now false c.args.time c.args.turn [] []) c.loop-place.place c.args.steppers.now.items c.loop-place.steppers.items old old to inside c.index_mut.ensures.value)) (all.each c.loop-place.place old (omega arith)) in
    to-next (StepperGoesOn c.args.lines.now false c.args.time c.args.turn [] []) c.loop-place.place c.args.steppers.now.items c.loop-place.steppers.items old _ to inside c.index_mut.ensures.value (kept-on c.args.lines.now true false c.args.time c.args.turn c.loop-place.place old c.finish.new.self up (λ e. absurd (false≢true e)) (λ e. absurd (false≢true e)) (λ e. (let m = c.finish.ensures.end in let n = c.last_tick-end.ensures in omega arith)) (c.finish.ensures.caught_up c.args.turn) c.finish.ensures.lines c.finish.ensures.turn c.finish.ensures.kind c.finish.ensures.due c.finish.ensures.ended))))

pub finish-requires : goal.finish-requires
finish-requires c = record {
  order = (
      let old = c.index_mut.result.now in
      let inside : c.loop-place.place < length c.loop-place.steppers.items = (let l = c.len.ensures in let t = c.loop-place-test.true in omega arith) in
      ∥∥₁_elim c.loop-place.invariant (hlevel props) (λ to. ∥∥₁_elim c.requires.steppers (hlevel props) (λ all. (
      let same = to.same in
      let up : IsUpTo c.args.lines.now true c.args.time c.args.turn c.loop-place.place old = subst (IsUpTo c.args.lines.now true c.args.time c.args.turn c.loop-place.place) (sym (to-old (StepperGoesOn c.args.lines.now false c.args.time c.args.turn [] []) c.loop-place.place c.args.steppers.now.items c.loop-place.steppers.items old old to inside c.index_mut.ensures.value)) (all.each c.loop-place.place old (omega arith)) in
      let known = up.known refl in
      let small = c.requires.small in
      let m = tick-mono c.args.lines.now.first c.args.time most_ns (omega arith) in
      let e = c.last_tick-end.ensures in
      omega arith))));
}
