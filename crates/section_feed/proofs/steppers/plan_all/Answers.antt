use Rattle.std.proofs.Common.{◌*◌, ◌<◌, [], length, arith, subst, sym}
use Rattle.std.proofs.Math.Logic.{∥∥₁_map, ∥∥₁_elim}
use Rattle.std.proofs.lemmas.Grind.{merely}
use Rattle.std.proofs.Props.{props}
use Rattle.section_feed.specs.Boards.{IsUpTo}
use Rattle.section_feed.specs.Changes.{StepperGoesOn}
use Rattle.section_feed.proofs.Changing.{to-none, to-old, to-next, to-all}
use Rattle.section_feed.proofs.Boarding.{planned-on}
use Rattle.section_feed.proofs.Lasts.{last-soon, lines-small}
use Rattle.plan_types.specs.Clock.{turn_ns}
use Rattle.section_feed.proofs.steppers.plan_all.Goals as goal

pub loop-place-init : goal.loop-place-init
loop-place-init c = merely (to-none (StepperGoesOn c.args.lines.now c.args.goes c.args.time c.args.turn [] []) c.args.steppers.now.items)

pub returns : goal.returns
returns c = ∥∥₁_map c.loop-place.invariant (λ to. to-all (StepperGoesOn c.args.lines.now c.args.goes c.args.time c.args.turn [] []) c.loop-place.place c.args.steppers.now.items c.loop-place.steppers.items to (let s = to.same in omega (arith, c.loop-place-test.false)))

pub loop-place-preserved : goal.loop-place-preserved
loop-place-preserved c =
    let old = c.index_mut.result.now in
    let inside : c.loop-place.place < length c.loop-place.steppers.items = (let l = c.len.ensures in let t = c.loop-place-test.true in omega arith) in
    ∥∥₁_elim c.loop-place.invariant (hlevel props) (λ to. ∥∥₁_map c.requires.steppers (λ all. (
    let same = to.same in
    let up : IsUpTo c.args.lines.now c.args.goes c.args.time c.args.before c.loop-place.place old = subst (IsUpTo c.args.lines.now c.args.goes c.args.time c.args.before c.loop-place.place) (sym (to-old (StepperGoesOn c.args.lines.now c.args.goes c.args.time c.args.turn [] []) c.loop-place.place c.args.steppers.now.items c.loop-place.steppers.items old old to inside c.index_mut.ensures.value)) (all.each c.loop-place.place old (omega arith)) in
    to-next (StepperGoesOn c.args.lines.now c.args.goes c.args.time c.args.turn [] []) c.loop-place.place c.args.steppers.now.items c.loop-place.steppers.items old _ to inside c.index_mut.ensures.value (planned-on c.args.lines.now c.args.goes c.args.time c.args.before c.args.turn c.loop-place.place _ old c.plan.new.self up c.in_ok-plan.ensures.caught_up c.requires.lasting c.requires.begun c.requires.small c.requires.knows c.plan.ensures.end c.plan.ensures.lines c.plan.ensures.turn c.plan.ensures.kind c.requires.order c.in_ok-plan.ensures.due c.in_ok-plan.ensures.planned))))

pub plan-requires-clause-lines : goal.plan-requires-clause-lines
plan-requires-clause-lines c =
    let old = c.index_mut.result.now in
    let inside : c.loop-place.place < length c.loop-place.steppers.items = (let l = c.len.ensures in let t = c.loop-place-test.true in omega arith) in
    ∥∥₁_elim c.loop-place.invariant (hlevel props) (λ to. ∥∥₁_elim c.requires.steppers (hlevel props) (λ all. (
    let same = to.same in
    let up : IsUpTo c.args.lines.now c.args.goes c.args.time c.args.before c.loop-place.place old = subst (IsUpTo c.args.lines.now c.args.goes c.args.time c.args.before c.loop-place.place) (sym (to-old (StepperGoesOn c.args.lines.now c.args.goes c.args.time c.args.turn [] []) c.loop-place.place c.args.steppers.now.items c.loop-place.steppers.items old old to inside c.index_mut.ensures.value)) (all.each c.loop-place.place old (omega arith)) in
    sym up.clocks_are)))

pub plan-requires-clause-order : goal.plan-requires-clause-order
plan-requires-clause-order c =
    let old = c.index_mut.result.now in
    let inside : c.loop-place.place < length c.loop-place.steppers.items = (let l = c.len.ensures in let t = c.loop-place-test.true in omega arith) in
    ∥∥₁_elim c.loop-place.invariant (hlevel props) (λ to. ∥∥₁_elim c.requires.steppers (hlevel props) (λ all. (
    let same = to.same in
    let up : IsUpTo c.args.lines.now c.args.goes c.args.time c.args.before c.loop-place.place old = subst (IsUpTo c.args.lines.now c.args.goes c.args.time c.args.before c.loop-place.place) (sym (to-old (StepperGoesOn c.args.lines.now c.args.goes c.args.time c.args.turn [] []) c.loop-place.place c.args.steppers.now.items c.loop-place.steppers.items old old to inside c.index_mut.ensures.value)) (all.each c.loop-place.place old (omega arith)) in
    (let p = up.packed in let o = c.requires.order in omega arith))))

pub plan-requires-clause-soon : goal.plan-requires-clause-soon
plan-requires-clause-soon c = last-soon c.args.lines.now (c.args.turn * turn_ns) c.requires.lasting c.requires.begun (let s = c.requires.small in omega arith)

pub plan-requires-clause-small : goal.plan-requires-clause-small
plan-requires-clause-small c = let l = lines-small c.args.lines.now (c.args.turn * turn_ns) c.requires.lasting (let s = c.requires.small in omega arith) in omega arith
