use Rattle.std.proofs.Common.{true, ◌+◌, ◌<◌, [], length, arith, subst, sym}
use Rattle.std.proofs.Math.Logic.{∥∥₁_map, ∥∥₁_elim}
use Rattle.std.proofs.lemmas.Grind.{merely}
use Rattle.std.proofs.Props.{props}
use Rattle.section_feed.specs.Boards.{IsUpTo}
use Rattle.section_feed.specs.Changes.{StepperGoesOn}
use Rattle.section_feed.proofs.Changing.{to-none, to-old, to-next, to-all}
use Rattle.plan_types.specs.Sections.{duration, timed}
use Rattle.section_feed.proofs.Boarding.{may-push, pushed-on}
use Rattle.section_feed.proofs.steppers.push_all.Goals as goal

pub loop-place-init : goal.loop-place-init
loop-place-init c = merely (to-none (StepperGoesOn c.args.lines.now true (c.args.begin + duration c.args.ready.now.parts) c.args.turn (timed c.args.ready.now.one 0 c.args.begin c.args.ready.now.parts) []) c.args.steppers.now.items)

pub returns : goal.returns
returns c = ∥∥₁_map c.loop-place.invariant (λ to. to-all (StepperGoesOn c.args.lines.now true (c.args.begin + duration c.args.ready.now.parts) c.args.turn (timed c.args.ready.now.one 0 c.args.begin c.args.ready.now.parts) []) c.loop-place.place c.args.steppers.now.items c.loop-place.steppers.items to (let s = to.same in omega (arith, c.loop-place-test.false)))

pub loop-place-preserved : goal.loop-place-preserved
loop-place-preserved c =
    let old = c.index_mut.result.now in
    let inside : c.loop-place.place < length c.loop-place.steppers.items = (let l = c.len.ensures in let t = c.loop-place-test.true in omega arith) in
    ∥∥₁_elim c.loop-place.invariant (hlevel props) (λ to. ∥∥₁_map c.requires.steppers (λ all. (
    let same = to.same in
    let up : IsUpTo c.args.lines.now true c.args.begin c.args.turn c.loop-place.place old = subst (IsUpTo c.args.lines.now true c.args.begin c.args.turn c.loop-place.place) (sym (to-old (StepperGoesOn c.args.lines.now true (c.args.begin + duration c.args.ready.now.parts) c.args.turn (timed c.args.ready.now.one 0 c.args.begin c.args.ready.now.parts) []) c.loop-place.place c.args.steppers.now.items c.loop-place.steppers.items old old to inside c.index_mut.ensures.value)) (all.each c.loop-place.place old (omega arith)) in
    to-next (StepperGoesOn c.args.lines.now true (c.args.begin + duration c.args.ready.now.parts) c.args.turn (timed c.args.ready.now.one 0 c.args.begin c.args.ready.now.parts) []) c.loop-place.place c.args.steppers.now.items c.loop-place.steppers.items old _ to inside c.index_mut.ensures.value (pushed-on c.args.lines.now c.args.begin (c.args.begin + duration c.args.ready.now.parts) c.args.turn c.loop-place.place (timed c.args.ready.now.one 0 c.args.begin c.args.ready.now.parts) old c.push.new.self up c.in_ok-push.ensures.end c.in_ok-push.ensures.reaches (c.in_ok-push.ensures.caught_up c.args.turn) c.push.ensures.lines c.push.ensures.turn c.push.ensures.kind c.in_ok-push.ensures.due c.in_ok-push.ensures.pushed))))

pub push-requires-clause-begun : goal.push-requires-clause-begun
push-requires-clause-begun c =
    let old = c.index_mut.result.now in
    let inside : c.loop-place.place < length c.loop-place.steppers.items = (let l = c.len.ensures in let t = c.loop-place-test.true in omega arith) in
    ∥∥₁_elim c.loop-place.invariant (hlevel props) (λ to. ∥∥₁_elim c.requires.steppers (hlevel props) (λ all. (
    let same = to.same in
    let up : IsUpTo c.args.lines.now true c.args.begin c.args.turn c.loop-place.place old = subst (IsUpTo c.args.lines.now true c.args.begin c.args.turn c.loop-place.place) (sym (to-old (StepperGoesOn c.args.lines.now true (c.args.begin + duration c.args.ready.now.parts) c.args.turn (timed c.args.ready.now.one 0 c.args.begin c.args.ready.now.parts) []) c.loop-place.place c.args.steppers.now.items c.loop-place.steppers.items old old to inside c.index_mut.ensures.value)) (all.each c.loop-place.place old (omega arith)) in
    (may-push c.args.lines.now c.args.begin (c.args.begin + duration c.args.ready.now.parts) c.args.turn c.loop-place.place old c.requires.lasting up c.requires.begun c.requires.small).begun)))

pub push-requires-clause-order : goal.push-requires-clause-order
push-requires-clause-order c =
    let old = c.index_mut.result.now in
    let inside : c.loop-place.place < length c.loop-place.steppers.items = (let l = c.len.ensures in let t = c.loop-place-test.true in omega arith) in
    ∥∥₁_elim c.loop-place.invariant (hlevel props) (λ to. ∥∥₁_elim c.requires.steppers (hlevel props) (λ all. (
    let same = to.same in
    let up : IsUpTo c.args.lines.now true c.args.begin c.args.turn c.loop-place.place old = subst (IsUpTo c.args.lines.now true c.args.begin c.args.turn c.loop-place.place) (sym (to-old (StepperGoesOn c.args.lines.now true (c.args.begin + duration c.args.ready.now.parts) c.args.turn (timed c.args.ready.now.one 0 c.args.begin c.args.ready.now.parts) []) c.loop-place.place c.args.steppers.now.items c.loop-place.steppers.items old old to inside c.index_mut.ensures.value)) (all.each c.loop-place.place old (omega arith)) in
    (may-push c.args.lines.now c.args.begin (c.args.begin + duration c.args.ready.now.parts) c.args.turn c.loop-place.place old c.requires.lasting up c.requires.begun c.requires.small).order)))

pub push-requires-clause-room : goal.push-requires-clause-room
push-requires-clause-room c =
    let old = c.index_mut.result.now in
    let inside : c.loop-place.place < length c.loop-place.steppers.items = (let l = c.len.ensures in let t = c.loop-place-test.true in omega arith) in
    ∥∥₁_elim c.loop-place.invariant (hlevel props) (λ to. ∥∥₁_elim c.requires.steppers (hlevel props) (λ all. (
    let same = to.same in
    let up : IsUpTo c.args.lines.now true c.args.begin c.args.turn c.loop-place.place old = subst (IsUpTo c.args.lines.now true c.args.begin c.args.turn c.loop-place.place) (sym (to-old (StepperGoesOn c.args.lines.now true (c.args.begin + duration c.args.ready.now.parts) c.args.turn (timed c.args.ready.now.one 0 c.args.begin c.args.ready.now.parts) []) c.loop-place.place c.args.steppers.now.items c.loop-place.steppers.items old old to inside c.index_mut.ensures.value)) (all.each c.loop-place.place old (omega arith)) in
    (may-push c.args.lines.now c.args.begin (c.args.begin + duration c.args.ready.now.parts) c.args.turn c.loop-place.place old c.requires.lasting up c.requires.begun c.requires.small).room)))

pub push-requires-clause-on_board : goal.push-requires-clause-on_board
push-requires-clause-on_board c =
    let old = c.index_mut.result.now in
    let inside : c.loop-place.place < length c.loop-place.steppers.items = (let l = c.len.ensures in let t = c.loop-place-test.true in omega arith) in
    ∥∥₁_elim c.loop-place.invariant (hlevel props) (λ to. ∥∥₁_elim c.requires.steppers (hlevel props) (λ all. (
    let same = to.same in
    let up : IsUpTo c.args.lines.now true c.args.begin c.args.turn c.loop-place.place old = subst (IsUpTo c.args.lines.now true c.args.begin c.args.turn c.loop-place.place) (sym (to-old (StepperGoesOn c.args.lines.now true (c.args.begin + duration c.args.ready.now.parts) c.args.turn (timed c.args.ready.now.one 0 c.args.begin c.args.ready.now.parts) []) c.loop-place.place c.args.steppers.now.items c.loop-place.steppers.items old old to inside c.index_mut.ensures.value)) (all.each c.loop-place.place old (omega arith)) in
    (may-push c.args.lines.now c.args.begin (c.args.begin + duration c.args.ready.now.parts) c.args.turn c.loop-place.place old c.requires.lasting up c.requires.begun c.requires.small).on_board)))
