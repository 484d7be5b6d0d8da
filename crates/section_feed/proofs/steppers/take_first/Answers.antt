use Rattle.std.proofs.Common.{◌<◌, List, length, subst}
use Rattle.std.proofs.Math.Logic.{∥∥₁_map}
use Rattle.section_feed.proofs.Boarding.{go-on-none}
use Rattle.section_stream.specs.declared.stepper.StepperStream.{StepperStream}
use Rattle.section_feed.specs.Dues.{HasFirst}
use Rattle.section_feed.specs.Rests.{AreAfter}
use Rattle.section_feed.proofs.Merging.{some-order, some-taken}
use Rattle.section_feed.proofs.Popping.{IsSame, if-none, popped-none, popped-own, popped-some}
use Rattle.section_feed.proofs.Resting.{popped-after}
use Rattle.section_feed.proofs.steppers.take_first.Goals as goal

pub returns-in_err-place-clause-none : goal.returns-in_err-place-clause-none
returns-in_err-place-clause-none c = if-none c.from_residual.result _ (∥∥₁_map c.requires.steppers (go-on-none c.args.lines.now c.args.goes c.args.time c.args.turn c.args.steppers.now.items))

pub returns-clause-some : goal.returns-clause-some
returns-clause-some c =
    let old = c.index_mut.result.now in
    let inside : c.in_ok-place.place < length c.args.steppers.now.items = subst (λ xs. c.in_ok-place.place < length xs) c.deref.ensures.value c.in_ok-place.ensures.some.inside in
    let same : IsSame old c.pop.new.self = record { known = c.pop.ensures.end; lines = c.pop.ensures.lines; turn = c.pop.ensures.turn; kind = c.pop.ensures.kind; caught = c.pop.ensures.caught_up; due = c.pop.ensures.due } in
    popped-some c.args.lines.now c.args.goes c.args.time c.args.turn c.in_ok-place.place c.pop.result c.args.steppers.now.items old c.pop.new.self c.requires.lasting c.requires.steppers inside c.index_mut.ensures.value same c.pop.ensures.number c.pop.ensures.some

pub returns-clause-none : goal.returns-clause-none
returns-clause-none c =
    let old = c.index_mut.result.now in
    let inside : c.in_ok-place.place < length c.args.steppers.now.items = subst (λ xs. c.in_ok-place.place < length xs) c.deref.ensures.value c.in_ok-place.ensures.some.inside in
    let same : IsSame old c.pop.new.self = record { known = c.pop.ensures.end; lines = c.pop.ensures.lines; turn = c.pop.ensures.turn; kind = c.pop.ensures.kind; caught = c.pop.ensures.caught_up; due = c.pop.ensures.due } in
    popped-none c.args.lines.now c.args.goes c.args.time c.args.turn c.in_ok-place.place c.pop.result c.args.steppers.now.items old c.pop.new.self c.requires.lasting c.requires.steppers inside c.index_mut.ensures.value same c.pop.ensures.kept

pub returns-clause-own : goal.returns-clause-own
returns-clause-own c =
    let old = c.index_mut.result.now in
    let inside : c.in_ok-place.place < length c.args.steppers.now.items = subst (λ xs. c.in_ok-place.place < length xs) c.deref.ensures.value c.in_ok-place.ensures.some.inside in
    let same : IsSame old c.pop.new.self = record { known = c.pop.ensures.end; lines = c.pop.ensures.lines; turn = c.pop.ensures.turn; kind = c.pop.ensures.kind; caught = c.pop.ensures.caught_up; due = c.pop.ensures.due } in
    popped-own c.args.lines.now c.args.goes c.args.time c.args.turn c.in_ok-place.place c.pop.result c.args.steppers.now.items old c.requires.steppers inside c.index_mut.ensures.value c.pop.ensures.number

pub returns-in_err-place-clause-after : goal.returns-in_err-place-clause-after
returns-in_err-place-clause-after c = if-none c.from_residual.result _ (subst (λ (ss : List StepperStream). AreAfter c.args.due ss) c.deref.ensures.value c.in_err-place.ensures.none)

pub returns-clause-after : goal.returns-clause-after
returns-clause-after c =
    let first = subst (λ (ss : List StepperStream). HasFirst c.args.due (length ss) ss c.in_ok-place.place) c.deref.ensures.value c.in_ok-place.ensures.some in
    popped-after c.args.due (length c.args.steppers.now.items) c.in_ok-place.place c.pop.result c.args.steppers.now.items c.index_mut.result.now c.pop.new.self first c.index_mut.ensures.value c.pop.ensures.none

pub returns-clause-order : goal.returns-clause-order
returns-clause-order c =
    let first = subst (λ (ss : List StepperStream). HasFirst c.args.due (length ss) ss c.in_ok-place.place) c.deref.ensures.value c.in_ok-place.ensures.some in
    some-order c.args.lines.now c.args.goes c.args.time c.args.turn c.args.due c.in_ok-place.place c.pop.result c.args.steppers.now.items c.index_mut.result.now c.pop.new.self c.requires.lasting c.requires.steppers first c.index_mut.ensures.value c.pop.ensures.first

pub returns-clause-taken : goal.returns-clause-taken
returns-clause-taken c =
    let first = subst (λ (ss : List StepperStream). HasFirst c.args.due (length ss) ss c.in_ok-place.place) c.deref.ensures.value c.in_ok-place.ensures.some in
    some-taken c.args.lines.now c.args.goes c.args.time c.args.turn c.args.due c.in_ok-place.place c.pop.result c.args.steppers.now.items c.index_mut.result.now c.pop.new.self c.requires.steppers first c.index_mut.ensures.value c.pop.ensures.first
