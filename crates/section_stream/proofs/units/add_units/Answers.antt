use Rattle.std.proofs.Common.{◌≡◌, ◌<◌, List, All, subst, sym, get_or, arith}
use Rattle.std.proofs.lemmas.List.{length-drop}
use Rattle.msg_code.specs.declared.unit.Unit.{Unit as StepUnit}
use Rattle.section_stream.proofs.Laying.{none-yet, next-here, no_placed, place-is, turn-small, has_own}
use Rattle.step_ticks.specs.Streaming.{last_step_tick}
use Rattle.section_stream.specs.Rows.{AreInRow}
use Rattle.section_stream.proofs.Rowing.{has-early, has-row}
use Rattle.section_stream.proofs.units.add_units.Goals as goal

pub loop-one-init : goal.loop-one-init
loop-one-init c = none-yet c.args.lines.now c.args.before.oid c.args.before.reset c.args.before.up c.requires.packed.0 c.args.before.last c.args.steps.now c.args.placed.now c.args.units.now.items c.requires.packed.1 c.requires.spaced c.requires.small c.requires.from

pub bounds-steps-next : goal.bounds-steps-next
bounds-steps-next c =
    let p = get_or c.args.placed.now c.loop-one.one-index no_placed in
    let n = next-here c.args.lines.now c.args.before.oid c.args.before.reset c.args.before.up c.args.steps.now c.args.placed.now c.args.units.now.items c.loop-one.units.items c.loop-one.up c.loop-one.next c.loop-one.one-index p c.loop-one.invariant c.loop-one-test.true (place-is c.args.placed.now c.loop-one.one-index c.loop-one-test.true) in
    let some = n.some in
    let len = length-drop c.loop-one.next c.args.steps.now in
    omega arith

pub turn-requires-clause-small : goal.turn-requires-clause-small
turn-requires-clause-small c =
    let p = get_or c.args.placed.now c.loop-one.one-index no_placed in
    let n = next-here c.args.lines.now c.args.before.oid c.args.before.reset c.args.before.up c.args.steps.now c.args.placed.now c.args.units.now.items c.loop-one.units.items c.loop-one.up c.loop-one.next c.loop-one.one-index p c.loop-one.invariant c.loop-one-test.true (place-is c.args.placed.now c.loop-one.one-index c.loop-one-test.true) in
    turn-small c.args.lines.now p.first n.first_small c.requires.soon

pub returns-in_err-push_back-clause-own : goal.returns-in_err-push_back-clause-own
returns-in_err-push_back-clause-own c = λ own. (
    let has = has_own c.args.lines.now c.args.before.oid c.args.before.reset c.args.before.up c.args.steps.now c.args.placed.now c.args.units.now.items c.loop-one.units.items c.loop-one.up c.loop-one.next c.loop-one.one-index c.loop-one.invariant own in
    subst (λ (us : List StepUnit). All (λ u. u.stepper ≡ c.args.before.oid) us) (sym c.in_err-push_back.ensures.items) has)

pub returns-clause-own : goal.returns-clause-own
returns-clause-own c = λ own. has_own c.args.lines.now c.args.before.oid c.args.before.reset c.args.before.up c.args.steps.now c.args.placed.now c.args.units.now.items c.loop-one.units.items c.loop-one.up c.loop-one.next c.loop-one.one-index c.loop-one.invariant own

pub returns-in_err-push_back-clause-row : goal.returns-in_err-push_back-clause-row
returns-in_err-push_back-clause-row c = λ row. (
    let has = has-row c.args.lines.now c.args.before.oid c.args.before.reset c.args.before.up c.requires.packed.0 c.args.before.last c.args.steps.now c.args.placed.now c.args.units.now.items c.loop-one.units.items c.loop-one.up c.loop-one.next c.loop-one.one-index c.loop-one.invariant c.requires.packed.1 c.requires.spaced c.requires.small row in
    subst (λ (us : List StepUnit). AreInRow c.args.lines.now 0 (last_step_tick c.args.before.last c.args.steps.now) us) (sym c.in_err-push_back.ensures.items) has)

pub returns-clause-row : goal.returns-clause-row
returns-clause-row c = λ row. has-row c.args.lines.now c.args.before.oid c.args.before.reset c.args.before.up c.requires.packed.0 c.args.before.last c.args.steps.now c.args.placed.now c.args.units.now.items c.loop-one.units.items c.loop-one.up c.loop-one.next c.loop-one.one-index c.loop-one.invariant c.requires.packed.1 c.requires.spaced c.requires.small row

pub returns-in_err-push_back-clause-early : goal.returns-in_err-push_back-clause-early
returns-in_err-push_back-clause-early c = λ t before early. (
    let has = has-early c.args.lines.now c.args.before.oid c.args.before.reset c.args.before.up c.requires.packed.0 c.args.before.last c.args.steps.now c.args.placed.now c.args.units.now.items c.loop-one.units.items c.loop-one.up c.loop-one.next c.loop-one.one-index t c.loop-one.invariant c.requires.packed.1 before early in
    subst (λ (us : List StepUnit). All (λ u. u.first < t) us) (sym c.in_err-push_back.ensures.items) has)

pub returns-clause-early : goal.returns-clause-early
returns-clause-early c = λ t before early. has-early c.args.lines.now c.args.before.oid c.args.before.reset c.args.before.up c.requires.packed.0 c.args.before.last c.args.steps.now c.args.placed.now c.args.units.now.items c.loop-one.units.items c.loop-one.up c.loop-one.next c.loop-one.one-index t c.loop-one.invariant c.requires.packed.1 before early
