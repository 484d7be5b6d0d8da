use Rattle.std.proofs.Common.{◌≡◌, ◌<◌, [], ◌∷◌, length, arith, refl}
use Rattle.std.proofs.Math.Logic.{∥∥₁_map, ∥∥₁_elim}
use Rattle.std.proofs.Props.{props}
use Rattle.std.proofs.lemmas.List.Elements.{All-append, All-cons, All-nil}
use Rattle.step_feed.specs.Units.{StepUnit}
use Rattle.section_feed.specs.Dues.{IsTaken}
use Rattle.section_feed.specs.Ordering.{last_order}
use Rattle.section_feed.proofs.Boarding.{go-on-none, up-after}
use Rattle.section_feed.proofs.Merging.{gone-due, order-more}
use Rattle.section_feed.proofs.Popping.{on-joined, on-still}
use Rattle.section_feed.proofs.steppers.take_units.Goals as goal

pub loop-init : goal.loop-init
loop-init c = record {
  on = ∥∥₁_map c.requires.steppers (λ up. rw c.new-units.ensures.items (go-on-none c.args.lines.now c.args.goes c.args.time c.args.turn c.args.steppers.now.items up));
  own = rw c.new-units.ensures.items (All-nil (λ (u : StepUnit). u.stepper < length c.args.steppers.now.items));
  in_order = λ order behind. rw c.new-units.ensures.items (tt, behind);
  taken = λ low dues. rw c.new-units.ensures.items (All-nil (IsTaken c.args.lines.now low c.args.due));
}

pub take_first-requires-clause-steppers : goal.take_first-requires-clause-steppers
take_first-requires-clause-steppers c = ∥∥₁_map c.loop.invariant.on (up-after c.args.lines.now c.args.goes c.args.time c.args.turn [] c.loop.units.items c.args.steppers.now.items c.loop.steppers.items)

pub loop-preserved : goal.loop-preserved
loop-preserved c =
    let len : length c.loop.steppers.items ≡ length c.args.steppers.now.items = ∥∥₁_elim c.loop.invariant.on (hlevel props) (λ p. p.same) in
    let here : c.in-Some.unit.stepper < length c.args.steppers.now.items = (let o = c.in-Some.ensures.own in omega arith) in
    record {
      on = rw c.in_ok-push.ensures.items (on-joined c.args.lines.now c.args.goes c.args.time c.args.turn c.loop.units.items (c.in-Some.unit ∷ []) c.args.steppers.now.items c.loop.steppers.items c.take_first.new.steppers.items c.loop.invariant.on c.in-Some.ensures.some);
      own = rw c.in_ok-push.ensures.items (All-append (λ (u : StepUnit). u.stepper < length c.args.steppers.now.items) c.loop.units.items (c.in-Some.unit ∷ []) c.loop.invariant.own (All-cons (λ (u : StepUnit). u.stepper < length c.args.steppers.now.items) c.in-Some.unit [] here (All-nil (λ (u : StepUnit). u.stepper < length c.args.steppers.now.items))));
      in_order = λ order behind. (
          let was = c.loop.invariant.in_order order behind in
          let next = c.in-Some.ensures.order (last_order order c.loop.units.items) was.1 in
          rw c.in_ok-push.ensures.items (order-more order c.loop.units.items c.in-Some.unit c.take_first.new.steppers.items was.0 next.0 next.1));
      taken = λ low dues. (
          let due = gone-due c.args.lines.now c.args.goes c.args.time c.args.turn low [] c.loop.units.items c.args.steppers.now.items c.args.steppers.now.items c.loop.steppers.items refl c.loop.invariant.on dues in
          rw c.in_ok-push.ensures.items (All-append (IsTaken c.args.lines.now low c.args.due) c.loop.units.items (c.in-Some.unit ∷ []) (c.loop.invariant.taken low dues) (All-cons (IsTaken c.args.lines.now low c.args.due) c.in-Some.unit [] (c.in-Some.ensures.taken low due) (All-nil (IsTaken c.args.lines.now low c.args.due)))));
    }

pub returns-in_default-clause-on : goal.returns-in_default-clause-on
returns-in_default-clause-on c = on-still c.args.lines.now c.args.goes c.args.time c.args.turn c.loop.units.items c.args.steppers.now.items c.loop.steppers.items c.take_first.new.steppers.items c.loop.invariant.on (rw c.in_default.is at c.take_first.ensures.none)

pub returns-in_default-clause-after : goal.returns-in_default-clause-after
returns-in_default-clause-after c = rw c.in_default.is at c.take_first.ensures.after

pub returns-in_default-clause-in_order : goal.returns-in_default-clause-in_order
returns-in_default-clause-in_order c = λ order behind. (c.loop.invariant.in_order order behind).0
