use Rattle.std.proofs.Common.{◌≡◌, ◌⊎◌, ℕ, Option, Some, None, IfNone, ◌<◌, ◌≤◌, List, length, max, get_or, arith, ap, inl, inr, subst, ◌∙◌}
use Rattle.std.proofs.lemmas.List.{take_all}
use Rattle.std.proofs.lemmas.Bool.{cases_lt}
use Rattle.section_stream.specs.declared.stepper.StepperStream.{StepperStream}
use Rattle.section_stream.specs.Steppers.{packed_step, packed_to}
use Rattle.section_feed.specs.Left.{AreLeft, IsOutside}
use Rattle.section_stream.specs.Fronts.{HasStepsLeft}
use Rattle.section_feed.specs.Wholes.{IsOver, IsWhole, last_among, turn_where}
use Rattle.section_feed.proofs.Changing.{any-default}
use Rattle.section_feed.proofs.Ending.{over-later}
use Rattle.section_feed.proofs.Lasting.{latest-next}
use Rattle.section_feed.proofs.steppers.last_turn.Goals.{then-turn-last, else-turn-last}
use Rattle.section_feed.proofs.steppers.last_turn.Goals as goal

pub loop-one-preserved : goal.loop-one-preserved
loop-one-preserved c =
    let i = c.loop-one.one-index in
    let steppers = c.args.steppers.now in
    let last = c.if-turn-last.last in
    let one : c.loop-one.last ≤ last = elim c.if-turn-last.branch [ then-turn-last w ↦ omega arith | else-turn-last w ↦ omega arith ] in
    let two : c.in_ok-turn.turn ≤ last = elim c.if-turn-last.branch [ then-turn-last w ↦ omega arith | else-turn-last w ↦ omega arith ] in
    let here = c.in_ok-turn.ensures in
    let most : last ≡ max c.loop-one.last c.in_ok-turn.turn = elim c.if-turn-last.branch [ then-turn-last w ↦ omega arith | else-turn-last w ↦ omega arith ] in
    record {
      last = latest-next (λ s. turn_where c.args.lines.now (packed_step s)) steppers i c.one-item.result c.loop-one.last last (omega arith) c.one-item.is c.loop-one.invariant.last (most ∙ ap (max c.loop-one.last) here.value);
      whole = λ k d h l. elim (cases_lt k i) as (λ _. IsWhole (get_or steppers k d)) [
        | inl before ↦ c.loop-one.invariant.whole k d before l
        | inr over ↦ (let q : k ≡ i = omega arith in let inside : i < length steppers = omega arith in rw q (subst IsWhole (c.one-item.is ∙ any-default {A = StepperStream} (λ n x y. Unit {0}) steppers i c.one-item.result d inside) here.whole))
      ];
      before = λ k d h l. elim (cases_lt k i) as (λ _. IsOver c.args.lines.now last (packed_step (get_or steppers k d))) [
        | inl before ↦ over-later c.args.lines.now c.loop-one.last last (packed_step (get_or steppers k d)) one (c.loop-one.invariant.before k d before l)
        | inr over ↦ (let q : k ≡ i = omega arith in let inside : i < length steppers = omega arith in rw q (subst (λ (s : StepperStream). IsOver c.args.lines.now last (packed_step s)) (c.one-item.is ∙ any-default {A = StepperStream} (λ n x y. Unit {0}) steppers i c.one-item.result d inside) (over-later c.args.lines.now c.in_ok-turn.turn last (packed_step c.one-item.result) two here.before)))
      ];
    }

pub returns-clause-past : goal.returns-clause-past
returns-clause-past c = record {
  last = c.loop-one.invariant.last ∙ ap (λ (ss : List StepperStream). last_among c.args.lines.now ss) (take_all c.loop-one.one-index c.args.steppers.now (omega (arith, c.loop-one-test.false)));
  whole = λ k d l. c.loop-one.invariant.whole k d (omega (arith, c.loop-one-test.false)) l;
  before = λ k d l. c.loop-one.invariant.before k d (omega (arith, c.loop-one-test.false)) l;
}

if-none : (P : Type 0) (r : Option ℕ) → P → IfNone r P
if-none P None h = h
if-none P (Some t) h = tt

pub returns-in_err-turn-clause-left : goal.returns-in_err-turn-clause-left
returns-in_err-turn-clause-left c =
    let i = c.loop-one.one-index in
    let steppers = c.args.steppers.now in
    let inside : i < length steppers = omega (arith, c.loop-one-test.true) in
    if-none (AreLeft c.args.lines.now steppers) c.from_residual.result (record {
      place = i;
      inside = inside;
      left = λ d. subst (λ (s : StepperStream). HasStepsLeft s ⊎ IsOutside c.args.lines.now (packed_to s)) (c.one-item.is ∙ any-default {A = StepperStream} (λ n x y. Unit {0}) steppers i c.one-item.result d inside) c.in_err-turn.ensures.left;
    })
