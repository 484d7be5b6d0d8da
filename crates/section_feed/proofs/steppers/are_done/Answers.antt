use Rattle.std.proofs.Common.{◌≡◌, ◌<◌, length, get_or, arith, inl, inr, subst, ◌∙◌}
use Rattle.std.proofs.lemmas.Bool.{cases_lt}
use Rattle.section_stream.specs.declared.stepper.StepperStream.{StepperStream}
use Rattle.section_feed.specs.Wholes.{IsDone}
use Rattle.section_feed.proofs.Changing.{any-default}
use Rattle.section_feed.proofs.steppers.are_done.Goals as goal

pub loop-one-preserved : goal.loop-one-preserved
loop-one-preserved c = λ k d h l. (
    let i = c.loop-one.one-index in
    let steppers = c.args.steppers.now in
    elim (cases_lt k i) as (λ _. IsDone (get_or steppers k d)) [
      | inl before ↦ c.loop-one.invariant k d before l
      | inr over ↦ (let q : k ≡ i = omega arith in let inside : i < length steppers = omega arith in rw q (subst IsDone (c.one-item.is ∙ any-default {A = StepperStream} (λ n x y. Unit {0}) steppers i c.one-item.result d inside) (c.is_done.ensures c.if-not-is_done.false)))
    ])

pub returns : goal.returns
returns c = λ t. record { each = λ k d l. c.loop-one.invariant k d (omega (arith, c.loop-one-test.false)) l }
