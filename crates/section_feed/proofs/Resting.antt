-- What the steppers of a board have not given yet.
use Rattle.std.proofs.Common.{◌≡◌, ℕ, Bool, ◌+◌, ◌<◌, ◌≤◌, List, [], ◌∷◌, Option, Some, None, IfNone, length, get_or, set, arith, sym, ◌∙◌, ap, subst, inl, inr}
use Rattle.std.proofs.lemmas.Bool.{cases_lt}
use Rattle.std.proofs.Math.Logic.{∥∥₁_map}
use Rattle.plan_types.specs.Lines.{Clocks}
use Rattle.step_feed.specs.Units.{StepUnit}
use Rattle.section_stream.specs.declared.stepper.StepperStream.{StepperStream}
use Rattle.section_stream.specs.Steppers.{StartFrom, units_of}
use Rattle.section_feed.specs.Boards.{AreUpTo}
use Rattle.section_feed.specs.Dues.{HasFirst}
use Rattle.section_feed.specs.Rests.{AreAfter, AreAfterTo, AreRested}
use Rattle.section_feed.proofs.Changing.{any-default}

-- an element of a list, whatever stands for none
pub same-at : (steppers : List StepperStream) (place : ℕ) (old d : StepperStream) → place < length steppers → old ≡ get_or steppers place old → old ≡ get_or steppers place d
same-at steppers place old d inside is = is ∙ any-default {A = StepperStream} (λ n x y. Unit {0}) steppers place old d inside

pub popped-after : (due count place : ℕ) (r : Option StepUnit) (steppers : List StepperStream) (old new : StepperStream) → HasFirst due count steppers place → old ≡ get_or steppers place old → IfNone r (units_of old ≡ []) → IfNone r (AreAfter due (set steppers place new))
popped-after due count place (Some u) steppers old new first is none = tt
popped-after due count place None steppers old new first is none = absurd (no-cons (sym (first.waits old) ∙ sym (ap units_of is) ∙ none))
  where
    no-cons : {u : StepUnit} {us : List StepUnit} → u ∷ us ≡ [] → ⊥
    no-cons e = cc

-- the first so many
pub after-none : (due : ℕ) (steppers : List StepperStream) → AreAfterTo due 0 steppers
after-none due steppers = record { each = λ k d h l. absurd (omega arith) }

pub after-more : (due place : ℕ) (steppers : List StepperStream) (one : StepperStream) → AreAfterTo due place steppers → place < length steppers → one ≡ get_or steppers place one → StartFrom (due + 1) (units_of one) → AreAfterTo due (place + 1) steppers
after-more due place steppers one before inside is here = record {
  each = λ k d h l. elim (cases_lt k place) as (λ _. StartFrom (due + 1) (units_of (get_or steppers k d))) [
    | inl less ↦ before.each k d less l
    | inr over ↦ (let q : k ≡ place = omega arith in rw q (subst (λ (s : StepperStream). StartFrom (due + 1) (units_of s)) (same-at steppers place one d inside is) here))
  ];
}

pub after-all : (due count : ℕ) (steppers : List StepperStream) → AreAfterTo due count steppers → length steppers ≤ count → AreAfter due steppers
after-all due count steppers before over = record { each = λ k d l. before.each k d (omega arith) l }

-- what is left to steppers that have caught up with a turn, and of whose units none waits that is due before
pub rested-all : (clocks : Clocks) (goes : Bool) (time turn due low : ℕ) (steppers : List StepperStream) → ∥ AreUpTo clocks goes time turn steppers ∥₁ → AreAfter due steppers → low ≤ turn → low ≡ due + 1 → ∥ AreRested low steppers ∥₁
rested-all clocks goes time turn due low steppers up after late is = ∥∥₁_map up (λ u. record {
  each = λ k d h. record { turn = turn; late = late; caught = (u.each k d h).caught_up; start = subst (λ n. StartFrom n (units_of (get_or steppers k d))) (sym is) (after.each k d h) };
})
