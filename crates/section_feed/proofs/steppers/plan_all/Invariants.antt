use Rattle.std.proofs.Common.{[], ◌-◌, length}
use Rattle.section_feed.specs.Changes.{AreChangedTo, StepperGoesOn}
use Rattle.section_feed.proofs.steppers.plan_all.Given as goal

abbrev pub invariant-loop-place : goal.invariant-loop-place
invariant-loop-place l = ∥ AreChangedTo (StepperGoesOn l.lines l.goes l.time l.turn [] []) l.place l.initial.steppers.items l.steppers.items ∥₁

abbrev pub decreases-loop-place : goal.decreases-loop-place
decreases-loop-place l = length l.steppers.items - l.place
