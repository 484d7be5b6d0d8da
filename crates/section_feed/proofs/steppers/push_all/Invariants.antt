use Rattle.std.proofs.Common.{true, ◌+◌, [], ◌-◌, length}
use Rattle.section_feed.specs.Changes.{AreChangedTo, StepperGoesOn}
use Rattle.plan_types.specs.Sections.{duration, timed}
use Rattle.section_feed.proofs.steppers.push_all.Given as goal

abbrev pub invariant-loop-place : goal.invariant-loop-place
invariant-loop-place l = ∥ AreChangedTo (StepperGoesOn l.lines true (l.begin + duration l.ready.parts) l.turn (timed l.ready.one 0 l.begin l.ready.parts) []) l.place l.initial.steppers.items l.steppers.items ∥₁

abbrev pub decreases-loop-place : goal.decreases-loop-place
decreases-loop-place l = length l.steppers.items - l.place
