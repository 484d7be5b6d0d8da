use Rattle.std.proofs.Common.{◌-◌, length}
use Rattle.section_feed.proofs.Merging.{IsBest}
use Rattle.section_feed.proofs.steppers.earliest.Given as goal

abbrev pub invariant-loop-place : goal.invariant-loop-place
invariant-loop-place l = IsBest l.due l.place l.steppers l.best l.least

abbrev pub decreases-loop-place : goal.decreases-loop-place
decreases-loop-place l = length l.steppers - l.place
