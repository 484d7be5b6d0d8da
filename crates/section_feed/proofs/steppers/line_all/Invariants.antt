use Rattle.std.proofs.Common.{◌*◌, ◌-◌, length}
use Rattle.plan_types.specs.Clock.{turn_ns}
use Rattle.clock_line.specs.Kept.{added}
use Rattle.section_feed.specs.Changes.{AreChangedTo, IsLined}
use Rattle.section_feed.proofs.steppers.line_all.Given as goal

abbrev pub invariant-loop-place : goal.invariant-loop-place
invariant-loop-place l = ∥ AreChangedTo (IsLined (added l.lines (l.turn * turn_ns) l.line) l.goes l.time l.packed l.turn) l.place l.initial.steppers.items l.steppers.items ∥₁

abbrev pub decreases-loop-place : goal.decreases-loop-place
decreases-loop-place l = length l.steppers.items - l.place
