use Rattle.std.proofs.Common.{ℕ, ◌<◌, length, slice_index_or}
use Rattle.section_stream.specs.declared.stepper.StepperStream.{StepperStream}
use Rattle.section_feed.specs.Wholes.{IsDone}
use Rattle.section_feed.proofs.steppers.are_done.Given as goal

abbrev pub invariant-loop-one : goal.invariant-loop-one
invariant-loop-one l = (k : ℕ) (d : StepperStream) → k < l.one-index → k < length l.steppers → IsDone (slice_index_or l.steppers k d)
