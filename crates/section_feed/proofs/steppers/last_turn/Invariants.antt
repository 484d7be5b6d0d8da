use Rattle.std.proofs.Common.{◌≡◌, ℕ, ◌<◌, length, map, slice_index_or, take}
use Rattle.plan_types.specs.Sections.{latest}
use Rattle.section_stream.specs.declared.stepper.StepperStream.{StepperStream}
use Rattle.section_stream.specs.Steppers.{packed_step}
use Rattle.section_feed.specs.Wholes.{IsOver, IsWhole, turn_where}
use Rattle.section_feed.proofs.steppers.last_turn.Given as goal

abbrev pub invariant-loop-one : goal.invariant-loop-one
invariant-loop-one l = record {
  last : l.last ≡ latest (map (λ s. turn_where l.lines (packed_step s)) (take l.one-index l.steppers));
  whole : (k : ℕ) (d : StepperStream) → k < l.one-index → k < length l.steppers → IsWhole (slice_index_or l.steppers k d);
  before : (k : ℕ) (d : StepperStream) → k < l.one-index → k < length l.steppers → IsOver l.lines l.last (packed_step (slice_index_or l.steppers k d));
}
