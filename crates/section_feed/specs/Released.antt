-- Boards that have released all units of a section, and until when its steps are.
use Rattle.std.specs.Prelude.{ℕ, ◌*◌, ◌<◌, Bool, List, All, slice_index_or}
use Rattle.plan_types.specs.Clock.{turn_ns}
use Rattle.plan_types.specs.Lines.{lines_tick}
use Rattle.plan_types.specs.Sections.{TimedPart}
use Rattle.step_feed.specs.Pacing.{Release}
use Rattle.section_stream.specs.declared.stepper.StepperStream.{StepperStream}
use Rattle.section_stream.specs.Pieces.{IsLastOf}
use Rattle.section_stream.specs.Steppers.{StepperKind, packed_step}
use Rattle.section_feed.specs.declared.board.BoardStream.{BoardStream}
use Rattle.section_feed.specs.Feeding.{IsBoardOf, count_of, first_of, lines_of_board, slots_in}
use Rattle.section_feed.specs.Wholes.{IsReleased, IsSetTo, last_among, sent_plan}

-- a board has released all units of the parts that it was given
abbrev pub HasReleased : BoardStream → Type 0
HasReleased b =
    (homing : Bool) (freq : ℕ) (kinds : ℕ → StepperKind) (base : ℕ) (parts : List TimedPart) (released : List Release) →
    ((k : ℕ) → k < count_of b → IsSetTo homing freq base (kinds k)) → IsBoardOf b kinds base parts released →
    ∥ IsReleased homing (lines_of_board b) freq (slots_in b) (first_of b) base kinds (count_of b) parts released ∥₁

-- the steppers of a board
abbrev pub steppers_in : BoardStream → List StepperStream
steppers_in b = b.steppers.items

-- the latest turn of the steps that a board's steppers packed last, 0 for none
abbrev pub last_in : BoardStream → ℕ
last_in b = last_among b.lines b.steppers.items

-- all steps of these parts are planned before the end of a turn, and packed: the step that a stepper packed
-- last is its last one
pub record IsPast (turn : ℕ) (b : BoardStream) : Type 0 where
  pub within : (kinds : ℕ → StepperKind) (base : ℕ) (parts : List TimedPart) (released : List Release) →
      IsBoardOf b kinds base parts released → (oid : ℕ) → oid < count_of b → (j : ℕ) → turn < j →
      All (λ q. q.tick < lines_tick (lines_of_board b) (j * turn_ns))
      (sent_plan (kinds oid) (lines_of_board b) base parts)
  pub packed : (kinds : ℕ → StepperKind) (base : ℕ) (parts : List TimedPart) (released : List Release) →
      IsBoardOf b kinds base parts released → (oid : ℕ) (d : StepperStream) → oid < count_of b →
      IsLastOf (packed_step (slice_index_or (steppers_in b) oid d)) base
      (sent_plan (kinds oid) (lines_of_board b) base parts)
