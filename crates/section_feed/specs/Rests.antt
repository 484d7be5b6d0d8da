-- What the steppers of a board have not given yet.
use Rattle.std.specs.Prelude.{ℕ, ◌+◌, ◌<◌, List, length, slice_index_or}
use Rattle.section_stream.specs.declared.stepper.StepperStream.{StepperStream}
use Rattle.section_stream.specs.Steppers.{StartFrom, units_of}
use Rattle.section_feed.specs.declared.board.BoardStream.{BoardStream}
use Rattle.section_feed.specs.Released.{steppers_in}
use Rattle.section_feed.specs.Rested.{IsRested}

-- of the units that wait at the first so many of some steppers none is due by a turn
pub record AreAfterTo (due count : ℕ) (steppers : List StepperStream) : Type 0 where
  pub each : (k : ℕ) (d : StepperStream) → k < count → k < length steppers →
      StartFrom (due + 1) (units_of (slice_index_or steppers k d))

-- and at all of them
pub record AreAfter (due : ℕ) (steppers : List StepperStream) : Type 0 where
  pub each : (k : ℕ) (d : StepperStream) → k < length steppers →
      StartFrom (due + 1) (units_of (slice_index_or steppers k d))

-- what all steppers have not given is due in a turn or later
pub record AreRested (low : ℕ) (steppers : List StepperStream) : Type 0 where
  pub each : (k : ℕ) (d : StepperStream) → k < length steppers → IsRested low (slice_index_or steppers k d)

-- so of the steppers of all boards
pub record AreAllRested (low : ℕ) (boards : List BoardStream) : Type 0 where
  pub each : (b : ℕ) (d : BoardStream) → b < length boards →
      ∥ AreRested low (steppers_in (slice_index_or boards b d)) ∥₁
