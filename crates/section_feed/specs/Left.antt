-- Boards with steps that are not packed yet.
use Rattle.std.specs.Prelude.{◌⊎◌, ℕ, ◌<◌, ◌≤◌, List, length, slice_index_or}
use Rattle.plan_types.specs.Clock.{tick_limit}
use Rattle.plan_types.specs.Lines.{Clocks}
use Rattle.section_stream.specs.declared.stepper.StepperStream.{StepperStream}
use Rattle.section_stream.specs.Fronts.{HasStepsLeft}
use Rattle.section_stream.specs.Steppers.{packed_to}
use Rattle.section_feed.specs.declared.board.BoardStream.{BoardStream}
use Rattle.section_feed.specs.Feeding.{lines_of_board}
use Rattle.section_feed.specs.Released.{steppers_in}

-- a tick that no run has
abbrev pub IsOutside : Clocks → ℕ → Type 0
IsOutside clocks t = (t < clocks.first.clock) ⊎ (tick_limit ≤ t)

-- one of some steppers has a step that is not packed yet, or packed its last one at a tick that no run has
pub record AreLeft (clocks : Clocks) (steppers : List StepperStream) : Type 0 where
  pub place : ℕ
  pub inside : place < length steppers
  pub left : (d : StepperStream) →
      HasStepsLeft (slice_index_or steppers place d) ⊎ IsOutside clocks (packed_to (slice_index_or steppers place d))

-- one of some boards has such a stepper
pub record AreLeftOn (boards : List BoardStream) : Type 0 where
  pub board : ℕ
  pub inside : board < length boards
  pub left : (d : BoardStream) →
      AreLeft (lines_of_board (slice_index_or boards board d)) (steppers_in (slice_index_or boards board d))
