-- A stepper of which what is left is later.
use Rattle.std.specs.Prelude.{ℕ, ◌≤◌}
use Rattle.section_stream.specs.declared.stepper.StepperStream.{StepperStream}
use Rattle.section_stream.specs.Steppers.{IsCaughtUp, StartFrom, units_of}

-- what a stepper has not given is due in a turn or later
pub record IsRested (low : ℕ) (s : StepperStream) : Type 0 where
  pub turn : ℕ
  pub late : low ≤ turn
  pub caught : IsCaughtUp turn s
  pub start : StartFrom low (units_of s)
