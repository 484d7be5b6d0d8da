-- The steppers of a board in a section.
use Rattle.std.specs.Prelude.{◌≡◌, Bool, true, false, ℕ, ◌≤◌, ◌<◌, ◌^◌, ◌*◌, List, [], length, slice_index_or}
use Rattle.plan_types.specs.declared.plan.Planned.{Planned}
use Rattle.plan_types.specs.declared.plan.Line.{Line}
use Rattle.plan_types.specs.Clock.{tick, tick_limit, turn_ns}
use Rattle.plan_types.specs.Lines.{Clocks, IsFit, last_from, lines_board}
use Rattle.clock_line.specs.Kept.{AreKept}
use Rattle.plan_types.specs.Sections.{TimedPart}
use Rattle.plan_types.specs.Valid.{IsValidLine}
use Rattle.step_feed.specs.Units.{StepUnit}
use Rattle.section_stream.specs.declared.stepper.StepperStream.{StepperStream}
use Rattle.section_stream.specs.Apart.{AreTurnsApart, IsNearby}
use Rattle.section_stream.specs.Pieces.{AreInTurns, Piece, pieces_turn}
use Rattle.section_stream.specs.Steppers.{IsCaughtUp, IsStepperOf, StepperKind, stepper_clocks, kind_of, known_of, planned_turn}
use Rattle.section_units.specs.Sections.{of_stepper}

-- no section ends as late as this, in nanoseconds: in 500 years
abbrev pub most_ns : ℕ
most_ns = 2 ^ 44 * turn_ns

-- a stepper that was given the parts of the moves up to a time, where more may come, and whose steps are packed up to a
-- turn, all that come before it; its object id is its place
pub record IsUpTo (clocks : Clocks) (goes : Bool) (time turn place : ℕ) (s : StepperStream) : Type 0 where
  pub clocks_are : stepper_clocks s ≡ clocks
  pub known : goes ≡ true → known_of s ≤ tick clocks.first time
  pub reaches : goes ≡ true → tick clocks.first time ≤ known_of s
  pub over : goes ≡ false → known_of s ≡ tick clocks.first most_ns
  pub caught_up : IsCaughtUp turn s
  pub packed : planned_turn s ≡ turn
  pub number : (kind_of s).oid ≡ place

-- all steppers of a board are
pub record AreUpTo (clocks : Clocks) (goes : Bool) (time turn : ℕ) (steppers : List StepperStream) : Type 0 where
  pub each : (k : ℕ) (d : StepperStream) → k < length steppers →
      IsUpTo clocks goes time turn k (slice_index_or steppers k d)

-- A board whose lines hold one after the other, all from times of the next 500 years on: its turns are apart
-- from the sixth ones behind them by as much as a step may be early, and no tick of these years is too great.
pub record IsLasting (clocks : Clocks) : Type 0 where
  pub valid : IsValidLine clocks.first
  pub kept : ∥ AreKept clocks ∥₁
  pub apart : AreTurnsApart clocks
  pub clock_small : clocks.first.clock < 2 ^ 62
  pub soon : last_from 0 clocks.held < most_ns
  pub small : lines_board clocks (tick clocks.first most_ns) < tick_limit

-- A line that a board may take up from the beginning of a turn on: it holds later than those before it, is
-- not too far behind them, and no tick of the next 500 years is too great by it.
pub record MayTake (clocks : Clocks) (turn : ℕ) (line : Line) : Type 0 where
  pub fit : IsFit clocks.first line (turn * turn_ns)
  pub after : last_from 0 clocks.held < turn * turn_ns
  pub near : IsNearby clocks turn line
  pub turn_small : turn < 2 ^ 44
  pub clock_small : line.clock < 2 ^ 63

-- a section may start on a board in a turn
pub record MayStart (clocks : Clocks) (turn : ℕ) : Type 0 where
  pub lasting : IsLasting clocks
  pub begun : clocks.first.at ≤ turn * turn_ns
  pub turn_small : turn < 2 ^ 43

-- Of these parts of the section's moves a stepper's steps were planned, as far as they are known and asked
-- for; the first of them were packed, in pieces of some turns each, and these units given.
pub record HasGiven (s : StepperStream) (base : ℕ) (parts : List TimedPart) (given : List StepUnit) : Type 0 where
  pub out : List Planned
  pub pieces : List Piece
  pub stepper : IsStepperOf s base parts out pieces given
  pub in_turns : AreInTurns (stepper_clocks s) 0 pieces
  pub past : pieces_turn 0 pieces ≤ planned_turn s

-- the units of a board are those that its steppers have given
pub record HaveGiven (steppers : List StepperStream) (base : ℕ) (parts : List TimedPart) (units : List StepUnit)
    : Type 0 where
  pub each : (k : ℕ) (d : StepperStream) → k < length steppers →
      HasGiven (slice_index_or steppers k d) base parts (of_stepper k units)
  pub others : (k : ℕ) → length steppers ≤ k → of_stepper k units ≡ []

-- which stepper stands at each place
pub record HaveKinds (steppers : List StepperStream) (kinds : ℕ → StepperKind) : Type 0 where
  pub each : (k : ℕ) (d : StepperStream) → k < length steppers → kind_of (slice_index_or steppers k d) ≡ kinds k
