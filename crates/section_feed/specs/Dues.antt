-- Which units of a board's steppers come first, and in which turns they are due.
use Rattle.std.specs.Prelude.{◌≡◌, ℕ, ◌*◌, ◌<◌, ◌≤◌, List, [], ◌∷◌, length, slice_index_or}
use Rattle.plan_types.specs.Clock.{tick_limit, turn_ns}
use Rattle.plan_types.specs.Lines.{Clocks, lines_tick, lines_turn}
use Rattle.step_feed.specs.Units.{StepUnit}
use Rattle.section_stream.specs.declared.stepper.StepperStream.{StepperStream}
use Rattle.section_stream.specs.Steppers.{IsDueFrom, units_of}
use Rattle.section_feed.specs.Ordering.{order_of}

-- all units of all steppers are due in a turn or later, those that wait and those that are made later
pub record AreDueFrom (low : ℕ) (steppers : List StepperStream) : Type 0 where
  pub each : (k : ℕ) (d : StepperStream) → k < length steppers → IsDueFrom low (slice_index_or steppers k d)

-- the place in the order of units from which on those stand that begin in a turn
abbrev pub order_at : Clocks → ℕ → ℕ
order_at clocks turn = lines_tick clocks (turn * turn_ns) * 256

-- the first of some units, if there is one, stands behind a place in the order
abbrev pub StartsBehind : ℕ → List StepUnit → Type 0
StartsBehind order [] = Unit {0}
StartsBehind order (u ∷ us) = order < order_of u

-- so do the units of all steppers
pub record AllStartBehind (order : ℕ) (steppers : List StepperStream) : Type 0 where
  pub each : (k : ℕ) (d : StepperStream) → k < length steppers →
      StartsBehind order (units_of (slice_index_or steppers k d))

-- The first of the units of the stepper at place k, if it is due by a turn, comes behind a unit of another
-- one: it begins later, or with it, and then its stepper stands behind the other.
abbrev pub ComesLater : ℕ → ℕ → ℕ → ℕ → List StepUnit → Type 0
ComesLater due first place k [] = Unit {0}
ComesLater due first place k (v ∷ vs) = v.due ≤ due → (first ≤ v.first) × (k < place → first < v.first)

-- among the first so many steppers, the one at a place has the unit that comes first, and it is due by a turn
pub record HasFirst (due count : ℕ) (steppers : List StepperStream) (place : ℕ) : Type 0 where
  pub among : place < count
  pub inside : place < length steppers
  pub unit : StepUnit
  pub rest : List StepUnit
  pub waits : (d : StepperStream) → units_of (slice_index_or steppers place d) ≡ unit ∷ rest
  pub soon : unit.due ≤ due
  pub others : (k : ℕ) (d : StepperStream) → k < count → k < length steppers →
      ComesLater due unit.first place k (units_of (slice_index_or steppers k d))

-- a unit that was taken out: it is due from one turn on up to another, and its ticks and its number are small
pub record IsTaken (clocks : Clocks) (low due : ℕ) (u : StepUnit) : Type 0 where
  pub late : low ≤ u.due
  pub soon : u.due ≤ due
  pub begins : u.due ≡ lines_turn clocks u.first
  pub ends : u.first ≤ u.last
  pub small : u.last < tick_limit
  pub byte : u.stepper < 256
