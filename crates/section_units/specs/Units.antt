-- The units of a stepper's packed triples in a section.
use Rattle.std.specs.Prelude.{ℕ, Bool, true, false, Option, Some, None, List, [], ◌∷◌, drop, map, not}
use Rattle.plan_types.specs.declared.plan.Planned.{Planned}
use Rattle.plan_types.specs.Lines.{Clocks, lines_turn}
use Rattle.step_pack.specs.declared.Placed.{Placed}
use Rattle.step_feed.specs.Units.{StepUnit}

-- the direction of a step as it is sent to a stepper whose direction wire may be inverted
abbrev pub sent : Bool → Bool → Bool
sent true up = not up
sent false up = up

-- steps in the directions that are sent
abbrev pub as_sent : Bool → List Planned → List Planned
as_sent inverted steps = map (λ s. record { tick = s.tick; up = sent inverted s.up }) steps

-- the unit of a triple
abbrev pub unit_of : Clocks → ℕ → Placed → Option Bool → Option ℕ → StepUnit
unit_of clocks oid p up reset = record {
  stepper = oid;
  first = p.first;
  last = p.last;
  due = lines_turn clocks p.first;
  triple = p.triple;
  up = up;
  reset = reset;
}

-- a direction is told in the first unit, and where it changes
abbrev pub told_direction : Option Bool → Bool → Option Bool
told_direction None now = Some now
told_direction (Some true) true = None
told_direction (Some true) false = Some false
told_direction (Some false) true = Some true
told_direction (Some false) false = None

-- the clock is set in the first unit
abbrev pub set_in : Option Bool → Option ℕ → Option ℕ
set_in None reset = reset
set_in (Some up) reset = None

-- the direction of the first of some steps
abbrev pub first_up : List Planned → Bool
first_up [] = false
first_up (s ∷ steps) = s.up

-- The units of triples that cover these steps, behind a direction where one was told; without one the first
-- of them sets the clock, where it is to be set.
abbrev pub units_on : Clocks → ℕ → Option ℕ → Option Bool → List Planned → List Placed → List StepUnit
units_on clocks oid reset up steps [] = []
units_on clocks oid reset up steps (p ∷ placed) =
    unit_of clocks oid p (told_direction up (first_up steps)) (set_in up reset)
    ∷ units_on clocks oid reset (Some (first_up steps)) (drop p.triple.count steps) placed

-- the direction behind them
abbrev pub up_after : Option Bool → List Planned → List Placed → Option Bool
up_after up steps [] = up
up_after up steps (p ∷ placed) = up_after (Some (first_up steps)) (drop p.triple.count steps) placed
