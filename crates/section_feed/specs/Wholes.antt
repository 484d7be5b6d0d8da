-- A board that has released all units of a section.
use Rattle.std.specs.Prelude.{◌≡◌, ℕ, ◌*◌, ◌<◌, ◌≤◌, Bool, List, [], Option, Some, None, slice_index_or, length, map}
use Rattle.plan_types.specs.declared.plan.Planned.{Planned}
use Rattle.plan_types.specs.Clock.{turn_ns}
use Rattle.plan_types.specs.Lines.{Clocks, lines_tick, lines_turn}
use Rattle.plan_types.specs.Plan.{max_error, planned_steps}
use Rattle.plan_types.specs.Sections.{TimedPart, latest}
use Rattle.step_feed.specs.Units.{StepUnit}
use Rattle.step_feed.specs.Pacing.{ArePaced, Release, units_of}
use Rattle.section_units.specs.Packed.{ArePackedBy}
use Rattle.section_units.specs.Sections.{set_to, of_stepper}
use Rattle.section_units.specs.Units.{as_sent}
use Rattle.section_stream.specs.declared.stepper.StepperStream.{StepperStream}
use Rattle.section_stream.specs.Fronts.{plan_of}
use Rattle.section_stream.specs.Pieces.{Piece, steps_in}
use Rattle.section_stream.specs.Plans.{segments_for}
use Rattle.section_stream.specs.Steppers.{IsStepperOf, StepperKind, stepper_clocks, kind_of, packed_step}
use Rattle.section_feed.specs.Ordering.{AreInOrderFrom}

-- the planned steps of a stepper for these parts of moves, in the directions that are sent
abbrev pub sent_plan : StepperKind → Clocks → ℕ → List TimedPart → List Planned
sent_plan kind clocks base parts =
    as_sent kind.inverted (planned_steps kind.gear clocks (segments_for kind.drive parts) base)

-- a stepper whose clock is set to a tick, or in a section that homes is not set, on a board of this frequency
pub record IsSetTo (homing : Bool) (freq base : ℕ) (kind : StepperKind) : Type 0 where
  pub reset : kind.reset ≡ set_to homing base
  pub early : kind.early ≡ max_error freq

-- a stepper has given all units of the parts that it was given
abbrev pub IsDone : StepperStream → Type 0
IsDone s =
    (homing : Bool) (freq base : ℕ) (parts : List TimedPart) (out : List Planned) (pieces : List Piece)
    (given : List StepUnit) → (kind_of s).reset ≡ set_to homing base → (kind_of s).early ≡ max_error freq →
    IsStepperOf s base parts out pieces given →
    ArePackedBy homing (stepper_clocks s) freq (kind_of s).oid base
    (as_sent (kind_of s).inverted (plan_of s base parts))
    given

-- all of them have
pub record AreDone (steppers : List StepperStream) : Type 0 where
  pub each : (k : ℕ) (d : StepperStream) → k < length steppers → IsDone (slice_index_or steppers k d)

-- The units of these parts of a section, which homes or not, on a board are those of its steppers' plans, in
-- their order, and each is released in its turn.
pub record IsReleased (homing : Bool) (clocks : Clocks) (freq slots first base : ℕ) (kinds : ℕ → StepperKind)
    (count : ℕ) (parts : List TimedPart) (released : List Release) : Type 0 where
  pub packed : (oid : ℕ) → oid < count →
      ArePackedBy homing clocks freq oid base (sent_plan (kinds oid) clocks base parts)
      (of_stepper oid (units_of released))
  pub others : (oid : ℕ) → count ≤ oid → of_stepper oid (units_of released) ≡ []
  pub in_order : AreInOrderFrom 0 (units_of released)
  pub paced : ArePaced clocks slots first [] released

-- a tick is before the end of a turn
pub record IsBefore (clocks : Clocks) (turn t : ℕ) : Type 0 where
  pub before : (j : ℕ) → turn < j → t < lines_tick clocks (j * turn_ns)

-- all steps of the parts that a stepper was given are planned and packed
abbrev pub IsWhole : StepperStream → Type 0
IsWhole s =
    (base : ℕ) (parts : List TimedPart) (out : List Planned) (pieces : List Piece) (given : List StepUnit) →
    IsStepperOf s base parts out pieces given →
    (out ≡ plan_of s base parts) × (steps_in pieces ≡ as_sent (kind_of s).inverted out)

-- the turn of a tick, 0 for none
abbrev pub turn_where : Clocks → Option ℕ → ℕ
turn_where clocks None = 0
turn_where clocks (Some t) = lines_turn clocks t

-- a tick, where there is one, is before the end of a turn
abbrev pub IsOver : Clocks → ℕ → Option ℕ → Type 0
IsOver clocks turn None = Unit {0}
IsOver clocks turn (Some t) = IsBefore clocks turn t

-- the latest turn of the steps that some steppers packed last, 0 for none
abbrev pub last_among : Clocks → List StepperStream → ℕ
last_among clocks steppers = latest (map (λ s. turn_where clocks (packed_step s)) steppers)

-- and so they are of all steppers of a board, by the end of a turn
pub record ArePast (clocks : Clocks) (turn : ℕ) (steppers : List StepperStream) : Type 0 where
  pub last : turn ≡ last_among clocks steppers
  pub whole : (k : ℕ) (d : StepperStream) → k < length steppers → IsWhole (slice_index_or steppers k d)
  pub before : (k : ℕ) (d : StepperStream) → k < length steppers →
      IsOver clocks turn (packed_step (slice_index_or steppers k d))
