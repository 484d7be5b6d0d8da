-- Steppers of a section, as their callers see them.
use Rattle.std.specs.Prelude.{◌≡◌, ◌⊎◌, ◌≤◌, ◌+◌, ◌*◌, ◌++◌, ◌∷◌, [], ℕ, Bool, Option, List}
use Rattle.plan_types.specs.declared.machine.StepperDef.{StepperDef}
use Rattle.plan_types.specs.Plan.{cancel_reach, max_error}
use Rattle.plan_types.specs.declared.plan.Line.{Line}
use Rattle.plan_types.specs.declared.plan.Planned.{Planned}
use Rattle.plan_types.specs.Clock.{tick, turn_ns}
use Rattle.plan_types.specs.Lines.{Clocks, lines_tick}
use Rattle.plan_types.specs.Sections.{TimedPart}
use Rattle.msg_code.specs.declared.unit.Unit.{Unit as StepUnit}
use Rattle.section_stream.specs.declared.stepper.StepperStream.{StepperStream}
use Rattle.plan_types.specs.declared.plan.Gear.{Gear}
use Rattle.section_plan.specs.declared.drive.Drive.{Drive}
use Rattle.step_ticks.specs.Streaming.{due_steps, end_of_segments, known_end}
use Rattle.section_stream.specs.Pieces.{Piece}
use Rattle.section_stream.specs.Packs.{error_of, held_of, is_inverted, last_packed, oid_of, reset_of, step_packed, waiting_of}
use Rattle.section_stream.specs.Packing.{IsPieceTo}
use Rattle.section_stream.specs.Plans.{gear_of, stream_lines, segments_for}
use Rattle.section_stream.specs.Stepping.{AreCaughtUp, AreStepping, IsPackedBehind}

-- a stepper that was given these parts, from whose plan these steps were taken, packed in these pieces, and
-- these units given
abbrev pub IsStepperOf : StepperStream → ℕ → List TimedPart → List Planned → List Piece → List StepUnit → Type 0
IsStepperOf s base parts out pieces given = AreStepping s.steps s.drive s.pack s.turn base parts out pieces given

-- the clock lines of its board
abbrev pub stepper_clocks : StepperStream → Clocks
stepper_clocks s = stream_lines s.steps

-- the turn before which its steps are packed
abbrev pub planned_turn : StepperStream → ℕ
planned_turn s = s.turn

-- the plan tick at which the last of its parts ends
abbrev pub parts_end : StepperStream → ℕ
parts_end s = end_of_segments s.steps

-- from which plan tick on more steps may come
abbrev pub known_of : StepperStream → ℕ
known_of s = known_end s.steps

-- What stays the same: its gear, its drive and the first line of its board, its object id, whether its
-- direction is inverted, how many ticks its steps may be early, and the tick to which its clock is set.
pub record StepperKind : Type 0 where
  pub gear : Gear
  pub drive : Drive
  pub oid : ℕ
  pub inverted : Bool
  pub early : ℕ
  pub reset : Option ℕ

-- what stays the same of a stepper's stream
abbrev pub kind_of : StepperStream → StepperKind
kind_of s = record {
  gear = gear_of s.steps;
  drive = s.drive;
  oid = oid_of s.pack;
  inverted = is_inverted s.pack;
  early = error_of s.pack;
  reset = reset_of s.pack;
}

-- that of a stepper of a machine, on a board with this first line
abbrev pub kind_from : Bool → StepperDef → Line → Option ℕ → StepperKind
kind_from corexy def line reset = record {
  gear = def.gear;
  drive = record { corexy = corexy; number = def.drive; line = line };
  oid = def.oid;
  inverted = def.inverted;
  early = max_error line.freq;
  reset = reset;
}

-- the tick of its last step that was packed, or the section's first
abbrev pub packed_to : StepperStream → ℕ
packed_to s = last_packed s.pack

-- the tick of its last step that was packed, if one was
abbrev pub packed_step : StepperStream → Option ℕ
packed_step s = step_packed s.pack

-- the units that wait
abbrev pub units_of : StepperStream → List StepUnit
units_of s = waiting_of s.pack

-- no step that is left to plan or to pack is before a turn
abbrev pub IsCaughtUp : ℕ → StepperStream → Type 0
IsCaughtUp turn s = AreCaughtUp (stepper_clocks s) turn s.steps (held_of s.pack)

-- the first of some units, if there is one, is due in a turn or later
abbrev pub StartFrom : ℕ → List StepUnit → Type 0
StartFrom low [] = Unit {0}
StartFrom low (u ∷ us) = low ≤ u.due

-- All its units are due in a turn or later, those that wait, and those that it makes later: its steps are
-- packed up to a turn that begins behind that one by as many ticks as a step may be early, or the last one
-- that is packed is not before the turn.
pub record IsDueFrom (low : ℕ) (s : StepperStream) : Type 0 where
  pub waits : StartFrom low (units_of s)
  pub later : IsPackedBehind (stepper_clocks s) low (planned_turn s) s.steps (held_of s.pack)
      ⊎ (lines_tick (stepper_clocks s) (low * turn_ns) ≤ packed_to s)

-- it knows all steps up to a turn: those that may still come are so long behind it that they change none of these
abbrev pub KnowsTo : ℕ → StepperStream → Type 0
KnowsTo turn s =
    tick (stepper_clocks s).first (turn * turn_ns) + cancel_reach (stepper_clocks s).first.freq ≤ known_of s

-- Its steps up to a turn are planned, as far as they were known from which tick on more may come, and packed:
-- one more piece.
pub record IsPlannedTo (s : StepperStream) (turn end base : ℕ) (parts : List TimedPart) (out : List Planned)
    (pieces : List Piece) (given : List StepUnit) : Type 0 where
  pub more : List Planned
  pub piece : Piece
  pub due : out ++ more
      ≡ due_steps (gear_of s.steps) (stream_lines s.steps) (segments_for s.drive parts) base
      (tick (stream_lines s.steps).first (turn * turn_ns)) end
  pub piece_to : IsPieceTo (stream_lines s.steps) turn piece (held_of s.pack)
  pub stepper : IsStepperOf s base parts (out ++ more) (pieces ++ piece ∷ []) given
