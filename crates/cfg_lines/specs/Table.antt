-- The table of options.
use Rattle.std.specs.Prelude.{ℕ, Bool, false, List, [], ◌∷◌, ◌==◌, if◌then◌else◌, Option, Some, None, codes}
use Rattle.text_core.specs.Bytes.{same_small}
use Rattle.cfg_lines.specs.declared.section.Motor.{Motor}
use Rattle.cfg_lines.specs.declared.section.Section.{Section}
use Rattle.cfg_lines.specs.declared.section.Section.TheVariants.{Printer, Simulated, Simulation, Stepper, Fan}
use Rattle.cfg_lines.specs.declared.table.Key.{Key}
use Rattle.cfg_lines.specs.declared.table.Key.TheVariants.{Kinematics, MaxVelocity, MaxAccel, SquareCornerVelocity, MinimumCruiseRatio, ClockFreq, StartClock, MoveSlots, DriftPpm, StartHomed, StepPin, DirPin, RotationDistance, Microsteps, FullSteps, GearRatio, EndstopPin, PositionEndstop, PositionMax, PositionMin, HomingSpeed, FanPin}
use Rattle.cfg_lines.specs.declared.table.Kind.{Kind}
use Rattle.cfg_lines.specs.declared.table.Kind.TheVariants as kinds
use Rattle.cfg_lines.specs.Sections.{drive_number}

-- an option: its name, its kind of value, and what stands for it where it isn't set
pub record Row : Type 0 where
  pub name : List ℕ
  pub kind : Kind
  pub fallback : ℕ

-- a row of the table
abbrev pub row : List ℕ → Kind → ℕ → Row
row text sort fallen = record { name = text; kind = sort; fallback = fallen }

-- Lengths are nm, speeds nm/s, accelerations nm/s². An option that is needed has its least value for a
-- default, which never holds: without the option the configuration is refused. Pins have none.
abbrev pub option_row : Key → Row
option_row Kinematics = row (codes "kinematics") kinds.Kinematics 0
option_row MaxVelocity = row (codes "max_velocity") (kinds.Decimal 100_000 1_000_000_000) 100_000
option_row MaxAccel = row (codes "max_accel") (kinds.Decimal 100_000_000 100_000_000_000) 100_000_000
option_row SquareCornerVelocity = row (codes "square_corner_velocity") (kinds.Decimal 0 100_000_000) 5_000_000
option_row MinimumCruiseRatio = row (codes "minimum_cruise_ratio") (kinds.Decimal 0 999_999) 500_000
option_row ClockFreq = row (codes "clock_freq") (kinds.Whole 1_000_000 200_000_000 9 1_000) 16_000_000
option_row StartClock = row (codes "start_clock") (kinds.Whole 0 1_099_511_627_776 13 1) 0
option_row MoveSlots = row (codes "move_slots") (kinds.Whole 64 4_096 9 1) 1_024
option_row DriftPpm = row (codes "drift_ppm") (kinds.Offset 200) 0
option_row StartHomed = row (codes "start_homed") kinds.Truth 0
option_row StepPin = row (codes "step_pin") kinds.Pin 0
option_row DirPin = row (codes "dir_pin") kinds.Pin 0
option_row RotationDistance = row (codes "rotation_distance") (kinds.Decimal 100_000 1_000_000_000) 100_000
option_row Microsteps = row (codes "microsteps") kinds.Microsteps 1
option_row FullSteps = row (codes "full_steps_per_rotation") (kinds.Whole 1 400 9 1) 200
option_row GearRatio = row (codes "gear_ratio") kinds.Refused 0
option_row EndstopPin = row (codes "endstop_pin") kinds.Pin 0
option_row PositionEndstop = row (codes "position_endstop") kinds.AnyPosition 0
option_row PositionMax = row (codes "position_max") kinds.Position 0
option_row PositionMin = row (codes "position_min") kinds.Position 0
option_row HomingSpeed = row (codes "homing_speed") (kinds.Decimal 100_000 1_000_000_000) 5_000_000
option_row FanPin = row (codes "pin") kinds.Pin 0

-- the options of `[printer]`
abbrev pub printer_keys : List Key
printer_keys = Kinematics ∷ MaxVelocity ∷ MaxAccel ∷ SquareCornerVelocity ∷ MinimumCruiseRatio ∷ []

-- the options of `[simulated_mcu]`
abbrev pub simulated_keys : List Key
simulated_keys = ClockFreq ∷ StartClock ∷ MoveSlots ∷ DriftPpm ∷ []

-- the options of `[simulation]`
abbrev pub simulation_keys : List Key
simulation_keys = StartHomed ∷ []

-- the options of each stepper section
abbrev pub stepper_keys : List Key
stepper_keys = StepPin ∷ DirPin ∷ RotationDistance ∷ Microsteps ∷ FullSteps ∷ GearRatio ∷ []

-- the options of the sections of x, y and z without a digit, besides those
abbrev pub axis_keys : List Key
axis_keys = EndstopPin ∷ PositionEndstop ∷ PositionMax ∷ PositionMin ∷ HomingSpeed ∷ []

-- the options of `[fan]`
abbrev pub fan_keys : List Key
fan_keys = FanPin ∷ []

-- the place of an option in the table
abbrev pub option_place : Key → ℕ
option_place Kinematics = 0
option_place MaxVelocity = 1
option_place MaxAccel = 2
option_place SquareCornerVelocity = 3
option_place MinimumCruiseRatio = 4
option_place ClockFreq = 5
option_place StartClock = 6
option_place MoveSlots = 7
option_place DriftPpm = 8
option_place StartHomed = 9
option_place StepPin = 10
option_place DirPin = 11
option_place RotationDistance = 12
option_place Microsteps = 13
option_place FullSteps = 14
option_place GearRatio = 15
option_place EndstopPin = 16
option_place PositionEndstop = 17
option_place PositionMax = 18
option_place PositionMin = 19
option_place HomingSpeed = 20
option_place FanPin = 21

-- two options are the same
abbrev pub same_key : Key → Key → Bool
same_key a b = option_place a == option_place b

-- a section of x, y or z without a digit
abbrev pub is_axis : Motor → Bool
is_axis motor = if drive_number motor.drive == 3 then false else motor.digit == 0

-- the option of this name, in small letters or capitals
abbrev pub named : List ℕ → List Key → Option Key
named name [] = None
named name (key ∷ keys) = if same_small name (option_row key).name then Some key else named name keys

-- the first, where there is one, else the second
abbrev pub or_key : Option Key → Option Key → Option Key
or_key None later = later
or_key (Some key) later = Some key

-- the option of this name in a section
unfoldable pub key_named : Section → List ℕ → Option Key
key_named Printer name = named name printer_keys
key_named (Simulated board) name = named name simulated_keys
key_named Simulation name = named name simulation_keys
key_named (Stepper motor) name =
    or_key (named name stepper_keys) (if is_axis motor then named name axis_keys else None)
key_named Fan name = named name fan_keys
key_named section name = None
