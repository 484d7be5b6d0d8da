-- The machine of a configuration.
use Rattle.std.specs.Prelude.{ℕ, ◌+◌, ◌*◌, ◌%◌, Bool, true, false, List, [], ◌∷◌, ◌++◌, ◌==◌, if◌then◌else◌, count_by, Option, Some, None, Result, Ok, Err, codes}
use Rattle.std.specs.Str.{bytes_eq}
use Rattle.plan_types.specs.declared.cause.CfgKind.TheVariants as kinds
use Rattle.plan_types.specs.declared.machine.Machine.{Machine}
use Rattle.plan_types.specs.declared.machine.BoardDef.{BoardDef}
use Rattle.plan_types.specs.declared.machine.StepperDef.{StepperDef}
use Rattle.plan_types.specs.declared.machine.AxisDef.{AxisDef}
use Rattle.plan_types.specs.declared.machine.FanDef.{FanDef}
use Rattle.plan_types.specs.declared.plan.Gear.{Gear}
use Rattle.cfg_lines.specs.declared.fault.CfgFault.{CfgFault}
use Rattle.cfg_lines.specs.declared.fault.CfgFault.TheVariants.{At}
use Rattle.cfg_lines.specs.declared.section.Drive.{Drive}
use Rattle.cfg_lines.specs.declared.section.Drive.TheVariants.{X, Y, Z, E}
use Rattle.cfg_lines.specs.declared.section.Motor.{Motor}
use Rattle.cfg_lines.specs.declared.section.Section.TheVariants.{Fan, Printer, Simulated, Simulation, Stepper}
use Rattle.cfg_lines.specs.declared.table.Key.{Key}
use Rattle.cfg_lines.specs.declared.table.Key.TheVariants.{Kinematics, MaxVelocity, MaxAccel, SquareCornerVelocity, MinimumCruiseRatio, ClockFreq, StartClock, MoveSlots, DriftPpm, StartHomed, StepPin, DirPin, RotationDistance, Microsteps, FullSteps, EndstopPin, HomingSpeed, FanPin}
use Rattle.cfg_lines.specs.declared.item.Entry.{Entry}
use Rattle.cfg_text.specs.declared.wiring.Use.{Use}
use Rattle.cfg_text.specs.declared.missing.Range.{Range}
use Rattle.cfg_text.specs.declared.seat.Wire.{Wire}
use Rattle.cfg_lines.specs.Sections.{drive_number}
use Rattle.cfg_lines.specs.Items.{with_name}
use Rattle.cfg_text.specs.Holding.{amount, signed, flag, first_line_of}
use Rattle.cfg_text.specs.Wiring.{wired}
use Rattle.cfg_text.specs.Missing.{axis_section}
use Rattle.cfg_lines.specs.Faults.{◌>>=◌}

-- the pins of a board behind these, in the order of the lines that hold
abbrev pub pins_on : List ℕ → List (List ℕ) → List Use → List (List ℕ)
pins_on board names [] = names
pins_on board names (u ∷ us) =
    pins_on board (if bytes_eq u.pin.board board then with_name names u.pin.name else names) us

-- a board with its clock, its queue size and its pins
abbrev pub board_def : List Entry → List Use → List ℕ → BoardDef
board_def entries uses board =
    record {
      name = board;
      freq = amount entries (Simulated board) ClockFreq;
      start = amount entries (Simulated board) StartClock;
      slots = amount entries (Simulated board) MoveSlots;
      drift = signed entries (Simulated board) DriftPpm;
      pins = pins_on board [] uses;
    }

-- the boards, in the order of their sections
abbrev pub board_defs : List Entry → List Use → List (List ℕ) → List BoardDef
board_defs entries uses [] = []
board_defs entries uses (name ∷ names) = board_def entries uses name ∷ board_defs entries uses names

-- the place of a name among others, counted from this number on
abbrev pub place_among : ℕ → List ℕ → List (List ℕ) → Option ℕ
place_among n name [] = None
place_among n name (x ∷ xs) = if bytes_eq x name then Some n else place_among (n + 1) name xs

-- a pin on the board of this number, where that has it at a place
abbrev pub wire_on : ℕ → Bool → ℕ → Option ℕ → Option Wire
wire_on number inverts seat None = None
wire_on number inverts seat (Some place) =
    Some (record { line = number; board = seat; pin = place; inverted = inverts })

-- the numbers of a pin and its board, of boards that are numbered from this number on
abbrev pub wire_at : ℕ → Use → List BoardDef → Option Wire
wire_at n u [] = None
wire_at n u (b ∷ bs) =
    if bytes_eq b.name u.pin.board then wire_on u.line u.pin.inverted n (place_among 0 u.pin.name b.pins)
    else wire_at (n + 1) u bs

-- a pin's wire; where no board has the pin, its board isn't known
abbrev pub wire_or : ℕ → Option Wire → Result Wire CfgFault
wire_or line None = Err (At line kinds.UnknownBoard)
wire_or line (Some wire) = Ok wire

-- the wire of a stepper's pin, where the pin is named
abbrev pub wire_for : List Entry → List BoardDef → Motor → Option Use → Result Wire CfgFault
wire_for entries boards motor None = Err (At (first_line_of (Stepper motor) entries) kinds.Missing)
wire_for entries boards motor (Some u) = wire_or u.line (wire_at 0 u boards)

-- the wire of a stepper's option; where it has none, that is missing, and where no board has its pin, the
-- board isn't known
unfoldable pub wire_of : List Entry → List BoardDef → Motor → Key → Result Wire CfgFault
wire_of entries boards motor key = wire_for entries boards motor (wired entries (Stepper motor) key)

-- the name that sections have for the steppers of a drive
abbrev pub letter_of : Drive → List ℕ
letter_of X = codes "stepper_x"
letter_of Y = codes "stepper_y"
letter_of Z = codes "stepper_z"
letter_of E = codes "extruder"

-- the name of a stepper's section
abbrev pub motor_name : Motor → List ℕ
motor_name motor =
    if motor.digit == 0 then letter_of motor.drive else letter_of motor.drive ++ (48 + motor.digit % 10) ∷ []

-- the gear of a stepper: its rotation distance, and full steps times microsteps
abbrev pub gear_of : List Entry → Motor → Gear
gear_of entries motor =
    record {
      distance = amount entries (Stepper motor) RotationDistance;
      steps = amount entries (Stepper motor) Microsteps * amount entries (Stepper motor) FullSteps;
    }

-- a stepper with its two wires, behind others
abbrev pub joined : List Entry → List StepperDef → Motor → Wire → Wire → Result StepperDef CfgFault
joined entries before motor step dir =
    if dir.board == step.board
    then Ok (record {
      name = motor_name motor;
      board = step.board;
      oid = count_by (λ s. s.board == step.board) before;
      drive = drive_number motor.drive;
      gear = gear_of entries motor;
      step_pin = step.pin;
      dir_pin = dir.pin;
      inverted = dir.inverted;
    })
    else Err (At dir.line kinds.BadValue)

-- a stepper behind these
abbrev pub stepper_def : List Entry → List BoardDef → List StepperDef → Motor → Result StepperDef CfgFault
stepper_def entries boards before motor =
    wire_of entries boards motor StepPin
    >>= (λ step. wire_of entries boards motor DirPin >>= (λ dir. joined entries before motor step dir))

-- the steppers behind these, in the order of their sections
abbrev pub stepper_defs : List Entry → List BoardDef → List StepperDef → List Motor → Result (List StepperDef) CfgFault
stepper_defs entries boards before [] = Ok before
stepper_defs entries boards before (motor ∷ motors) =
    stepper_def entries boards before motor >>= (λ s. stepper_defs entries boards (before ++ s ∷ []) motors)

-- an axis with its range, its speed while it homes, and the wire of its endstop
abbrev pub axis_on : List Entry → Range → Drive → Wire → AxisDef
axis_on entries range axis wire =
    record {
      min = range.low;
      max = range.high;
      endstop = range.endstop;
      speed = amount entries (axis_section axis) HomingSpeed;
      board = wire.board;
      pin = wire.pin;
      pressed = if wire.inverted then false else true;
    }

-- an axis with its range and its endstop
abbrev pub axis_def : List Entry → List BoardDef → Range → Drive → Result AxisDef CfgFault
axis_def entries boards range axis =
    wire_of entries boards (record { drive = axis; digit = 0 }) EndstopPin
    >>= (λ wire. Ok (axis_on entries range axis wire))

-- the part fan on a wire; where no board has its pin, the board isn't known
abbrev pub fan_at : ℕ → Option Wire → Result (Option FanDef) CfgFault
fan_at line None = Err (At line kinds.UnknownBoard)
fan_at line (Some wire) = Ok (Some (record { board = wire.board; pin = wire.pin }))

-- the part fan, where its pin is named
abbrev pub fan_for : List BoardDef → Option Use → Result (Option FanDef) CfgFault
fan_for boards None = Ok None
fan_for boards (Some u) = fan_at u.line (wire_at 0 u boards)

-- the part fan: there is one where a pin holds for `[fan]`, and it is that pin
abbrev pub fan_def : List Entry → List BoardDef → Result (Option FanDef) CfgFault
fan_def entries boards = fan_for boards (wired entries Fan FanPin)

-- a machine of these boards, steppers, axes and a fan
abbrev pub machine_of : List Entry → ℕ → List BoardDef → List StepperDef → List AxisDef → Option FanDef → Machine
machine_of entries count all_boards all_steppers all_axes one_fan = record {
  corexy = flag entries Printer Kinematics;
  v = amount entries Printer MaxVelocity;
  a = amount entries Printer MaxAccel;
  scv = amount entries Printer SquareCornerVelocity;
  cruise = amount entries Printer MinimumCruiseRatio;
  homed = flag entries Simulation StartHomed;
  boards = all_boards;
  steppers = all_steppers;
  axes = all_axes;
  fan = one_fan;
  passed = count;
}
