-- What a configuration must have, and the last faults.
use Rattle.std.specs.Prelude.{ℕ, pos, ◌==◌, ◌+ℤ◌, Bool, false, List, [], ◌∷◌, if◌then◌else◌, Option, Some, None, is_some, Result, Ok, Err, codes, int_le}
use Rattle.plan_types.specs.declared.cause.CfgKind.TheVariants as kinds
use Rattle.cfg_lines.specs.declared.fault.CfgFault.{CfgFault}
use Rattle.cfg_lines.specs.declared.fault.CfgFault.TheVariants.{At}
use Rattle.cfg_lines.specs.declared.section.Drive.{Drive}
use Rattle.cfg_lines.specs.declared.section.Drive.TheVariants.{X, Y, Z, E}
use Rattle.cfg_lines.specs.declared.section.Motor.{Motor}
use Rattle.cfg_lines.specs.declared.section.Section.{Section}
use Rattle.cfg_lines.specs.declared.section.Section.TheVariants.{Fan, Printer, Stepper}
use Rattle.cfg_lines.specs.declared.table.Key.{Key}
use Rattle.cfg_lines.specs.declared.table.Key.TheVariants.{Kinematics, MaxVelocity, MaxAccel, StepPin, DirPin, RotationDistance, Microsteps, EndstopPin, PositionEndstop, PositionMax, PositionMin, FanPin}
use Rattle.cfg_lines.specs.declared.item.Entry.{Entry}
use Rattle.cfg_text.specs.declared.missing.Range.{Range}
use Rattle.cfg_lines.specs.Table.{is_axis}
use Rattle.cfg_lines.specs.Items.{has_name, has_motor}
use Rattle.cfg_text.specs.Holding.{last_set, first_line_of, line_or, signed}

-- the needed options of `[printer]`, of a stepper section, and of one without a digit
abbrev pub printer_needs : List Key
printer_needs = Kinematics ∷ MaxVelocity ∷ MaxAccel ∷ []

-- the needed options of each stepper section
abbrev pub stepper_needs : List Key
stepper_needs = StepPin ∷ DirPin ∷ RotationDistance ∷ Microsteps ∷ []

-- the needed options of a stepper section without a digit, besides those
abbrev pub axis_needs : List Key
axis_needs = StepPin ∷ DirPin ∷ RotationDistance ∷ Microsteps ∷ EndstopPin ∷ PositionEndstop ∷ PositionMax ∷ []

-- the first fault, where there is one, else the second
abbrev pub or_fault : Option CfgFault → Option CfgFault → Option CfgFault
or_fault None later = later
or_fault (Some fault) later = Some fault

-- the first of these options that isn't set, at the first line of the section
abbrev pub missing_of : List Entry → Section → List Key → Option CfgFault
missing_of entries section [] = None
missing_of entries section (key ∷ keys) =
    if is_some (last_set section key entries) then missing_of entries section keys
    else Some (At (first_line_of section entries) kinds.Missing)

-- the sections of x, y and z without a digit are needed, the other stepper sections are not
abbrev pub missing_stepper : List Entry → List Motor → Motor → Option CfgFault
missing_stepper entries motors motor = if is_axis motor then missing_of entries (Stepper motor) axis_needs
    else (if has_motor motors motor then missing_of entries (Stepper motor) stepper_needs else None)

-- what is missing in the stepper sections of a coordinate
abbrev pub missing_digits : List Entry → List Motor → Drive → List ℕ → Option CfgFault
missing_digits entries motors axis [] = None
missing_digits entries motors axis (d ∷ ds) =
    or_fault (missing_stepper entries motors (record { drive = axis; digit = d }))
    (missing_digits entries motors axis ds)

-- none, then 1 to 9
abbrev pub digits : List ℕ
digits = 0 ∷ 1 ∷ 2 ∷ 3 ∷ 4 ∷ 5 ∷ 6 ∷ 7 ∷ 8 ∷ 9 ∷ []

-- what is missing in the stepper sections and the extruder's
abbrev pub missing_drives : List Entry → List Motor → Option CfgFault
missing_drives entries motors = or_fault (missing_digits entries motors X digits)
    (or_fault (missing_digits entries motors Y digits)
    (or_fault (missing_digits entries motors Z digits)
    (missing_stepper entries motors (record { drive = E; digit = 0 }))))

-- what is missing in the section of the part fan, where there is one
abbrev pub missing_fan : List Entry → Option CfgFault
missing_fan entries = if first_line_of Fan entries == 0 then None else missing_of entries Fan (FanPin ∷ [])

-- the board `mcu` is needed
abbrev pub missing_board : List (List ℕ) → Option CfgFault
missing_board names = if has_name names (codes "mcu") then None else Some (At 0 kinds.Missing)

-- what is missing first, in the order of the table
unfoldable pub missing : List Entry → List (List ℕ) → List Motor → Option CfgFault
missing entries names motors =
    or_fault (missing_of entries Printer printer_needs)
    (or_fault (missing_board names) (or_fault (missing_drives entries motors) (missing_fan entries)))

-- an axis is at least 1 mm long, and its endstop lies on it
abbrev pub is_sound : Range → Bool
is_sound range =
    if int_le (range.low +ℤ pos 1_000_000) range.high
    then (if int_le range.low range.endstop then int_le range.endstop range.high else false)
    else false

-- the section of an axis
abbrev pub axis_section : Drive → Section
axis_section axis = Stepper (record { drive = axis; digit = 0 })

-- what an axis is set to
abbrev pub range_set : List Entry → Section → Range
range_set entries section =
    record {
      low = signed entries section PositionMin;
      high = signed entries section PositionMax;
      endstop = signed entries section PositionEndstop;
    }

-- the range of an axis, or the fault at the line of its end
unfoldable pub range_of : List Entry → Drive → Result Range CfgFault
range_of entries axis = let range = range_set entries (axis_section axis) in if is_sound range then Ok range
    else Err (At (line_or (last_set (axis_section axis) PositionMax entries)) kinds.OutOfLimit)
