-- The reading of a configuration.
use Rattle.std.specs.Prelude.{ℕ, List, [], ◌∷◌, if◌then◌else◌, nat_lt, length, Option, Some, None, Result, Ok, Err}
use Rattle.text_core.specs.Lines.{lines_of}
use Rattle.plan_types.specs.declared.cause.CfgKind.TheVariants.{TooLarge}
use Rattle.plan_types.specs.declared.machine.Machine.{Machine}
use Rattle.plan_types.specs.declared.machine.BoardDef.{BoardDef}
use Rattle.plan_types.specs.declared.machine.AxisDef.{AxisDef}
use Rattle.cfg_lines.specs.declared.fault.CfgFault.{CfgFault}
use Rattle.cfg_lines.specs.declared.fault.CfgFault.TheVariants.{At}
use Rattle.cfg_lines.specs.declared.section.Drive.TheVariants.{X, Y, Z}
use Rattle.cfg_lines.specs.declared.section.Motor.{Motor}
use Rattle.cfg_lines.specs.declared.item.Item.{Item}
use Rattle.cfg_lines.specs.declared.item.Entry.{Entry}
use Rattle.cfg_text.specs.declared.wiring.Use.{Use}
use Rattle.cfg_lines.specs.Faults.{◌>>=◌}
use Rattle.cfg_lines.specs.Items.{items, first_place, first_fault, entries, boards_behind, steppers_behind, passed_over}
use Rattle.cfg_text.specs.Wiring.{all_uses, wiring_fault}
use Rattle.cfg_text.specs.Missing.{missing, range_of}
use Rattle.cfg_text.specs.Building.{board_defs, stepper_defs, axis_def, fan_def, machine_of}

-- a fault, or else what follows
abbrev pub machine_unless : Option CfgFault → Result Machine CfgFault → Result Machine CfgFault
machine_unless None next = next
machine_unless (Some fault) next = Err fault

-- the axes x, y and z, with their ranges
abbrev pub axes : List Entry → List BoardDef → Result (List AxisDef) CfgFault
axes entries boards =
    range_of entries X
    >>= (λ x. range_of entries Y
    >>= (λ y. range_of entries Z
    >>= (λ z. axis_def entries boards x X
    >>= (λ a. axis_def entries boards y Y >>= (λ b. axis_def entries boards z Z >>= (λ c. Ok (a ∷ b ∷ c ∷ [])))))))

-- the machine of these boards and steppers
abbrev pub assembled : List Entry → List Motor → ℕ → List BoardDef → Result Machine CfgFault
assembled entries motors passed boards =
    axes entries boards
    >>= (λ axes. stepper_defs entries boards [] motors
    >>= (λ steppers. fan_def entries boards >>= (λ fan. Ok (machine_of entries passed boards steppers axes fan))))

-- the faults of the wiring, then what is missing, then the ranges of the axes, then the machine
abbrev pub reading_of_uses : List Entry → List (List ℕ) → List Motor → ℕ → List Use → Result Machine CfgFault
reading_of_uses entries names motors passed uses =
    machine_unless (wiring_fault names entries uses)
    (machine_unless (missing entries names motors) (assembled entries motors passed (board_defs entries uses names)))

-- the faults of the whole, in their order, or the machine, of what the lines say
abbrev pub reading_of_entries : List Entry → List (List ℕ) → List Motor → ℕ → Result Machine CfgFault
reading_of_entries entries names motors passed = reading_of_uses entries names motors passed (all_uses entries motors)

-- the faults line by line, then those of the whole
abbrev pub reading_of_items : List Item → Result Machine CfgFault
reading_of_items items =
    machine_unless (first_fault [] [] 1 items)
    (reading_of_entries (entries 1 items) (boards_behind [] items) (steppers_behind [] items) (passed_over items))

-- the machine of a configuration, or its first fault
unfoldable pub machine_of_text : List ℕ → Result Machine CfgFault
machine_of_text text =
    if nat_lt 1_048_576 (length text) then Err (At 0 TooLarge) else reading_of_items (items first_place (lines_of text))
