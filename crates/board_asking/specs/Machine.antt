-- What the reactor knows of a board from the machine: its objects and its configuration (Klipper's MCU_Commands.md,
-- "Startup Commands").
use Rattle.std.specs.Prelude.{ℕ, ◌+◌, ◌-◌, ◌==◌, ◌&&◌, Bool, true, false, not, List, [], ◌∷◌, ◌++◌, length, nat_le, if◌then◌else◌}
use Rattle.std.specs.List.{flat_map}
use Rattle.plan_types.specs.declared.machine.Machine.{Machine}
use Rattle.plan_types.specs.declared.machine.StepperDef.{StepperDef}
use Rattle.plan_types.specs.declared.machine.AxisDef.{AxisDef}
use Rattle.msg_code.specs.declared.cmd.Cmd.{Cmd}
use Rattle.msg_code.specs.declared.cmd.Cmd.TheVariants as cmd
use Rattle.msg_code.specs.Bytes.{command_bytes}
use Rattle.board_asking.specs.declared.setup.Setup.{Setup}
use Rattle.board_asking.specs.declared.setup.Setup.TheVariants.{Oids, Stepper, Trsync, Endstop, Finish}

-- how many of the steppers are on a board
abbrev pub steppers_on : ℕ → List StepperDef → ℕ
steppers_on b [] = 0
steppers_on b (s ∷ ss) = (if s.board == b then 1 else 0) + steppers_on b ss

-- the object id of a board's trigger: it stands behind those of its steppers
abbrev pub trigger_of : Machine → ℕ → ℕ
trigger_of m b = steppers_on b m.steppers

-- a pin is among some pins
abbrev pub is_among : ℕ → List ℕ → Bool
is_among pin [] = false
is_among pin (p ∷ ps) = if p == pin then true else is_among pin ps

-- some pins, and behind them the endstop pins of a board that are not among them, in the order of the axes
abbrev pub pins_of : ℕ → List AxisDef → List ℕ → List ℕ
pins_of b [] pins = pins
pins_of b (a ∷ axes) pins =
    pins_of b axes (if (a.board == b) && not (is_among a.pin pins) then pins ++ a.pin ∷ [] else pins)

-- the endstop pins of a board, each once, in the order of the axes
abbrev pub endstop_pins : Machine → ℕ → List ℕ
endstop_pins m b = pins_of b m.axes []

-- the steppers of a board
abbrev pub setup_stepper : ℕ → StepperDef → List Setup
setup_stepper b s = if s.board == b then Stepper s.oid s.step_pin s.dir_pin ∷ [] else []

-- the endstops at these pins, from this object id on
abbrev pub setup_endstops : ℕ → List ℕ → List Setup
setup_endstops oid [] = []
setup_endstops oid (p ∷ pins) = Endstop oid p ∷ setup_endstops (oid + 1) pins

-- the configuration of a board: the number of its objects, its steppers, its trigger, its endstops, and the end
unfoldable pub configuration : Machine → ℕ → List Setup
configuration m b =
    Oids (trigger_of m b + 1 + length (endstop_pins m b)) ∷ (flat_map (setup_stepper b) m.steppers
    ++ Trsync (trigger_of m b) ∷ (setup_endstops (trigger_of m b + 1) (endstop_pins m b) ++ Finish ∷ []))

-- the command of one step of a board's configuration
abbrev pub setup_command : Setup → Cmd
setup_command (Oids count) = cmd.AllocateOids count
setup_command (Stepper oid step_pin dir_pin) = cmd.ConfigStepper oid step_pin dir_pin 0 0
setup_command (Trsync oid) = cmd.ConfigTrsync oid
setup_command (Endstop oid pin) = cmd.ConfigEndstop oid pin 0
setup_command Finish = cmd.FinalizeConfig 0

-- the bytes of controls in a turn
abbrev pub control_bytes : ℕ
control_bytes = 42

-- the first of some commands that fit into some bytes
abbrev pub fitting : ℕ → List Setup → List Setup
fitting room [] = []
fitting room (s ∷ ss) =
    if nat_le (command_bytes (setup_command s)) room then s ∷ fitting (room - command_bytes (setup_command s)) ss
    else []
