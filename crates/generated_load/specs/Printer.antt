-- The printer on which a load is run: a cartesian one with one board of 16 MHz, 200 mm a side, with its axes homed.
use Rattle.std.specs.Prelude.{ℕ, ◌+◌, ◌∷◌, [], List, pos, codes, true, false, None}
use Rattle.plan_types.specs.declared.machine.Machine.{Machine}
use Rattle.plan_types.specs.declared.machine.BoardDef.{BoardDef}
use Rattle.plan_types.specs.declared.machine.StepperDef.{StepperDef}
use Rattle.plan_types.specs.declared.machine.AxisDef.{AxisDef}

-- the board, its pins in the order in which steppers and endstops use them
abbrev pub load_board : BoardDef
load_board = record {
  name = codes "mcu";
  freq = 16_000_000;
  start = 0;
  slots = 1_024;
  drift = pos 0;
  pins =
      codes "PB0" ∷ codes "PB1" ∷ codes "PC0" ∷ codes "PB2" ∷ codes "PB3" ∷ codes "PC1" ∷ codes "PB4" ∷ codes "PB5"
      ∷ codes "PC2" ∷ codes "PB6" ∷ codes "PB7" ∷ [];
}

-- a stepper of 16 microsteps with 200 full steps a turn, in which it goes so many nm
abbrev pub load_stepper : List ℕ → ℕ → ℕ → ℕ → StepperDef
load_stepper name number distance pin =
    record {
      name = name;
      board = 0;
      oid = number;
      drive = number;
      gear = record { distance = distance; steps = 3_200 };
      step_pin = pin;
      dir_pin = pin + 1;
      inverted = false;
    }

-- an axis from 0 to 200 mm with its endstop at 0
abbrev pub load_axis : ℕ → AxisDef
load_axis pin =
    record {
      min = pos 0;
      max = pos 200_000_000;
      endstop = pos 0;
      speed = 10_000_000;
      board = 0;
      pin = pin;
      pressed = true;
    }

-- the machine of generated G-code: cartesian, at most 300 mm/s and 3,000 mm/s², with one board
abbrev pub load_machine : Machine
load_machine = record {
  corexy = false;
  v = 300_000_000;
  a = 3_000_000_000;
  scv = 5_000_000;
  cruise = 500_000;
  homed = true;
  boards = load_board ∷ [];
  steppers =
      load_stepper (codes "stepper_x") 0 40_000_000 0 ∷ load_stepper (codes "stepper_y") 1 40_000_000 3
      ∷ load_stepper (codes "stepper_z") 2 8_000_000 6 ∷ load_stepper (codes "extruder") 3 32_000_000 9 ∷ [];
  axes = load_axis 2 ∷ load_axis 5 ∷ load_axis 8 ∷ [];
  fan = None;
  passed = 0;
}
