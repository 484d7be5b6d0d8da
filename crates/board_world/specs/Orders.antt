-- What the host orders of a board: control commands, and the commands of units, each queue_step with the
-- whole ticks that it means.
use Rattle.std.specs.Prelude.{ℕ, zero, suc, ℤ, pos, negsuc, ◌+◌, ◌-◌, ◌*◌, ◌/◌, ◌%◌, ◌^◌, Bool, true, false, List, [], ◌∷◌, ◌++◌, map, Option, Some, None}
use Rattle.std.specs.List.{flat_map}
use Rattle.plan_types.specs.declared.plan.Triple.{Triple}
use Rattle.msg_code.specs.declared.unit.Unit.{Unit as StepUnit}
use Rattle.msg_code.specs.declared.cmd.Cmd.{Cmd}
use Rattle.msg_code.specs.Units.{reset_commands, dir_commands, step_command}
use Rattle.board_sim.specs.Fair.{Meant}

-- a tick that is so many times add later
abbrev pub later : ℕ → ℤ → ℕ → ℕ
later tick (pos a) times = tick + a * times
later tick (negsuc a) times = tick - (a + 1) * times

-- tick i of a triple with this first tick: the first one plus i * interval + add * i * (i + 1) / 2
abbrev pub tick_of : ℕ → Triple → ℕ → ℕ
tick_of first t i = later (first + i * t.interval) t.add (i * (i + 1) / 2)

-- so many ticks of a triple, from tick i on
abbrev pub ticks_on : ℕ → Triple → ℕ → ℕ → List ℕ
ticks_on first t i zero = []
ticks_on first t i (suc n) = tick_of first t i ∷ ticks_on first t (i + 1) n

-- the whole ticks of a unit
unfoldable pub unit_ticks : StepUnit → List ℕ
unit_ticks u = ticks_on u.first u.triple 0 u.triple.count

-- a command that means no ticks
abbrev pub plain : Cmd → Meant
plain c = record { command = c; ticks = [] }

-- the commands of a unit: clock, direction, steps
abbrev pub unit_orders : StepUnit → List Meant
unit_orders u =
    map plain (reset_commands u.stepper u.reset)
    ++ (map plain (dir_commands u.stepper u.up) ++ record { command = step_command u; ticks = unit_ticks u } ∷ [])

-- the commands of some units, in order
abbrev pub units_orders : List StepUnit → List Meant
units_orders us = flat_map unit_orders us
