-- The state before the first word.
use Rattle.std.specs.Prelude.{ℕ, ◌*◌, ℤ, pos, Bool, false, min}
use Rattle.plan_types.specs.declared.machine.Machine.{Machine}
use Rattle.plan_types.specs.declared.machine.AxisDef.{AxisDef}
use Rattle.plan_types.specs.Machines.{axis_at}
use Rattle.gcode_state.specs.declared.state.Axis.{Axis}
use Rattle.gcode_state.specs.declared.state.State.{State}

-- an axis at its coordinate 0
abbrev pub axis_from : Bool → AxisDef → Axis
axis_from homed def =
    record { min = def.min; max = def.max; endstop = def.endstop; homed = homed; at = pos 0; reads = pos 0 }

-- Absolute coordinates and absolute E, all coordinates 0, both factors 100 percent, the machine's acceleration, and as
-- the speed 25 mm/s or the machine's greatest, where that is less.
unfoldable pub initial : Machine → State
initial m = record {
  top = m.v;
  x = axis_from m.homed (axis_at m 0);
  y = axis_from m.homed (axis_at m 1);
  z = axis_from m.homed (axis_at m 2);
  e_at = pos 0;
  e_reads = pos 0;
  relative = false;
  relative_e = false;
  feed = 60 * min m.v 25_000_000;
  speed_factor = 100_000_000;
  e_factor = 100_000_000;
  acceleration = m.a;
  count = 0;
  lines = 0;
}
