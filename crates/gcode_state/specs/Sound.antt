-- The ranges that the words of a file keep, whatever they say.
use Rattle.std.specs.Prelude.{ℕ, ◌+◌, ◌*◌, ◌^◌, ◌≤◌, ◌<◌, ℤ, pos, negsuc, ◌+ℤ◌, ◌-ℤ◌, ◌≤ℤ◌, ◌*ℤ◌}
use Rattle.plan_types.specs.declared.machine.AxisDef.{AxisDef}
use Rattle.gcode_state.specs.declared.state.Axis.{Axis}
use Rattle.gcode_state.specs.declared.state.State.{State}

-- z is at most n, up or down
pub record IsWithin (n : ℕ) (z : ℤ) : Type 0 where
  pub below : z ≤ℤ pos n
  pub above : (pos 0 -ℤ pos n) ≤ℤ z

-- the range of an axis, and its endstop
pub record IsLimits (def : AxisDef) : Type 0 where
  pub min : IsWithin 500000000 def.min
  pub max : IsWithin 500000000 def.max
  pub order : def.min ≤ℤ def.max
  pub endstop : IsWithin 500000000 def.endstop

-- an axis within the machine, whose reading is not far from its place
pub record IsSteady (axis : Axis) : Type 0 where
  pub min : IsWithin 500000000 axis.min
  pub max : IsWithin 500000000 axis.max
  pub order : axis.min ≤ℤ axis.max
  pub endstop : IsWithin 500000000 axis.endstop
  pub at : IsWithin 500000000 axis.at
  pub reads : IsWithin (2 ^ 65) (axis.reads -ℤ axis.at)

-- E stands as far as the moves so far can have led it, and reads as far as the lines so far can have led that
pub record IsSound (s : State) : Type 0 where
  pub x : IsSteady s.x
  pub y : IsSteady s.y
  pub z : IsSteady s.z
  pub top : s.top ≤ 1000000000
  pub speed_factor : s.speed_factor ≤ 1000000000
  pub e_factor : s.e_factor ≤ 1000000000
  pub e_factor_low : 1000000 ≤ s.e_factor
  pub acceleration_low : 100000000 ≤ s.acceleration
  pub acceleration_high : s.acceleration ≤ 100000000000
  pub count : s.count ≤ 2000000
  pub lines : s.lines ≤ 2 ^ 30
  pub e_at : IsWithin (500000000 * s.count) s.e_at
  pub e_reads : IsWithin (2 ^ 63 + 2 ^ 36 * s.lines) s.e_reads
