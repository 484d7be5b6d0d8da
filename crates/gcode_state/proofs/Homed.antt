-- The state in which an axis is homed.
use Rattle.std.proofs.Common.{◌≡◌, ℕ, ℤ, ◌==◌, refl}
use Rattle.gcode_state.specs.declared.state.Axis.{Axis}
use Rattle.gcode_state.specs.declared.state.State.{State}
use Rattle.gcode_state.specs.States.{homed_here, homed_at}

pub homed_axes : (s : State) (k : ℕ) (at : ℤ) (x y z : Axis) → x ≡ homed_here (k == 0) s.x at → y ≡ homed_here (k == 1) s.y at → z ≡ homed_here (k == 2) s.z at
    → record s { x = x; y = y; z = z } ≡ homed_at s k at
unfolding homed_at
homed_axes s k at x y z a b c = rw (a, b, c) refl
