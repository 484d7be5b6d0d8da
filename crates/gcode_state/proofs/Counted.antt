-- What more actions leave sound.
use Rattle.std.proofs.Common.{◌≡◌, ℕ, ◌+◌, ◌*◌, ◌≤◌, arith, ℤ}
use Rattle.std.proofs.lemmas.Int.{ints}
use Rattle.gcode_state.specs.declared.state.State.{State}
use Rattle.gcode_state.specs.Sound.{IsWithin, IsSteady, IsSound}

pub wider : (n more : ℕ) (z : ℤ) → IsWithin (500000000 * n) z → IsWithin (500000000 * (n + more)) z
wider n more z h = record { below = omega (arith, ints, h.below); above = omega (arith, ints, h.above) }

pub counted_sound : (s : State) (more : ℕ) → IsSound s → s.count + more ≤ 2000000 → IsSound (record s { count = s.count + more })
counted_sound s more sound room = record {
  x = sound.x;
  y = sound.y;
  z = sound.z;
  top = sound.top;
  speed_factor = sound.speed_factor;
  e_factor = sound.e_factor;
  e_factor_low = sound.e_factor_low;
  acceleration_low = sound.acceleration_low;
  acceleration_high = sound.acceleration_high;
  count = room;
  lines = sound.lines;
  e_at = wider s.count more s.e_at sound.e_at;
  e_reads = sound.e_reads;
}
