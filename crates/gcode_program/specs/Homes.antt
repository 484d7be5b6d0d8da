-- The moves by which axes home.
use Rattle.std.specs.Prelude.{ℕ, ◌*◌, ◌/◌, ◌^◌, ◌<◌, ◌≤◌, ◌==◌, ℤ, pos, ◌+ℤ◌, ◌-ℤ◌, Bool, List, [], ◌∷◌, min, nat_lt, slice_index_or, unsigned_abs, if◌then◌else◌}
use Rattle.plan_types.specs.declared.machine.AxisDef.{AxisDef}
use Rattle.plan_types.specs.declared.machine.Machine.{Machine}
use Rattle.plan_types.specs.declared.plan.Move.{Move}
use Rattle.plan_types.specs.Machines.{axis_at}

-- how far an axis runs to its switch at most: one and a half times its range, cut to a whole number
abbrev pub homing_run : AxisDef → ℕ
homing_run a = 3 * unsigned_abs (a.max -ℤ a.min) / 2

-- an axis homes in the positive direction where its switch is further away from its least place than from its greatest
abbrev pub is_positive : AxisDef → Bool
is_positive a = nat_lt (unsigned_abs (a.max -ℤ a.endstop)) (unsigned_abs (a.endstop -ℤ a.min))

-- so far before the switch, in that direction
abbrev pub homing_from : AxisDef → ℤ
homing_from a = if is_positive a then a.endstop -ℤ pos (homing_run a) else a.endstop +ℤ pos (homing_run a)

-- a position with another coordinate for one axis
abbrev pub placed_on : List ℤ → ℕ → ℤ → List ℤ
placed_on at axis place =
    (if axis == 0 then place else slice_index_or at 0 (pos 0))
    ∷ (if axis == 1 then place else slice_index_or at 1 (pos 0))
    ∷ (if axis == 2 then place else slice_index_or at 2 (pos 0)) ∷ slice_index_or at 3 (pos 0) ∷ []

-- The move by which an axis homes: to its switch, from as far away as its range and a half, while the other
-- coordinates stand still; at its speed of homing, and at most that of the machine.
unfoldable pub homing_move : Machine → List ℤ → ℕ → ℕ → Move
homing_move m at acceleration axis =
    let a = axis_at m axis in
    record {
      from = placed_on at axis (homing_from a);
      to = placed_on at axis a.endstop;
      d = homing_run a;
      v = min a.speed m.v;
      a = acceleration;
    }

-- where everything stands behind the homing of an axis, if it is named
abbrev pub stood : Machine → List ℤ → ℕ → Bool → List ℤ
stood m at axis named = if named then placed_on at axis (axis_at m axis).endstop else at

-- a position and an acceleration that a homing move may have
pub record IsRoom (at : List ℤ) (acceleration : ℕ) : Type 0 where
  pub near : (k : ℕ) → k < 4 → unsigned_abs (slice_index_or at k (pos 0)) ≤ 2 ^ 60
  pub low : 100_000_000 ≤ acceleration
  pub high : acceleration ≤ 100_000_000_000
