-- The moves by which axes home are valid and short.
use Rattle.std.proofs.Common.{◌≡◌, ℕ, zero, suc, pos, negsuc, ℤ, ◌+◌, ◌-◌, ◌*◌, ◌/◌, ◌^◌, ◌<◌, ◌≤◌, Bool, true, false, List, [], ◌∷◌, All, refl, ap, sym, subst, ◌∙◌, arith, lit≤, inl, inr}
use Rattle.std.specs.Prelude.{◌==◌, ◌+ℤ◌, ◌-ℤ◌, min, slice_index_or, unsigned_abs, if◌then◌else◌}
use Rattle.std.proofs.lemmas.Bool.Decides.{eqb_tells}
use Rattle.std.proofs.lemmas.Int.{ints}
use Rattle.plan_types.specs.declared.machine.AxisDef.{AxisDef}
use Rattle.plan_types.specs.declared.machine.Machine.{Machine}
use Rattle.plan_types.specs.declared.plan.Move.{Move}
use Rattle.plan_types.specs.Machines.{IsValidAxis, IsValidMachine, axis_at, no_axis}
use Rattle.plan_types.specs.Moves.{change, move_length}
use Rattle.plan_types.specs.Numbers.{square_root}
use Rattle.plan_types.specs.Valid.{IsValidMove}
use Rattle.plan_types.proofs.Roots.{square_root-unique}
use Rattle.gcode_state.specs.declared.state.State.{State}
use Rattle.gcode_state.specs.Sound.{IsSound, IsWithin}
use Rattle.gcode_state.specs.States.{coordinates_of}
use Rattle.gcode_program.specs.Homes.{IsRoom, homing_from, homing_move, homing_run, is_positive, placed_on, stood}
use Rattle.gcode_state.proofs.ValidMoves.{near}

below_four : (P : ℕ → Type 0) → P 0 → P 1 → P 2 → P 3 → (k : ℕ) → k < 4 → P k
below_four P a b c d zero h = a
below_four P a b c d (suc zero) h = b
below_four P a b c d (suc (suc zero)) h = c
below_four P a b c d (suc (suc (suc zero))) h = d
below_four P a b c d (suc (suc (suc (suc k)))) h = absurd (omega arith)

below_three : (P : ℕ → Type 0) → P 0 → P 1 → P 2 → (k : ℕ) → k < 3 → P k
below_three P a b c zero h = a
below_three P a b c (suc zero) h = b
below_three P a b c (suc (suc zero)) h = c
below_three P a b c (suc (suc (suc k))) h = absurd (omega arith)

pub state_room : (s : State) → IsSound s → IsRoom (coordinates_of s) s.acceleration
state_room s sound =
    let count : 500000000 * s.count ≤ 2 ^ 60 = omega (arith, sound.count) in
    record {
      near = below_four (λ k. unsigned_abs (slice_index_or (coordinates_of s) k (pos 0)) ≤ 2 ^ 60)
          (near 500000000 (2 ^ 60) s.x.at (lit≤ tt) sound.x.at) (near 500000000 (2 ^ 60) s.y.at (lit≤ tt) sound.y.at)
          (near 500000000 (2 ^ 60) s.z.at (lit≤ tt) sound.z.at) (near (500000000 * s.count) (2 ^ 60) s.e_at count sound.e_at);
      low = sound.acceleration_low;
      high = sound.acceleration_high;
    }

-- an axis of a machine
pub axis_valid : (m : Machine) (axis : ℕ) → IsValidMachine m → axis < 3 → IsValidAxis m (axis_at m axis)
axis_valid m axis valid lt = valid.axes axis no_axis (let three = valid.axes_three in omega (arith, three, lt))

pub record HasRun (a : AxisDef) : Type 0 where
  pub run_low : 0 < homing_run a
  pub run_high : homing_run a ≤ 1_500_000_000
  pub min_near : unsigned_abs a.min ≤ 500_000_000
  pub max_near : unsigned_abs a.max ≤ 500_000_000
  pub endstop_near : unsigned_abs a.endstop ≤ 500_000_000

pub has_run : (m : Machine) (a : AxisDef) → IsValidAxis m a → HasRun a
has_run m a valid =
    let low = valid.low in
    let high = valid.high in
    let apart = valid.apart in
    let e1 = valid.endstop_low in
    let e2 = valid.endstop_high in
    let wide : 1_000_000 ≤ unsigned_abs (a.max -ℤ a.min) = omega (arith, ints, apart) in
    let narrow : unsigned_abs (a.max -ℤ a.min) ≤ 1_000_000_000 = omega (arith, ints, low, high, apart) in
    record {
      run_low = omega (arith, wide);
      run_high = omega (arith, narrow);
      min_near = omega (arith, ints, low, high, apart);
      max_near = omega (arith, ints, low, high, apart);
      endstop_near = omega (arith, ints, low, high, e1, e2);
    }

root_square : (r : ℕ) → square_root (r * r) ≡ r
root_square r = square_root-unique (r * r) r (omega arith) (omega arith)

some_square : (r : ℕ) → 0 < r → r * r ≡ 0 → ⊥
some_square zero some e = omega (arith, some)
some_square (suc r) some e = omega (arith, e)

-- the length of a move that changes one coordinate
length_by : (q e r : ℕ) → q ≡ r * r → 0 < r → (if q == 0 then e else square_root q) ≡ r
length_by q e r is some = elim (eqb_tells q 0) [
  | inl p ↦ absurd (some_square r some (sym is ∙ p.1))
  | inr p ↦ rw p.0 (ap square_root is ∙ root_square r)
]

gone : (b : Bool) (e : ℤ) (r : ℕ) → unsigned_abs (e -ℤ (if b then e -ℤ pos r else e +ℤ pos r)) ≡ r
gone true e r = omega (arith, ints)
gone false e r = omega (arith, ints)

pub still : (x : ℤ) → unsigned_abs (x -ℤ x) ≡ 0
still x = omega (arith, ints)

from_near : (b : Bool) (e : ℤ) (r : ℕ) → unsigned_abs e ≤ 500_000_000 → r ≤ 1_500_000_000 → unsigned_abs (if b then e -ℤ pos r else e +ℤ pos r) ≤ 2 ^ 60
from_near true e r h l = omega (arith, ints, h, l)
from_near false e r h l = omega (arith, ints, h, l)

small : (n : ℕ) → n ≤ 500_000_000 → n ≤ 2 ^ 60
small n h = omega (arith, h)

one_square : (x y z r : ℕ) → x ≡ r → y ≡ 0 → z ≡ 0 → x * x + y * y + z * z ≡ r * r
one_square x y z r a b c = rw (a, b, c) (omega arith)

-- a position with another coordinate
pub placed_near : (at : List ℤ) (axis : ℕ) (place : ℤ) → axis < 3 → ((k : ℕ) → k < 4 → unsigned_abs (slice_index_or at k (pos 0)) ≤ 2 ^ 60) → unsigned_abs place ≤ 2 ^ 60 → (k : ℕ) → k < 4 → unsigned_abs (slice_index_or (placed_on at axis place) k (pos 0)) ≤ 2 ^ 60
placed_near at zero place lt h p = below_four (λ k. unsigned_abs (slice_index_or (placed_on at 0 place) k (pos 0)) ≤ 2 ^ 60) p (h 1 (omega arith)) (h 2 (omega arith)) (h 3 (omega arith))
placed_near at (suc zero) place lt h p = below_four (λ k. unsigned_abs (slice_index_or (placed_on at 1 place) k (pos 0)) ≤ 2 ^ 60) (h 0 (omega arith)) p (h 2 (omega arith)) (h 3 (omega arith))
placed_near at (suc (suc zero)) place lt h p = below_four (λ k. unsigned_abs (slice_index_or (placed_on at 2 place) k (pos 0)) ≤ 2 ^ 60) (h 0 (omega arith)) (h 1 (omega arith)) p (h 3 (omega arith))
placed_near at (suc (suc (suc axis))) place lt h p = absurd (omega (arith, lt))

pub stood_room : (m : Machine) (at : List ℤ) (a axis : ℕ) (named : Bool) → IsValidMachine m → axis < 3 → IsRoom at a → IsRoom (stood m at axis named) a
stood_room m at a axis false valid lt room = room
stood_room m at a axis true valid lt room = record {
  near = placed_near at axis (axis_at m axis).endstop lt room.near (small (unsigned_abs (axis_at m axis).endstop) (has_run m (axis_at m axis) (axis_valid m axis valid lt)).endstop_near);
  low = room.low;
  high = room.high;
}

-- what a homing move changes
changes : (at : List ℤ) (axis : ℕ) (from to : ℤ) (r : ℕ) → axis < 3 → unsigned_abs (to -ℤ from) ≡ r → (x y z : ℕ) → x ≡ unsigned_abs (slice_index_or (placed_on at axis to) 0 (pos 0) -ℤ slice_index_or (placed_on at axis from) 0 (pos 0))
    → y ≡ unsigned_abs (slice_index_or (placed_on at axis to) 1 (pos 0) -ℤ slice_index_or (placed_on at axis from) 1 (pos 0)) → z ≡ unsigned_abs (slice_index_or (placed_on at axis to) 2 (pos 0) -ℤ slice_index_or (placed_on at axis from) 2 (pos 0))
    → (x * x + y * y + z * z ≡ r * r) × (x ≤ r) × (y ≤ r) × (z ≤ r)
changes at zero from to r lt is x y z a b c =
    let b0 = b ∙ still (slice_index_or at 1 (pos 0)) in
    let c0 = c ∙ still (slice_index_or at 2 (pos 0)) in
    let a0 = a ∙ is in
    (one_square x y z r a0 b0 c0, omega (arith, a0), omega (arith, b0), omega (arith, c0))
changes at (suc zero) from to r lt is x y z a b c =
    let a0 = a ∙ still (slice_index_or at 0 (pos 0)) in
    let c0 = c ∙ still (slice_index_or at 2 (pos 0)) in
    let b0 = b ∙ is in
    ((let e : x * x + y * y + z * z ≡ y * y + x * x + z * z = omega arith in e ∙ one_square y x z r b0 a0 c0), omega (arith, a0), omega (arith, b0), omega (arith, c0))
changes at (suc (suc zero)) from to r lt is x y z a b c =
    let a0 = a ∙ still (slice_index_or at 0 (pos 0)) in
    let b0 = b ∙ still (slice_index_or at 1 (pos 0)) in
    let c0 = c ∙ is in
    ((let e : x * x + y * y + z * z ≡ z * z + x * x + y * y = omega arith in e ∙ one_square z x y r c0 a0 b0), omega (arith, a0), omega (arith, b0), omega (arith, c0))
changes at (suc (suc (suc axis))) from to r lt is x y z a b c = absurd (omega (arith, lt))

pub homing_good : (m : Machine) (at : List ℤ) (a axis : ℕ) → IsValidMachine m → axis < 3 → IsRoom at a → IsValidMove (homing_move m at a axis) × ((homing_move m at a axis).d ≤ 1_500_000_000)
unfolding homing_move
homing_good m at a axis valid lt room =
    let def = axis_at m axis in
    let ok = axis_valid m axis valid lt in
    let run = has_run m def ok in
    let one = homing_move m at a axis in
    let x = unsigned_abs (change one 0) in
    let y = unsigned_abs (change one 1) in
    let z = unsigned_abs (change one 2) in
    let c = changes at axis (homing_from def) def.endstop (homing_run def) lt (gone (is_positive def) def.endstop (homing_run def)) x y z refl refl refl in
    let top = run.run_high in
    let s1 = ok.speed_low in
    let s2 = ok.speed_high in
    let v1 = valid.speed_low in
    let v2 = valid.speed_high in (
      record {
        length_is = sym (length_by (x * x + y * y + z * z) (unsigned_abs (change one 3)) (homing_run def) c.0 run.run_low);
        moves = run.run_low;
        speed_low = omega (arith, s1, v1);
        speed_high = omega (arith, s2, v2);
        acceleration_low = room.low;
        acceleration_high = room.high;
        change_small = below_three (λ k. unsigned_abs (change one k) ≤ 1_500_000_000) (let h = c.1 in omega (arith, h, top)) (let h = c.2 in omega (arith, h, top)) (let h = c.3 in omega (arith, h, top));
        e_change = let e = still (slice_index_or at 3 (pos 0)) in omega (arith, e);
        from_near = placed_near at axis (homing_from def) lt room.near (from_near (is_positive def) def.endstop (homing_run def) run.endstop_near top);
        to_near = placed_near at axis def.endstop lt room.near (small (unsigned_abs def.endstop) run.endstop_near);
      },
      top,
    )

pub move_is : (m : Machine) (at : List ℤ) (a axis : ℕ) (def : AxisDef) (run : ℕ) (from to : List ℤ) (v : ℕ) → def ≡ axis_at m axis → run ≡ homing_run def → from ≡ placed_on at axis (homing_from def) → to ≡ placed_on at axis def.endstop → v ≡ min def.speed m.v
    → record { from = from; to = to; d = run; v = v; a = a } ≡ homing_move m at a axis
unfolding homing_move
move_is m at a axis def run from to v d r f t s = rw (f, t, r, s, d) refl

pub run_of : (m : Machine) (axis : ℕ) (def : AxisDef) → IsValidMachine m → axis < 3 → def ≡ axis_at m axis → HasRun def
run_of m axis def valid lt is = subst (λ (a : AxisDef). HasRun a) (sym is) (has_run m (axis_at m axis) (axis_valid m axis valid lt))
