-- What holds behind an accepted G0 or G1.
use Rattle.std.proofs.Common.{int_lt, int_div, negsuc, zero, suc, neg_ℤ, ◌*ℤ◌, ◌/◌, ◌≡◌, ◌≢◌, ℕ, ◌+◌, ◌*◌, ◌^◌, ◌≤◌, ◌<◌, ℤ, pos, ◌+ℤ◌, ◌-ℤ◌, ◌≤ℤ◌, List, [], ◌∷◌, Bool, true, false, Option, Some, None, refl, sym, ◌∙◌, arith, inl, inr, unsigned_abs, ◌&&◌, ◌||◌, nat_le, nat_lt, if◌then◌else◌}
use Rattle.std.proofs.lemmas.Bool.{cases_Bool}
use Rattle.std.proofs.lemmas.Int.{ints, unsigned_abs-mul}
use Rattle.std.proofs.Math.Nat.{mul-le-mul_left}
use Rattle.std.proofs.lemmas.Bool.Decides.{nat_tests}
use Rattle.gcode_text.specs.declared.word.Given.{Given}
use Rattle.gcode_state.specs.declared.state.Axis.{Axis}
use Rattle.gcode_state.specs.declared.state.State.{State}
use Rattle.gcode_state.specs.declared.state.Target.{Target}
use Rattle.gcode_state.specs.declared.state.Aim.{Aim}
use Rattle.gcode_state.specs.declared.state.StateFault.{StateFault}
use Rattle.gcode_state.specs.declared.state.StateFault.TheVariants.{OutOfRange, NotHomed, BadSpeed, MoveTooLong, TooMany}
use Rattle.gcode_state.specs.Sound.{IsWithin, IsSteady, IsSound}
use Rattle.gcode_state.specs.States.{differs, is_slow, is_any_unhomed, is_any_outside, is_long, is_too_many, target_of, is_outside, is_unhomed, placed, first_that_holds, move_fault, moves, moved, aim_of, e_target_of, speed_of, stretched, given_number}
use Rattle.plan_types.proofs.Facts.{not_less}

-- no test of the list holds
pub record NoFault (s : State) (aim : Aim) : Type 0 where
  pub x : is_outside s.x aim.x ≡ false
  pub y : is_outside s.y aim.y ≡ false
  pub z : is_outside s.z aim.z ≡ false
  pub short : unsigned_abs (aim.e.at -ℤ s.e_at) ≤ 500000000
  pub room : moves s aim ≡ true → s.count < 2000000

none_of : (a b c d e : Bool) (f g h i j : StateFault) → first_that_holds ((a, f) ∷ (b, g) ∷ (c, h) ∷ (d, i) ∷ (e, j) ∷ []) ≡ None → (c ≡ false) × (d ≡ false) × (e ≡ false)
none_of true b c d e f g h i j none = absurd cc
none_of false true c d e f g h i j none = absurd cc
none_of false false true d e f g h i j none = absurd cc
none_of false false false true e f g h i j none = absurd cc
none_of false false false false true f g h i j none = absurd cc
none_of false false false false false f g h i j none = (refl, refl, refl)

sides_of : (a b c : Bool) → (a || (b || c)) ≡ false → (a ≡ false) × (b ≡ false) × (c ≡ false)
sides_of a b c h = grind (arith, nat_tests)

below : (t : Bool) (m n : ℕ) → (t && nat_le m n) ≡ false → t ≡ true → n < m
below t m n h moving = grind (arith, nat_tests)

grind_within : (at min max to : ℤ) → (differs at to && (int_lt to min || int_lt max to)) ≡ false → IsWithin 500000000 at → IsWithin 500000000 min → IsWithin 500000000 max → IsWithin 500000000 to
grind_within at min max to h a low high = record { below = grind (arith, ints); above = grind (arith, ints) }

-- whether a coordinate differs is a test of two orders
inside_range : (axis : Axis) (target : Target) → IsSteady axis → is_outside axis target ≡ false → IsWithin 500000000 target.at
inside_range axis target steady h = grind_within axis.at axis.min axis.max target.at h steady.at steady.min steady.max

pub no_fault : (s : State) (aim : Aim) (has_feed : Bool) → move_fault s aim has_feed ≡ None → NoFault s aim
unfolding move_fault is_any_outside is_long is_too_many
no_fault s aim has_feed h =
    let none = none_of (is_slow s aim has_feed) (is_any_unhomed s aim) (is_any_outside s aim) (is_long s aim) (is_too_many s aim) BadSpeed NotHomed OutOfRange MoveTooLong TooMany h in
    let sides = sides_of (is_outside s.x aim.x) (is_outside s.y aim.y) (is_outside s.z aim.z) none.0 in
    record { x = sides.0; y = sides.1; z = sides.2; short = not_less 500000000 (unsigned_abs (aim.e.at -ℤ s.e_at)) none.1; room = λ moving. below (moves s aim) 2000000 s.count none.2 moving }

-- a coordinate that no fault names stays in its range
pub steady_behind : (axis : Axis) (target : Target) → IsSteady axis → is_outside axis target ≡ false → target.reads -ℤ target.at ≡ axis.reads -ℤ axis.at → IsSteady (placed axis target)
steady_behind axis target steady inside same = record {
  min = steady.min;
  max = steady.max;
  order = steady.order;
  endstop = steady.endstop;
  at = inside_range axis target steady inside;
  reads = rw same steady.reads;
}

target_same : (axis : Axis) (relative : Bool) (given : Option ℤ) → (target_of axis relative given).reads -ℤ (target_of axis relative given).at ≡ axis.reads -ℤ axis.at
target_same axis relative given = omega (arith, ints)

abs_neg : (q : ℕ) → unsigned_abs (neg_ℤ (pos q)) ≡ q
abs_neg zero = refl
abs_neg (suc q) = refl

abs_quotient : (z : ℤ) → unsigned_abs (int_div z (pos 100000000)) ≡ unsigned_abs z / 100000000
abs_quotient (pos a) = refl
abs_quotient (negsuc a) = abs_neg (suc a / 100000000)

abs_within : (n : ℕ) (z : ℤ) → unsigned_abs z ≤ n → IsWithin n z
abs_within n (pos a) h = record { below = omega (arith, ints); above = omega (arith, ints) }
abs_within n (negsuc a) h = record { below = omega (arith, ints); above = omega (arith, ints) }

few_before : (raw factor : ℕ) → 1000000 ≤ factor → raw * factor / 100000000 ≤ 500000000 → raw ≤ 2 ^ 36
few_before raw factor low short = omega (arith, mul-le-mul_left raw low)

-- what the factor stretches to a short change is short itself
raw_short : (raw : ℤ) (factor : ℕ) → 1000000 ≤ factor → unsigned_abs (stretched raw factor) ≤ 500000000 → IsWithin (2 ^ 36) raw
unfolding stretched
raw_short raw factor low short = abs_within (2 ^ 36) raw (few_before (unsigned_abs raw) factor low (rw (abs_quotient (raw *ℤ pos factor), unsigned_abs-mul raw (pos factor)) at short))

step_back : (a b : ℤ) → a +ℤ b -ℤ a ≡ b
step_back a b = omega (arith, ints)

reads_on : (n lines : ℕ) (before raw after : ℤ) → IsWithin (n + 2 ^ 36 * lines) before → IsWithin (2 ^ 36) (after -ℤ before) → IsWithin (n + 2 ^ 36 * (lines + 1)) after
reads_on n lines before raw after was step = record { below = omega (arith, ints, was.below, step.below); above = omega (arith, ints, was.above, step.above) }

abs_short : (n : ℕ) (z : ℤ) → unsigned_abs z ≤ n → IsWithin n z
abs_short n z h = abs_within n z h

pub e_on : (count : ℕ) (t : Bool) (before after : ℤ) → IsWithin (500000000 * count) before → unsigned_abs (after -ℤ before) ≤ 500000000 → (t ≡ false → after ≡ before)
    → IsWithin (500000000 * (if t then count + 1 else count)) after
e_on count true before after was short same = let step = abs_within 500000000 (after -ℤ before) short in record { below = omega (arith, ints, was.below, step.below); above = omega (arith, ints, was.above, step.above) }
e_on count false before after was short same = rw (same refl) was

pub stays : (a b c d e : Bool) → (a || (b || (c || d))) ≡ false → d ≡ false
stays a b c d e h = grind (arith, nat_tests)

pub same_place : (a b : ℤ) → differs a b ≡ false → b ≡ a
same_place a b h = grind (arith, ints)

pub count_on : (t : Bool) (count : ℕ) → count ≤ 2000000 → (t ≡ true → count < 2000000) → (if t then count + 1 else count) ≤ 2000000
count_on true count h room = omega (arith, room refl)
count_on false count h room = h

pub moved_sound : (s : State) (letters : List (Option Given)) (has_feed : Bool) → IsSound s → s.lines < 2 ^ 30 → move_fault s (aim_of s letters) has_feed ≡ None → IsSound (moved s (aim_of s letters))
unfolding moved aim_of moves
moved_sound s letters has_feed sound few h =
    let none = no_fault s (aim_of s letters) has_feed h in
    record {
      x = steady_behind s.x (target_of s.x s.relative (given_number letters 88)) sound.x none.x (target_same s.x s.relative (given_number letters 88));
      y = steady_behind s.y (target_of s.y s.relative (given_number letters 89)) sound.y none.y (target_same s.y s.relative (given_number letters 89));
      z = steady_behind s.z (target_of s.z s.relative (given_number letters 90)) sound.z none.z (target_same s.z s.relative (given_number letters 90));
      top = sound.top;
      speed_factor = sound.speed_factor;
      e_factor = sound.e_factor;
      e_factor_low = sound.e_factor_low;
      acceleration_low = sound.acceleration_low;
      acceleration_high = sound.acceleration_high;
      count = count_on (moves s (aim_of s letters)) s.count sound.count none.room;
      lines = omega arith;
      e_at = e_on s.count (moves s (aim_of s letters)) s.e_at (aim_of s letters).e.at sound.e_at none.short (λ t. same_place s.e_at (aim_of s letters).e.at (stays (differs s.x.at (aim_of s letters).x.at) (differs s.y.at (aim_of s letters).y.at) (differs s.z.at (aim_of s letters).z.at) (differs s.e_at (aim_of s letters).e.at) true t));
      e_reads = reads_on (2 ^ 63) s.lines s.e_reads (pos 0) (aim_of s letters).e.reads sound.e_reads (raw_short ((aim_of s letters).e.reads -ℤ s.e_reads) s.e_factor sound.e_factor_low (rw (step_back s.e_at (stretched ((aim_of s letters).e.reads -ℤ s.e_reads) s.e_factor)) at none.short));
    }
