-- The move of an accepted G0 or G1 is valid.
use Rattle.std.proofs.Common.{◌≡◌, ℕ, zero, suc, ◌+◌, ◌*◌, ◌^◌, ◌≤◌, ◌<◌, ◌==◌, ℤ, pos, ◌-ℤ◌, [], ◌∷◌, Bool, true, false, None, refl, arith, lit≤, inl, inr, unsigned_abs, slice_index_or, ◌&&◌, ◌||◌, nat_lt, if◌then◌else◌}
use Rattle.std.proofs.lemmas.Bool.{cases_Bool, cases_lt}
use Rattle.std.proofs.lemmas.Int.{ints}
use Rattle.std.proofs.lemmas.Bool.Decides.{nat_tests}
use Rattle.plan_types.specs.Numbers.{square_root}
use Rattle.plan_types.specs.Moves.{change, move_length}
use Rattle.plan_types.specs.Sections.{IsReachable}
use Rattle.plan_types.specs.Valid.{IsValidMove}
use Rattle.plan_types.proofs.Roots.{square_root-is}
use Rattle.gcode_state.specs.declared.state.State.{State}
use Rattle.gcode_state.specs.declared.state.Aim.{Aim}
use Rattle.gcode_state.specs.declared.state.StateFault.{StateFault}
use Rattle.gcode_state.specs.declared.state.StateFault.TheVariants.{OutOfRange, NotHomed, BadSpeed, MoveTooLong, TooMany}
use Rattle.gcode_state.specs.Sound.{IsWithin, IsSound}
use Rattle.gcode_state.specs.States.{differs, first_that_holds, is_slow, is_any_unhomed, is_any_outside, is_long, is_too_many, move_fault, moves, moved, move_of, unmeasured, speed_of}
use Rattle.gcode_state.proofs.Accepted.{no_fault}

-- how far two places within a range are apart
pub apart_small : (n : ℕ) (a b : ℤ) → IsWithin n a → IsWithin n b → unsigned_abs (b -ℤ a) ≤ 2 * n
apart_small n a b ha hb = omega (arith, ints, ha.below, ha.above, hb.below, hb.above)

pub near : (n m : ℕ) (z : ℤ) → n ≤ m → IsWithin n z → unsigned_abs z ≤ m
near n m z h w = omega (arith, ints, w.below, w.above)

-- what is not apart does not differ
stays : (a b : ℤ) → unsigned_abs (b -ℤ a) ≡ 0 → differs a b ≡ false
stays a b h = grind (arith, ints)

differs_some : (a b : ℤ) → differs a b ≡ true → 0 < unsigned_abs (b -ℤ a)
differs_some a b h = grind (arith, ints)

last_of : (a b c d : Bool) → (a || (b || (c || d))) ≡ true → a ≡ false → b ≡ false → c ≡ false → d ≡ true
last_of a b c d h x y z = grind (arith, nat_tests)

first_none : (a b c d e : Bool) (f g h i j : StateFault) → first_that_holds ((a, f) ∷ (b, g) ∷ (c, h) ∷ (d, i) ∷ (e, j) ∷ []) ≡ None → a ≡ false
first_none true b c d e f g h i j none = absurd cc
first_none false b c d e f g h i j none = refl

no_square : (x y z : ℕ) → x * x + y * y + z * z ≡ 0 → x ≡ 0
no_square zero y z h = refl
no_square (suc x) y z h = absurd (omega arith)

root_some : (q : ℕ) → 0 < q → 0 < square_root q
root_some q some = let r = square_root-is q in elim (cases_lt 0 (square_root q)) [
  | inl h ↦ h
  | inr h ↦ (let z : square_root q ≡ 0 = omega arith in let k : q < (0 + 1) * (0 + 1) = rw z at r.next_square in absurd (omega arith))
]

is_zero : (q : ℕ) → (q == 0) ≡ true → q ≡ 0
is_zero q h = grind (arith, nat_tests)

is_some : (q : ℕ) → (q == 0) ≡ false → 0 < q
is_some q h = grind (arith, nat_tests)

-- a length is some where a root is, or the rest
length_some : (q e : ℕ) → (q ≡ 0 → 0 < e) → 0 < (if q == 0 then e else square_root q)
length_some q e some = elim (cases_Bool (q == 0)) [ inl h ↦ rw h (some (is_zero q h)) | inr h ↦ rw h (root_some q (is_some q h)) ]

below_three : (P : ℕ → Type 0) → P 0 → P 1 → P 2 → (k : ℕ) → k < 3 → P k
below_three P a b c zero h = a
below_three P a b c (suc zero) h = b
below_three P a b c (suc (suc zero)) h = c
below_three P a b c (suc (suc (suc k))) h = absurd (omega arith)

below_four : (P : ℕ → Type 0) → P 0 → P 1 → P 2 → P 3 → (k : ℕ) → k < 4 → P k
below_four P a b c d zero h = a
below_four P a b c d (suc zero) h = b
below_four P a b c d (suc (suc zero)) h = c
below_four P a b c d (suc (suc (suc zero))) h = d
below_four P a b c d (suc (suc (suc (suc k)))) h = absurd (omega arith)

small_change : (a b : ℤ) → IsWithin 500000000 a → IsWithin 500000000 b → unsigned_abs (b -ℤ a) ≤ 1500000000
small_change a b ha hb = omega (arith, apart_small 500000000 a b ha hb)

close : (a : ℤ) → IsWithin 500000000 a → unsigned_abs a ≤ 2 ^ 60
close a h = near 500000000 (2 ^ 60) a (lit≤ tt) h

fast : (v : ℕ) (has_feed moving : Bool) → (nat_lt v 100000 && (has_feed || moving)) ≡ false → moving ≡ true → 100000 ≤ v
fast v has_feed moving h m = grind (arith, nat_tests)

pub fast_enough : (s : State) (aim : Aim) (has_feed : Bool) → move_fault s aim has_feed ≡ None → moves s aim ≡ true → 100000 ≤ speed_of s aim.feed
unfolding move_fault is_slow
fast_enough s aim has_feed h m = fast (speed_of s aim.feed) has_feed (moves s aim)
    (first_none (nat_lt (speed_of s aim.feed) 100000 && (has_feed || moves s aim)) (is_any_unhomed s aim) (is_any_outside s aim) (is_long s aim) (is_too_many s aim) BadSpeed NotHomed OutOfRange MoveTooLong TooMany h) m

some_change : (s : State) (aim : Aim) → moves s aim ≡ true → 0 < move_length (unmeasured s (moved s aim))
unfolding moves moved unmeasured
some_change s aim m =
    let x = unsigned_abs (aim.x.at -ℤ s.x.at) in
    let y = unsigned_abs (aim.y.at -ℤ s.y.at) in
    let z = unsigned_abs (aim.z.at -ℤ s.z.at) in
    length_some (x * x + y * y + z * z) (unsigned_abs (aim.e.at -ℤ s.e_at)) (λ h.
    let zx : x ≡ 0 = no_square x y z h in
    let hy : y * y + x * x + z * z ≡ 0 = omega (arith, h) in
    let zy : y ≡ 0 = no_square y x z hy in
    let hz : z * z + x * x + y * y ≡ 0 = omega (arith, h) in
    let zz : z ≡ 0 = no_square z x y hz in
    differs_some s.e_at aim.e.at (last_of (differs s.x.at aim.x.at) (differs s.y.at aim.y.at) (differs s.z.at aim.z.at) (differs s.e_at aim.e.at) m
    (stays s.x.at aim.x.at zx) (stays s.y.at aim.y.at zy) (stays s.z.at aim.z.at zz)))

pub valid_move : (s : State) (aim : Aim) (has_feed : Bool) → IsSound s → IsSound (moved s aim) → move_fault s aim has_feed ≡ None → moves s aim ≡ true → IsValidMove (move_of s (moved s aim))
unfolding moved unmeasured
valid_move s aim has_feed sound after h m =
    let none = no_fault s aim has_feed h in
    let count : 500000000 * s.count ≤ 2 ^ 60 = omega (arith, sound.count) in
    let count_after : 500000000 * (moved s aim).count ≤ 2 ^ 60 = omega (arith, after.count) in
    record {
      length_is = refl;
      moves = some_change s aim m;
      speed_low = fast_enough s aim has_feed h m;
      speed_high = omega (arith, sound.top);
      acceleration_low = sound.acceleration_low;
      acceleration_high = sound.acceleration_high;
      change_small = below_three (λ k. unsigned_abs (change (move_of s (moved s aim)) k) ≤ 1500000000)
          (small_change s.x.at aim.x.at sound.x.at after.x.at) (small_change s.y.at aim.y.at sound.y.at after.y.at) (small_change s.z.at aim.z.at sound.z.at after.z.at);
      e_change = none.short;
      from_near = below_four (λ k. unsigned_abs (slice_index_or (move_of s (moved s aim)).from k (pos 0)) ≤ 2 ^ 60)
          (close s.x.at sound.x.at) (close s.y.at sound.y.at) (close s.z.at sound.z.at) (near (500000000 * s.count) (2 ^ 60) s.e_at count sound.e_at);
      to_near = below_four (λ k. unsigned_abs (slice_index_or (move_of s (moved s aim)).to k (pos 0)) ≤ 2 ^ 60)
          (close aim.x.at after.x.at) (close aim.y.at after.y.at) (close aim.z.at after.z.at) (near (500000000 * (moved s aim).count) (2 ^ 60) aim.e.at count_after after.e_at);
    }

within_reach : (z : ℤ) → IsWithin 500000000 z → unsigned_abs z ≤ 500000000
within_reach z w = near 500000000 500000000 z (lit≤ tt) w

pub reachable_move : (s : State) (aim : Aim) → IsSound s → IsSound (moved s aim) → IsReachable (move_of s (moved s aim))
unfolding moved unmeasured
reachable_move s aim sound after = record {
  from_within = below_three (λ k. unsigned_abs (slice_index_or (move_of s (moved s aim)).from k (pos 0)) ≤ 500000000)
      (within_reach s.x.at sound.x.at) (within_reach s.y.at sound.y.at) (within_reach s.z.at sound.z.at);
  to_within = below_three (λ k. unsigned_abs (slice_index_or (move_of s (moved s aim)).to k (pos 0)) ≤ 500000000)
      (within_reach aim.x.at after.x.at) (within_reach aim.y.at after.y.at) (within_reach aim.z.at after.z.at);
}
