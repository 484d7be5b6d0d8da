-- How great weighted heights and parts of changes are.
use Rattle.std.proofs.Common.{◌≡◌, ◌*◌, ◌<◌, ◌≤◌, ℕ, refl, arith}
use Rattle.std.specs.Prelude.{ℤ, pos, negsuc, ◌+ℤ◌, ◌-ℤ◌, ◌*ℤ◌, unsigned_abs}
use Rattle.std.specs.Int.{int_div_euclid}
use Rattle.std.proofs.lemmas.Int.{ints, unsigned_abs-mul}
use Rattle.std.proofs.Math.Nat.{div-le_of_le-mul, div-lt_iff_lt-mul, mul-le-mul}

pub no_more_than : (most : ℕ) (h r : ℤ) (area whole : ℕ) → r ≡ h *ℤ pos area → unsigned_abs h ≤ most → area ≤ whole → unsigned_abs r ≤ most * whole
no_more_than most h r area whole is low part = rw (is, unsigned_abs-mul) (mul-le-mul low part)

-- a weighted height
pub no_higher : (r h whole : ℕ) → r ≤ h * whole → h ≤ 5_000_000 → r ≤ 5_000_000 * whole
no_higher r h whole is low = let same : whole ≤ whole = omega arith in let most : h * whole ≤ 5_000_000 * whole = mul-le-mul low same in omega arith

-- a quotient is no greater than what times the divisor the number is no greater than
pub quotient_low : (z : ℤ) (d most : ℕ) → 0 < d → unsigned_abs z ≤ most * d → unsigned_abs (int_div_euclid z (pos d)) ≤ most
quotient_low (pos a) d most some h = div-le_of_le-mul d (omega (arith, h))
quotient_low (negsuc a) d most some h = (div-lt_iff_lt-mul some).1 (omega (arith, h))

pub quotient_same : (q x y s w : ℤ) → q ≡ int_div_euclid x y → x ≡ s → y ≡ w → q ≡ int_div_euclid s w
quotient_same q x y s w h e f = rw (h, e, f) refl

pub behind : (start end part result sum change : ℤ) (number whole : ℕ) → part ≡ int_div_euclid sum (pos whole) → sum ≡ change *ℤ pos number → change ≡ end -ℤ start → result ≡ start +ℤ part
    → result ≡ start +ℤ int_div_euclid ((end -ℤ start) *ℤ pos number) (pos whole)
behind start end part result sum change number whole p s c r = rw (r, p, s, c) refl

pub as_behind : (n a b x y : ℤ) → n ≡ x -ℤ y → x ≡ a → y ≡ b → n ≡ a -ℤ b
as_behind n a b x y h e f = rw (h, e, f) refl

pub near_start : (result start part : ℤ) (most : ℕ) → result ≡ start +ℤ part → unsigned_abs part ≤ most → unsigned_abs (result -ℤ start) ≤ most
near_start result start part most is low = let e : (start +ℤ part) -ℤ start ≡ part = omega (arith, ints) in rw (is, e) low
