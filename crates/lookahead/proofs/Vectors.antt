-- Products of moves as vectors, read from signed numbers of 128 bits.
use Rattle.std.proofs.Common.{◌≡◌, ◌∙◌, sym, refl, ap, ℕ, zero, suc, ◌+◌, Bool, true, false, not, eqb, ℤ, pos, negsuc, ◌*◌, ◌/◌, ◌<◌, ◌≤◌, ◌+ℤ◌, ◌-ℤ◌, ◌*ℤ◌, unsigned_abs, arith}
use Rattle.std.specs.Prelude.{IsTrue, ◌↔◌}
use Rattle.std.specs.Int.{cast_signed, cast_unsigned, w128}
use Rattle.std.proofs.Math.Nat.{mul-le-mul}
use Rattle.std.proofs.lemmas.Bool.{false≢true}
use Rattle.std.proofs.lemmas.Bool.Decides.{nat_tests}
use Rattle.std.proofs.lemmas.Int.{to_z-of_z, fits_signed_from_abs, unsigned_abs-mul, ints}
use Rattle.plan_types.specs.declared.plan.Move.{Move}
use Rattle.plan_types.specs.Numbers.{square_root}
use Rattle.plan_types.specs.Moves.{move_length}
use Rattle.plan_types.specs.Speeds.{dot, beside, unit, half_sine, half_cosine}

-- a number that is small enough is read as it was written
pub back : (z : ℤ) → unsigned_abs z ≤ 6_750_000_000_000_000_000 → cast_signed w128 (cast_unsigned w128 z) ≡ z
back z h = to_z-of_z w128 z (fits_signed_from_abs w128 z (omega arith))

pub read_change : (z : ℤ) → unsigned_abs z ≤ 1_500_000_000 → unsigned_abs (cast_signed w128 (cast_unsigned w128 z)) ≤ 1_500_000_000
read_change z h = rw (back z (omega arith)) h

pub read_product : (z : ℤ) → unsigned_abs z ≤ 2_250_000_000_000_000_000 → unsigned_abs (cast_signed w128 (cast_unsigned w128 z)) ≤ 2_250_000_000_000_000_000
read_product z h = rw (back z (omega arith)) h

pub read_total : (z : ℤ) → unsigned_abs z ≤ 6_750_000_000_000_000_000 → unsigned_abs (cast_signed w128 (cast_unsigned w128 z)) ≤ 6_750_000_000_000_000_000
read_total z h = rw (back z h) h

pub small_product : (a b : ℕ) → a < 2_600_000_000 → b < 2_600_000_000 → a * b ≤ 6_760_000_000_000_000_000
small_product a b p q =
    let m : a ≤ 2_600_000_000 = omega arith in
    let n : b ≤ 2_600_000_000 = omega arith in
    let most = mul-le-mul m n in
    omega arith

pub some_product : (a b : ℕ) → 0 < a → 0 < b → 0 < a * b
some_product a b p q =
    let m : 1 ≤ a = omega arith in
    let n : 1 ≤ b = omega arith in
    let least = mul-le-mul m n in
    omega arith

pub small_times : (a b : ℤ) → unsigned_abs a ≤ 1_500_000_000 → unsigned_abs b ≤ 1_500_000_000 → unsigned_abs (a *ℤ b) ≤ 2_250_000_000_000_000_000
small_times a b p q = let most = mul-le-mul p q in let e = unsigned_abs-mul a b in omega arith

pub half_sine-by : (m n : Move) (a b r : ℕ) (p : ℤ) → a ≡ move_length m → b ≡ move_length n → p ≡ dot m n → r ≡ square_root (beside (a * b) p * unit * unit / (2 * (a * b))) → r ≡ half_sine m n
half_sine-by m n a b r p ea eb ep e = rw (ea, eb, ep) at e

pub half_cosine-by : (m n : Move) (a b r : ℕ) (p : ℤ) → a ≡ move_length m → b ≡ move_length n → p ≡ pos 0 -ℤ dot m n → r ≡ square_root (beside (a * b) p * unit * unit / (2 * (a * b))) → r ≡ half_cosine m n
half_cosine-by m n a b r p ea eb ep e = rw (ea, eb, ep) at e

pub negated : (z : ℤ) → unsigned_abs z ≤ 6_750_000_000_000_000_000 → unsigned_abs (pos 0 -ℤ z) ≤ 6_750_000_000_000_000_000
negated z h = omega (arith, ints)

-- the sum of three products, as it is read
pub summed : (x y z a b c total : ℤ) → unsigned_abs x ≤ 2_250_000_000_000_000_000 → unsigned_abs y ≤ 2_250_000_000_000_000_000 → unsigned_abs z ≤ 2_250_000_000_000_000_000
    → x ≡ a → y ≡ b → z ≡ c → total ≡ cast_signed w128 (cast_unsigned w128 x) +ℤ cast_signed w128 (cast_unsigned w128 y) +ℤ cast_signed w128 (cast_unsigned w128 z) → total ≡ a +ℤ b +ℤ c
summed x y z a b c total hx hy hz ex ey ez e = rw (back x (omega arith), back y (omega arith), back z (omega arith), ex, ey, ez) at e

-- the product of two changes, as it is read
pub multiplied : (x y a b r : ℤ) → unsigned_abs x ≤ 1_500_000_000 → unsigned_abs y ≤ 1_500_000_000 → x ≡ a → y ≡ b
    → r ≡ cast_signed w128 (cast_unsigned w128 x) *ℤ cast_signed w128 (cast_unsigned w128 y) → r ≡ a *ℤ b
multiplied x y a b r hx hy ex ey e = rw (back x (omega arith), back y (omega arith), ex, ey) at e

pub read_times : (x y : ℤ) → unsigned_abs x ≤ 1_500_000_000 → unsigned_abs y ≤ 1_500_000_000
    → unsigned_abs (cast_signed w128 (cast_unsigned w128 (cast_signed w128 (cast_unsigned w128 x) *ℤ cast_signed w128 (cast_unsigned w128 y)))) ≤ 2_250_000_000_000_000_000
read_times x y hx hy =
    let small = small_times x y hx hy in
    rw (back x (omega arith), back y (omega arith), back (x *ℤ y) (omega arith)) small

some_square : (z : ℤ) → (z ≡ pos 0 → ⊥) → 0 < unsigned_abs z * unsigned_abs z
some_square (pos zero) h = absurd (h refl)
some_square (pos (suc n)) h = some_product (suc n) (suc n) (omega arith) (omega arith)
some_square (negsuc n) h = some_product (suc n) (suc n) (omega arith) (omega arith)

-- a change that isn't 0, as it is read
pub changed : (z a : ℤ) → z ≡ a → (cast_unsigned w128 z ≡ 0 → ⊥) → 0 < unsigned_abs a * unsigned_abs a
changed z a e h = let some = some_square z (λ zero_is. h (ap (λ (x : ℤ). cast_unsigned w128 x) zero_is)) in rw e at some

-- a test that a number isn't 0, and holds
pub where_true : (n : ℕ) (b : Bool) → b ≡ not (eqb n 0) → b ≡ true → n ≡ 0 → ⊥
where_true n b is e none = let t : not (eqb n 0) ≡ true = sym is ∙ e in false≢true (rw none at t)

-- a change that is 0, as it is read
pub unchanged : (z a : ℤ) → z ≡ a → unsigned_abs z ≤ 1_500_000_000 → cast_unsigned w128 z ≡ 0 → unsigned_abs a * unsigned_abs a ≡ 0
unchanged z a e h zero_is =
    let none : cast_signed w128 (cast_unsigned w128 z) ≡ pos 0 = ap (λ (n : ℕ). cast_signed w128 n) zero_is in
    let is : a ≡ pos 0 = sym e ∙ sym (back z (omega arith)) ∙ none in
    rw is refl

-- a test that a number isn't 0, and fails
pub where_false : (n : ℕ) (b : Bool) → b ≡ not (eqb n 0) → b ≡ false → n ≡ 0
where_false n b is e = let t : not (eqb n 0) ≡ false = sym is ∙ e in grind (arith, nat_tests)

-- two changes are 0: then the third tells whether there is a distance
pub last_tells : (z a : ℤ) (x y : ℕ) → z ≡ a → unsigned_abs z ≤ 1_500_000_000 → x ≡ 0 → y ≡ 0
    → (IsTrue (not (eqb (cast_unsigned w128 z) 0)) ↔ (0 < x + y + unsigned_abs a * unsigned_abs a))
last_tells z a x y e small ex ey = (
  λ t. (let some = changed z a e (where_true _ _ refl t) in omega arith),
  λ h. go (not (eqb (cast_unsigned w128 z) 0)) refl h,
)
  where
    go : (b : Bool) → b ≡ not (eqb (cast_unsigned w128 z) 0) → 0 < x + y + unsigned_abs a * unsigned_abs a → IsTrue b
    go true is h = refl
    go false is h = absurd (let none = unchanged z a e small (where_false _ _ is refl) in omega arith)
