-- Digits as a number.
use Rattle.std.proofs.Common.{◌≡◌, ℕ, ◌+◌, ◌-◌, ◌*◌, ◌^◌, ◌≤◌, ◌<◌, min, true, false, List, [], ◌∷◌, length, arith, lit<, refl, inl, inr, IsTrue}
use Rattle.std.proofs.Math.Nat.{pow-succ', pow-le-pow_right, mul-le-mul_right}
use Rattle.std.proofs.lemmas.Bool.Decides.{nat_tests}
use Rattle.std.proofs.lemmas.Bool.{cases_Bool}
use Rattle.text_core.specs.Numbers.{digits_behind, value_of, is_natural}
use Rattle.text_core.specs.Bytes.{front, behind, begins, is_digit}

-- numbers that are equal up to the cap stay so
same_capped : (ds : List ℕ) (n m : ℕ) → min n 1000000000000000000 ≡ min m 1000000000000000000 → min (digits_behind n ds) 1000000000000000000 ≡ min (digits_behind m ds) 1000000000000000000
same_capped [] n m same = same
same_capped (d ∷ ds) n m same = same_capped ds (10 * n + (d - 48)) (10 * m + (d - 48)) (omega arith)

pub capped : (ds : List ℕ) (n : ℕ) → min (digits_behind (min n 1000000000000000000) ds) 1000000000000000000 ≡ min (digits_behind n ds) 1000000000000000000
capped ds n = same_capped ds (min n 1000000000000000000) n (omega arith)

-- more digits make no number smaller
pub grows : (ds : List ℕ) (n : ℕ) → n ≤ digits_behind n ds
grows [] n = omega arith
grows (d ∷ ds) n = omega (arith, grows ds (10 * n + (d - 48)))

digit_below : (b : ℕ) → is_digit b ≡ true → b - 48 ≤ 9
digit_below b h = grind (arith, nat_tests)

next_bound : (n d p : ℕ) → d ≤ 9 → (10 * n + d + 1) * p ≤ (n + 1) * (10 * p)
next_bound n d p h = let k : 10 * n + d + 1 ≤ (n + 1) * 10 = omega arith in omega (arith, mul-le-mul_right p k)

front_more : (b : ℕ) (bs : List ℕ) → is_digit b ≡ true → front is_digit (b ∷ bs) ≡ b ∷ front is_digit bs
front_more b bs h = rw h refl

front_none : (b : ℕ) (bs : List ℕ) → is_digit b ≡ false → front is_digit (b ∷ bs) ≡ []
front_none b bs h = rw h refl

-- a power of ten bounds the number of so many digits
bounded : (text : List ℕ) (n : ℕ) → digits_behind n (front is_digit text) < (n + 1) * 10 ^ length (front is_digit text)
bounded [] n = omega arith
bounded (b ∷ bs) n = elim (cases_Bool (is_digit b)) [
  | inl h ↦ rw (front_more b bs h, pow-succ') (let ih : digits_behind (10 * n + (b - 48)) (front is_digit bs) < (10 * n + (b - 48) + 1) * 10 ^ length (front is_digit bs) = bounded bs (10 * n + (b - 48)) in
      omega (arith, next_bound n (b - 48) (10 ^ length (front is_digit bs)) (digit_below b h)))
  | inr h ↦ rw (front_none b bs h) (omega arith)
]

-- digits that are few spell a number below that power of ten
pub small : (text : List ℕ) (most : ℕ) → length (front is_digit text) ≤ most → value_of (front is_digit text) < 10 ^ most
unfolding value_of
small text most h = let ten : 0 < 10 = lit< tt in omega (arith, bounded text 0, pow-le-pow_right {n = 10} ten h)

-- a text that is read to its end, where each byte was a digit and the value fits
pub whole_text : (text rest : List ℕ) (value : ℕ) → begins is_digit text ≡ true → length rest < 1 → behind is_digit rest ≡ behind is_digit text → digits_behind value rest ≡ digits_behind 0 text
    → value < 2 ^ 64 → (IsTrue (is_natural text) × (value_of text < 2 ^ 64)) × (value ≡ value_of text)
unfolding value_of
whole_text text [] value some end same spelled fits = ((rw (some, ← same) refl, rw (← spelled) fits), spelled)
whole_text text (b ∷ bs) value some end same spelled fits = absurd (omega arith)
