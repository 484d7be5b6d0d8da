-- The digits of short numbers.
use Rattle.std.proofs.Common.{◌≡◌, ◌∙◌, refl, ap, length, ℕ, zero, suc, ◌+◌, ◌-◌, ◌*◌, ◌/◌, ◌%◌, ◌^◌, ◌<◌, ◌≤◌, Bool, true, ◌&&◌, T, eqb, List, [], ◌∷◌, ◌++◌, get_or, inl, inr, arith, eq-zero-or-pos, eqb→eq, length-append, append_assoc, sym, take}
use Rattle.std.proofs.lemmas.Fmt.{decimal_digit}
use Rattle.std.specs.Fmt.{decimal}
use lib.Ieee.Fits.{and_l, and_r}
use Rattle.itoa.proofs.Decimal.{decimal_two, decimal_pair, decimal_four}
use Rattle.report_text.specs.declared.digits.TheConstants.{PAIRS}
use Rattle.report_text.specs.Digits.{pair, four, eight}

abbrev are_pairs : ℕ → Bool
are_pairs zero = true
are_pairs (suc p) = (eqb (get_or PAIRS (p * 2) 0) (48 + p / 10) && eqb (get_or PAIRS (p * 2 + 1) 0) (48 + p % 10)) && are_pairs p

below : (n p : ℕ) → T (are_pairs n) → p < n → (get_or PAIRS (p * 2) 0 ≡ 48 + p / 10) × (get_or PAIRS (p * 2 + 1) 0 ≡ 48 + p % 10)
below zero p t h = absurd (omega arith)
below (suc n) p t h =
    elim (eq-zero-or-pos (n - p)) [
      | inl z ↦ let e : p ≡ n = omega arith in let a = and_l _ (are_pairs n) t in rw e (eqb→eq _ _ (and_l _ _ a), eqb→eq _ _ (and_r _ _ a))
      | inr g ↦ below n p (and_r _ (are_pairs n) t) (omega arith)
    ]

pub PAIRS_at : (p : ℕ) → p < 100 → (get_or PAIRS (p * 2) 0 ≡ 48 + p / 10) × (get_or PAIRS (p * 2 + 1) 0 ≡ 48 + p % 10)
PAIRS_at p h = below 100 p tt h

pub one-digit : (n : ℕ) → n < 10 → decimal n ≡ (48 + n) ∷ []
one-digit n h = decimal_digit n h

pub two-digits : (n : ℕ) → 10 ≤ n → n < 100 → decimal n ≡ pair n
two-digits n lo hi = decimal_two n lo hi

pub three-digits : (n : ℕ) → 100 ≤ n → n < 1000 → decimal n ≡ (48 + n / 100) ∷ pair (n % 100)
three-digits n lo hi = rw (decimal_pair n lo (omega arith), decimal_digit (n / 100) (omega arith)) refl

pub four-digits : (n : ℕ) → 1000 ≤ n → n < 10000 → decimal n ≡ four n
four-digits n lo hi = rw (decimal_pair n (omega arith) (omega arith), decimal_two (n / 100) (omega arith) (omega arith)) refl

pub more-digits : (n : ℕ) → 10000 ≤ n → n < 2 ^ 64 → decimal n ≡ decimal (n / 10000) ++ four (n % 10000)
more-digits n lo hi = decimal_four n lo hi

pub most-digits : (n : ℕ) → 100000000 ≤ n → n < 2 ^ 64 → decimal n ≡ decimal (n / 100000000) ++ eight (n % 100000000)
most-digits n lo hi =
    let a : n / 10000 / 10000 ≡ n / 100000000 = omega arith in
    let b : n / 10000 % 10000 ≡ n % 100000000 / 10000 = omega arith in
    let c : n % 10000 ≡ n % 100000000 % 10000 = omega arith in
    more-digits n (omega arith) hi ∙ ap (λ t. t ++ four (n % 10000)) (more-digits (n / 10000) (omega arith) (omega arith)) ∙ append_assoc (decimal (n / 10000 / 10000)) (four (n / 10000 % 10000)) (four (n % 10000))
    ∙ ap (λ k. decimal k ++ (four (n / 10000 % 10000) ++ four (n % 10000))) a ∙ ap (λ k. decimal (n / 100000000) ++ (four k ++ four (n % 10000))) b ∙ ap (λ k. decimal (n / 100000000) ++ (four (n % 100000000 / 10000) ++ four k)) c

pub longer : (n : ℕ) → 10000 ≤ n → n < 2 ^ 64 → length (decimal n) ≡ length (decimal (n / 10000)) + 4
longer n lo hi = ap length (more-digits n lo hi) ∙ length-append _ _

pub longest : (n : ℕ) → 100000000 ≤ n → n < 2 ^ 64 → length (decimal n) ≡ length (decimal (n / 100000000)) + 8
longest n lo hi = ap length (most-digits n lo hi) ∙ length-append _ _

-- a number behind whose front its last digits are put
pub digits-behind : (n m at mid end : ℕ) (before first last text : List ℕ) → decimal n ≡ decimal m ++ text → take mid first ≡ take at before ++ decimal m → take end last ≡ take mid first ++ text → take end last ≡ take at before ++ decimal n
digits-behind n m at mid end before first last text e front more =
    more ∙ ap (λ t. t ++ text) front ∙ append_assoc (take at before) (decimal m) text ∙ ap (λ t. take at before ++ t) (sym e)

pub eight-behind : (n at mid end : ℕ) (before first last text : List ℕ) → 100000000 ≤ n → n < 2 ^ 64 → text ≡ eight (n % 100000000) → take mid first ≡ take at before ++ decimal (n / 100000000) → take end last ≡ take mid first ++ text → take end last ≡ take at before ++ decimal n
eight-behind n at mid end before first last text lo hi e = digits-behind n (n / 100000000) at mid end before first last text (most-digits n lo hi ∙ ap (λ t. decimal (n / 100000000) ++ t) (sym e))
