-- A number from its parts.
use Rattle.std.proofs.Common.{◌≡◌, ℕ, ◌+◌, ◌*◌, ◌^◌, ◌≤◌, ◌<◌, min, Bool, true, false, List, length, arith, lit<, refl, Some, None, ◌==◌}
use Rattle.std.proofs.lemmas.Bool.Decides.{nat_tests}
use Rattle.text_core.specs.Bytes.{front, without, is_digit, is_sign}
use Rattle.text_core.specs.Numbers.{value_of, worth, parts_of, is_readable, signed, amount, number_at}
use Rattle.text_core.proofs.Spelled.{small}

within : (most wc dc : ℕ) (rest : List ℕ) → is_readable most wc dc rest ≡ true → wc ≤ most
unfolding is_readable
within most wc dc rest h = grind (arith, nat_tests)

below : (text : List ℕ) (most : ℕ) → length (parts_of text).whole ≤ most → value_of (parts_of text).whole < 10 ^ most
unfolding parts_of
below text most h = small (without is_sign text) most h

whole_exact : {n v : ℕ} → n < 1000000000000000000 → v ≡ min n 1000000000000000000 → v ≡ n
whole_exact few e = omega arith

-- the value of few digits is small, and exact
pub whole_below : (text rest : List ℕ) (most wc wv dc : ℕ) → wc ≡ length (parts_of text).whole → wv ≡ min (value_of (parts_of text).whole) 1000000000000000000
    → is_readable most wc dc rest ≡ true → wv < 10 ^ most
whole_below text rest most wc wv dc count value ok = let short : length (parts_of text).whole ≤ most = omega (arith, count, within most wc dc rest ok) in omega (arith, value, below text most short)

pub number_found : (text rest : List ℕ) (most wc wv dc dv : ℕ) (negative : Bool) → most ≤ 18 → negative ≡ (parts_of text).negative → wc ≡ length (parts_of text).whole → wv ≡ min (value_of (parts_of text).whole) 1000000000000000000
    → dc ≡ length (parts_of text).decimals → dv ≡ worth 100000 (parts_of text).decimals → rest ≡ (parts_of text).rest → is_readable most wc dc rest ≡ true
    → number_at most text ≡ Some (signed negative (wv * 1000000 + dv), rest)
unfolding number_at amount
number_found text rest most wc wv dc dv negative few minus count value decimal_count decimal_value behind ok =
    let short : length (parts_of text).whole ≤ 18 = omega (arith, count, within most wc dc rest ok) in
    let exact : wv ≡ value_of (parts_of text).whole = whole_exact (below text 18 short) value in
    let readable : is_readable most (length (parts_of text).whole) (length (parts_of text).decimals) (parts_of text).rest ≡ true = rw (← count, ← decimal_count, ← behind) ok in
    rw (readable, exact, minus, decimal_value, behind) refl

pub number_missed : (text rest : List ℕ) (most wc dc : ℕ) → wc ≡ length (parts_of text).whole → dc ≡ length (parts_of text).decimals → rest ≡ (parts_of text).rest → is_readable most wc dc rest ≡ false
    → number_at most text ≡ None
unfolding number_at
number_missed text rest most wc dc count decimal_count behind not_ok =
    let readable : is_readable most (length (parts_of text).whole) (length (parts_of text).decimals) (parts_of text).rest ≡ false = rw (← count, ← decimal_count, ← behind) not_ok in
    rw readable refl
