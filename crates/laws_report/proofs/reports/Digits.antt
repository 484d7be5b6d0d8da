-- A number in decimal digits is a word, and is read back as itself.
use Rattle.std.proofs.Common.{◌≡◌, ◌∙◌, ℕ, ◌+◌, ◌-◌, ◌*◌, ◌^◌, ◌<◌, Bool, true, false, List, [], ◌∷◌, length, ap, refl, arith, Some, None, rules}
use Rattle.std.specs.Prelude.{◌&&◌, ◌==◌, decimal, nat_le, nat_lt, if◌then◌else◌}
use Rattle.std.specs.List.{list_all}
use Rattle.std.specs.Char.{digit_value}
use Rattle.std.specs.Str.Parse.{AllDigits, digits_value_after}
use Rattle.laws_board.proofs.Names.{nat_tests, and_from}
use Rattle.std.proofs.lemmas.Fmt.{decimal_is_IsNumeral}
use Rattle.std.proofs.lemmas.Str.Parse.{digit_from_value}
use Rattle.std.proofs.lemmas.Str.{digit_value_digit}
use Rattle.text_core.specs.Bytes.{behind, is_digit}
use Rattle.text_core.specs.Numbers.{digits_behind, is_natural, value_of}
use Rattle.log_text.specs.Words.{number}
use Rattle.laws_report.specs.reports.Names.{is_plain, is_word}

digit-plain : (b : ℕ) → digit_value b < 10 → is_plain b ≡ true
digit-plain b h = (let r = digit_from_value b h in grind (arith, nat_tests))

digit-digit : (b : ℕ) → digit_value b < 10 → is_digit b ≡ true
digit-digit b h = (let r = digit_from_value b h in grind (arith, nat_tests))

all-plain : (ds : List ℕ) → AllDigits 10 ds → list_all is_plain ds ≡ true
all-plain [] d = refl
all-plain (c ∷ cs) d = and_from (is_plain c) (list_all is_plain cs) (digit-plain c d.0) (all-plain cs d.1)

none-behind : (ds : List ℕ) → AllDigits 10 ds → behind is_digit ds ≡ []
none-behind [] d = refl
none-behind (c ∷ cs) d = (let here = digit-digit c d.0 in let rest = none-behind cs d.1 in rw here rest)

same-value : (ds : List ℕ) (n : ℕ) → AllDigits 10 ds → digits_behind n ds ≡ digits_value_after 10 n ds
same-value [] n d = refl
same-value (c ∷ cs) n d =
    let k = digit_value_digit c (digit_from_value c d.0) in
    let e : 10 * n + (c - 48) ≡ n * 10 + digit_value c = omega (arith, k) in
    ap (λ m. digits_behind m cs) e ∙ same-value cs (n * 10 + digit_value c) d.1

natural : (ds : List ℕ) → 0 < length ds → AllDigits 10 ds → is_natural ds ≡ true
natural [] some d = absurd (omega arith)
natural (c ∷ cs) some d = (let none = ap length (none-behind (c ∷ cs) d) in and_from (is_digit c) (length (behind is_digit (c ∷ cs)) == 0) (digit-digit c d.0) (grind (arith, nat_tests)))

-- a number in decimal is a word
pub decimal-word : (n : ℕ) → n < 2 ^ 64 → is_word (decimal n) ≡ true
decimal-word n small = search (rules, decimal_is_IsNumeral, and_from, nat_lt, list_all, nat_tests, all-plain)

if-some : (a : Bool) (v n : ℕ) → a ≡ true → v ≡ n → (if a then Some v else None) ≡ Some n
if-some true v n e f = ap (λ (k : ℕ). Some k) f
if-some false v n e f = cc

-- and is read back
pub number-decimal : (n : ℕ) → n < 2 ^ 64 → number (decimal n) ≡ Some n
unfolding value_of
number-decimal n small =
    let h = decimal_is_IsNumeral n small in
    let value : digits_behind 0 (decimal n) ≡ n = same-value (decimal n) 0 h.0.1 ∙ h.1 in
    if-some (is_natural (decimal n) && nat_le (value_of (decimal n)) 18_446_744_073_709_551_615) (value_of (decimal n)) n (and_from (is_natural (decimal n)) (nat_le (value_of (decimal n)) 18_446_744_073_709_551_615) (natural (decimal n) h.0.0 h.0.1) (grind (arith, nat_tests))) value
