-- Numbers as they are written, read back.
use Rattle.std.proofs.Common.{◌≡◌, ◌∙◌, ℕ, zero, suc, ◌+◌, ◌-◌, ◌*◌, ◌/◌, ◌%◌, ◌^◌, ◌<◌, ◌≤◌, ◌==◌, Bool, true, false, cond, List, [], ◌∷◌, ◌++◌, length, refl, ap, arith, append_assoc, inl, inr, ◌⊎◌, rules}
use Rattle.std.specs.Prelude.{◌&&◌, ◌||◌, int_lt, nat_lt, decimal, ℤ, pos, negsuc, Option, Some, None}
use Rattle.std.specs.Fmt.{digit_glyph, digits, digits_onto}
use Rattle.std.proofs.lemmas.Bool.{cases_lt}
use Rattle.laws_board.proofs.Names.{nat_tests}
use Rattle.std.proofs.lemmas.Int.{ints}
use Rattle.std.proofs.lemmas.Fmt.{decimal_by_steps_wide}
use Rattle.text_core.specs.Bytes.{begins, front, behind, is_digit, is_point, is_sign, without}
use Rattle.text_core.specs.Numbers.{amount, digits_behind, is_readable, number_at, parts_of, signed, value_of, worth}
use Rattle.bed_mesh.specs.Numbers.{millionths, six_digits, unsigned_text}

-- all of these are digits
abbrev pub AreDigits : List ℕ → Type 0
AreDigits [] = Unit {0}
AreDigits (d ∷ ds) = (is_digit d ≡ true) × AreDigits ds

pub digits_both : (a b : List ℕ) → AreDigits a → AreDigits b → AreDigits (a ++ b)
digits_both [] b h k = k
digits_both (d ∷ a) b h k = (h.0, digits_both a b h.1 k)

one_digit : (n : ℕ) → n < 10 → is_digit (48 + n) ≡ true
one_digit n h = grind (arith, nat_tests)

pub last_digit : (n : ℕ) → is_digit (48 + n % 10) ≡ true
last_digit n = one_digit (n % 10) (omega arith)

glyph_is : (n : ℕ) → digit_glyph false (n % 10) ≡ 48 + n % 10
glyph_is n = let h : nat_lt (n % 10) 10 ≡ true = (let l : n % 10 < 10 = omega arith in grind (arith, nat_tests)) in rw h refl

onto_digits : (k n : ℕ) (acc : List ℕ) → AreDigits acc → AreDigits (digits_onto k 10 false n acc)
onto_digits zero n acc h = h
onto_digits (suc k) n acc h = go (n / 10 == 0) (let one : AreDigits (digit_glyph false (n % 10) ∷ acc) = (rw (glyph_is n) (last_digit n), h) in (one, onto_digits k (n / 10) (digit_glyph false (n % 10) ∷ acc) one))
  where
    go : (b : Bool) → AreDigits (digit_glyph false (n % 10) ∷ acc) × AreDigits (digits_onto k 10 false (n / 10) (digit_glyph false (n % 10) ∷ acc)) → AreDigits (cond b (digit_glyph false (n % 10) ∷ acc) (digits_onto k 10 false (n / 10) (digit_glyph false (n % 10) ∷ acc)))
    go true both = both.0
    go false both = both.1

pub decimal_digits : (n : ℕ) → AreDigits (decimal n)
unfolding digits
decimal_digits n = onto_digits 64 n [] tt

-- a great number has many digits
onto_more : (k n : ℕ) (acc : List ℕ) → length acc ≤ length (digits_onto k 10 false n acc)
onto_more zero n acc = omega arith
onto_more (suc k) n acc = go (n / 10 == 0) (onto_more k (n / 10) (digit_glyph false (n % 10) ∷ acc))
  where
    go : (b : Bool) → length {A = ℕ} (digit_glyph false (n % 10) ∷ acc) ≤ length (digits_onto k 10 false (n / 10) (digit_glyph false (n % 10) ∷ acc)) → length acc ≤ length (cond b (digit_glyph false (n % 10) ∷ acc) (digits_onto k 10 false (n / 10) (digit_glyph false (n % 10) ∷ acc)))
    go true h = omega arith
    go false h = omega arith

abbrev ten_to : ℕ → ℕ
ten_to zero = 1
ten_to (suc k) = 10 * ten_to k

some_ten : (j : ℕ) → 1 ≤ ten_to j
some_ten zero = omega arith
some_ten (suc j) = omega (arith, some_ten j)

many_step : (b : Bool) (j n : ℕ) (short long : List ℕ) → 1 ≤ j → 10 ≤ n → (n / 10 == 0) ≡ b → j ≤ length long → j ≤ length (cond b short long)
many_step true j n short long some ten e more = absurd (let z : n / 10 ≡ 0 = grind (arith, nat_tests) in omega arith)
many_step false j n short long some ten e more = more

onto_many : (j k n : ℕ) (acc : List ℕ) → j ≤ k → ten_to j ≤ n → j + length acc ≤ length (digits_onto k 10 false n acc)
onto_many zero k n acc h many = omega (arith, onto_more k n acc)
onto_many (suc j) zero n acc h many = absurd (omega arith)
onto_many (suc j) (suc k) n acc h many =
    let below : ten_to j ≤ n / 10 = omega arith in
    let more : j + length {A = ℕ} (digit_glyph false (n % 10) ∷ acc) ≤ length (digits_onto k 10 false (n / 10) (digit_glyph false (n % 10) ∷ acc)) = onto_many j k (n / 10) (digit_glyph false (n % 10) ∷ acc) (omega arith) below in
    let few : suc j + length acc ≤ length (digits_onto k 10 false (n / 10) (digit_glyph false (n % 10) ∷ acc)) = omega arith in
    many_step (n / 10 == 0) (suc j + length acc) n (digit_glyph false (n % 10) ∷ acc) (digits_onto k 10 false (n / 10) (digit_glyph false (n % 10) ∷ acc)) (omega arith) (omega (arith, some_ten j)) refl few

pub decimal_long : (n : ℕ) → 10 ^ 64 ≤ n → 9 < length (decimal n)
unfolding digits
decimal_long n h = omega (arith, onto_many 10 64 n [] (omega arith) (omega arith))

-- the value of the digits
behind_last : (ds : List ℕ) (n d : ℕ) → digits_behind n (ds ++ d ∷ []) ≡ 10 * digits_behind n ds + (d - 48)
behind_last [] n d = refl
behind_last (c ∷ ds) n d = behind_last ds (10 * n + (c - 48)) d

pub decimal_value : (n : ℕ) → n < 10 ^ 64 → value_of (decimal n) ≡ n
unfolding value_of
decimal_value n h = decimal_by_steps_wide (λ (k : ℕ) (ds : List ℕ). digits_behind 0 ds ≡ k)
    (λ k few. omega arith)
    (λ k ds many e. behind_last ds 0 (48 + k % 10) ∙ (rw e (omega arith))) n h

-- the six decimals
pub six_are_digits : (n : ℕ) → AreDigits (six_digits n)
six_are_digits n = (last_digit (n / 100_000), (last_digit (n / 10_000), (last_digit (n / 1_000), (last_digit (n / 100), (last_digit (n / 10), (last_digit n, tt))))))

pub worth_six : (n : ℕ) → worth 100000 (six_digits n) ≡ n % 1_000_000
worth_six n = omega arith

-- a text behind a number
abbrev pub IsBehind : List ℕ → Type 0
IsBehind [] = Unit {0}
IsBehind (b ∷ bs) = (is_digit b ≡ false) × ((is_point b || is_sign b) ≡ false)

pub front_all : (ds rest : List ℕ) → AreDigits ds → begins is_digit rest ≡ false → front is_digit (ds ++ rest) ≡ ds
front_all [] [] h k = refl
front_all [] (b ∷ rest) h k = rw k refl
front_all (d ∷ ds) rest h k = let e : is_digit d ≡ true = h.0 in rw e (ap (λ (l : List ℕ). d ∷ l) (front_all ds rest h.1 k))

pub behind_all : (ds rest : List ℕ) → AreDigits ds → begins is_digit rest ≡ false → behind is_digit (ds ++ rest) ≡ rest
behind_all [] [] h k = refl
behind_all [] (b ∷ rest) h k = rw k refl
behind_all (d ∷ ds) rest h k = let e : is_digit d ≡ true = h.0 in rw e (behind_all ds rest h.1 k)

no_sign : (d : ℕ) → is_digit d ≡ true → is_sign d ≡ false
no_sign d h = grind (arith, nat_tests)

no_minus : (d : ℕ) → is_digit d ≡ true → (d == 45) ≡ false
no_minus d h = grind (arith, nat_tests)

pub unsigned_same : (ds rest : List ℕ) → AreDigits ds → without is_sign (ds ++ 46 ∷ rest) ≡ ds ++ 46 ∷ rest
unsigned_same [] rest h = refl
unsigned_same (d ∷ ds) rest h = let e = no_sign d h.0 in rw e refl

pub not_minus : (ds rest : List ℕ) → AreDigits ds → begins (λ b. b == 45) (ds ++ 46 ∷ rest) ≡ false
not_minus [] rest h = refl
not_minus (d ∷ ds) rest h = no_minus d h.0

no_digit : (rest : List ℕ) → IsBehind rest → begins is_digit rest ≡ false
no_digit [] h = refl
no_digit (b ∷ rest) h = h.0

no_more : (rest : List ℕ) → IsBehind rest → begins (λ b. is_point b || is_sign b) rest ≡ false
no_more [] h = refl
no_more (b ∷ rest) h = h.1

pub parts_made : (text ds six rest : List ℕ) (negative : Bool) → without is_sign text ≡ ds ++ 46 ∷ (six ++ rest) → begins (λ b. b == 45) text ≡ negative → AreDigits ds → AreDigits six → IsBehind rest
    → parts_of text ≡ record { negative = negative; whole = ds; decimals = six; rest = rest }
unfolding parts_of
parts_made text ds six rest negative e f h k r =
    let a = front_all ds (46 ∷ (six ++ rest)) h refl in
    let b = behind_all ds (46 ∷ (six ++ rest)) h refl in
    let c = front_all six rest k (no_digit rest r) in
    let d = behind_all six rest k (no_digit rest r) in
    rw (e, f, a, b, c, d) refl

abbrev number_by : Bool → ℤ → List ℕ → Option (ℤ × List ℕ)
number_by true z rest = None
number_by false z rest = Some (z, rest)

signed_same : (negative : Bool) (n q w : ℕ) → q ≡ n / 1_000_000 → w ≡ n % 1_000_000 → signed negative (q * 1000000 + w) ≡ signed negative n
signed_same negative n q w e f = let g : q * 1000000 + w ≡ n = omega arith in rw g refl

made : (text six rest : List ℕ) (n : ℕ) (negative : Bool) → parts_of text ≡ record { negative = negative; whole = decimal (n / 1_000_000); decimals = six_digits n; rest = rest } → IsBehind rest
    → number_at 9 text ≡ number_by (nat_lt 9 (length (decimal (n / 1_000_000)))) (signed negative n) rest
unfolding number_at is_readable amount
made text six rest n negative e r = by (cases_lt (n / 1_000_000) (10 ^ 64)) where
  long : (whole : ℕ) (z y : ℤ) → nat_lt 9 whole ≡ true → cond (cond (nat_lt 9 whole) false (cond ((whole == 0) && false) false (cond (begins (λ b. is_point b || is_sign b) rest) false true))) (Some (z, rest)) None ≡ number_by (nat_lt 9 whole) y rest
  long whole z y h = rw h refl

  short : (whole : ℕ) (z y : ℤ) → z ≡ y → cond (cond (nat_lt 9 whole) false (cond ((whole == 0) && false) false (cond (begins (λ b. is_point b || is_sign b) rest) false true))) (Some (z, rest)) None ≡ number_by (nat_lt 9 whole) y rest
  short whole z y h = rw (no_more rest r, h) (go (nat_lt 9 whole) (whole == 0)) where
    go : (a b : Bool) → cond (cond a false (cond (b && false) false true)) (Some (y, rest)) None ≡ number_by a y rest
    go true b = refl
    go false true = refl
    go false false = refl

  by : (n / 1_000_000 < 10 ^ 64) ⊎ (10 ^ 64 ≤ n / 1_000_000) → cond (cond (nat_lt 9 (length (parts_of text).whole)) false (cond ((length (parts_of text).whole == 0) && (length (parts_of text).decimals == 0)) false (cond (begins (λ b. is_point b || is_sign b) (parts_of text).rest) false true))) (Some (signed (parts_of text).negative (value_of (parts_of text).whole * 1000000 + worth 100000 (parts_of text).decimals), (parts_of text).rest)) None
      ≡ number_by (nat_lt 9 (length (decimal (n / 1_000_000)))) (signed negative n) rest
  by (inl few) = rw e (short (length (decimal (n / 1_000_000))) _ (signed negative n) (signed_same negative n (value_of (decimal (n / 1_000_000))) (worth 100000 (six_digits n)) (decimal_value (n / 1_000_000) few) (worth_six n)))
  by (inr many) = rw e (long (length (decimal (n / 1_000_000))) _ (signed negative n) (let h = decimal_long (n / 1_000_000) many in grind (arith, nat_tests)))

millionths_pos : (n : ℕ) → millionths (pos n) ≡ unsigned_text n
unfolding millionths
millionths_pos n = let e : int_lt (pos n) (pos 0) ≡ false = grind (arith, ints) in rw e refl

millionths_neg : (k : ℕ) → millionths (negsuc k) ≡ 45 ∷ unsigned_text (suc k)
unfolding millionths
millionths_neg k = refl

either_number : (r : Option (ℤ × List ℕ)) (b : Bool) (z : ℤ) (rest : List ℕ) → r ≡ number_by b z rest → (r ≡ Some (z, rest)) ⊎ (r ≡ None)
either_number r true z rest h = inr h
either_number r false z rest h = inl h

unsigned_parts : (n : ℕ) (rest : List ℕ) → IsBehind rest → parts_of (unsigned_text n ++ rest) ≡ record { negative = false; whole = decimal (n / 1_000_000); decimals = six_digits n; rest = rest }
unsigned_parts n rest r = search (rules, decimal_digits, append_assoc, parts_made, unsigned_same, not_minus, six_are_digits)

minus_parts : (n : ℕ) (rest : List ℕ) → IsBehind rest → parts_of (45 ∷ (unsigned_text n ++ rest)) ≡ record { negative = true; whole = decimal (n / 1_000_000); decimals = six_digits n; rest = rest }
minus_parts n rest r = search (rules, decimal_digits, parts_made, append_assoc, six_are_digits)

minus : (k : ℕ) → signed true (suc k) ≡ negsuc k
unfolding signed
minus k = grind (arith, ints)

plus : (n : ℕ) → signed false n ≡ pos n
unfolding signed
plus n = refl

-- a number is read back as itself, unless it has too many digits
pub number_back : (z : ℤ) (rest : List ℕ) → IsBehind rest → (number_at 9 (millionths z ++ rest) ≡ Some (z, rest)) ⊎ (number_at 9 (millionths z ++ rest) ≡ None)
number_back (pos n) rest r = rw (millionths_pos n) (either_number _ (nat_lt 9 (length (decimal (n / 1_000_000)))) (pos n) rest (made _ (six_digits n) rest n false (unsigned_parts n rest r) r ∙ ap (λ (y : ℤ). number_by (nat_lt 9 (length (decimal (n / 1_000_000)))) y rest) (plus n)))
number_back (negsuc k) rest r = rw (millionths_neg k) (either_number _ (nat_lt 9 (length (decimal (suc k / 1_000_000)))) (negsuc k) rest (made _ (six_digits (suc k)) rest (suc k) true (minus_parts (suc k) rest r) r ∙ ap (λ (y : ℤ). number_by (nat_lt 9 (length (decimal (suc k / 1_000_000)))) y rest) (minus k)))

-- what stands behind a number
pub behind_number : (z : ℤ) (rest : List ℕ) → IsBehind rest → (parts_of (millionths z ++ rest)).rest ≡ rest
behind_number (pos n) rest r = rw (millionths_pos n, unsigned_parts n rest r) refl
behind_number (negsuc k) rest r = rw (millionths_neg k, minus_parts (suc k) rest r) refl

-- a whole number
abbrev whole_found : ℤ → Option (ℤ × List ℕ)
whole_found z = Some (z, [])

abbrev whole_if : Bool → Bool → ℤ → Option (ℤ × List ℕ)
whole_if a b z = cond (cond a false (cond (b && true) false true)) (whole_found z) None

whole_parts : (n : ℕ) → parts_of (decimal n ++ []) ≡ record { negative = false; whole = decimal n; decimals = []; rest = [] }
unfolding parts_of
whole_parts n =
    let ds = decimal_digits n in
    let a = front_all (decimal n) [] ds refl in
    let b = behind_all (decimal n) [] ds refl in
    rw (whole_unsigned (decimal n) ds, whole_plus (decimal n) ds, a, b) refl
  where
    whole_unsigned : (ds : List ℕ) → AreDigits ds → without is_sign (ds ++ []) ≡ ds ++ []
    whole_unsigned [] h = refl
    whole_unsigned (d ∷ ds) h = let e = no_sign d h.0 in rw e refl

    whole_plus : (ds : List ℕ) → AreDigits ds → begins (λ b. b == 45) (ds ++ []) ≡ false
    whole_plus [] h = refl
    whole_plus (d ∷ ds) h = no_minus d h.0

pub whole_behind : (n : ℕ) → (parts_of (decimal n ++ [])).rest ≡ []
whole_behind n = rw (whole_parts n) refl

pub whole_back : (n : ℕ) → (number_at 9 (decimal n ++ []) ≡ Some (pos (n * 1_000_000), [])) ⊎ (number_at 9 (decimal n ++ []) ≡ None)
unfolding number_at is_readable amount signed
whole_back n = rw (whole_parts n) (by (cases_lt n (10 ^ 64))) where
  long : (whole : ℕ) (z : ℤ) → nat_lt 9 whole ≡ true → whole_if (nat_lt 9 whole) (whole == 0) z ≡ None
  long whole z h = rw h refl

  short : (a b : Bool) (z y : ℤ) → z ≡ y → (whole_if a b z ≡ whole_found y) ⊎ (whole_if a b z ≡ None)
  short true b z y h = inr refl
  short false true z y h = inr refl
  short false false z y h = inl (rw h refl)

  by : (n < 10 ^ 64) ⊎ (10 ^ 64 ≤ n) → (whole_if (nat_lt 9 (length (decimal n))) (length (decimal n) == 0) (pos (value_of (decimal n) * 1_000_000 + 0)) ≡ whole_found (pos (n * 1_000_000)))
      ⊎ (whole_if (nat_lt 9 (length (decimal n))) (length (decimal n) == 0) (pos (value_of (decimal n) * 1_000_000 + 0)) ≡ None)
  by (inl few) = (let e : value_of (decimal n) * 1_000_000 + 0 ≡ n * 1_000_000 = rw (decimal_value n few) (omega arith) in short (nat_lt 9 (length (decimal n))) (length (decimal n) == 0) _ _ (ap (λ (k : ℕ). pos k) e))
  by (inr many) = inr (long (length (decimal n)) _ (let h = decimal_long n many in grind (arith, nat_tests)))

-- no number has more than 64 digits
onto_few : (k n : ℕ) (acc : List ℕ) → length (digits_onto k 10 false n acc) ≤ k + length acc
onto_few zero n acc = omega arith
onto_few (suc k) n acc = go (n / 10 == 0) (onto_few k (n / 10) (digit_glyph false (n % 10) ∷ acc)) where
  go : (b : Bool) → length (digits_onto k 10 false (n / 10) (digit_glyph false (n % 10) ∷ acc)) ≤ k + length {A = ℕ} (digit_glyph false (n % 10) ∷ acc)
      → length (cond b (digit_glyph false (n % 10) ∷ acc) (digits_onto k 10 false (n / 10) (digit_glyph false (n % 10) ∷ acc))) ≤ suc k + length acc
  go true h = omega arith
  go false h = omega arith

pub decimal_few : (n : ℕ) → length (decimal n) ≤ 64
unfolding digits
decimal_few n = omega (arith, onto_few 64 n [])
