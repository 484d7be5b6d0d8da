-- The line of a move of a load, read word by word.
use Rattle.std.proofs.Common.{◌≡◌, ◌∙◌, ℕ, ◌+◌, ◌*◌, ◌/◌, ◌%◌, ◌<◌, ◌≤◌, ◌==◌, Bool, true, false, cond, codes, List, [], ◌∷◌, ◌++◌, length, refl, ap, sym, subst, arith, append_assoc, append-nil, length-append, Ok, rules}
use Rattle.std.specs.Prelude.{◌&&◌, ◌||◌, nat_lt, decimal, ℤ, pos, Option, Some, None, Result, slice_set}
use Rattle.laws_board.proofs.Names.{nat_tests}
use Rattle.std.proofs.lemmas.Fmt.{length-decimal-le}
use Rattle.text_core.specs.Bytes.{begins, behind, is_point, is_sign}
use Rattle.text_core.specs.Numbers.{Parts, amount, is_readable, number_at, parts_of, signed, value_of, worth}
use Rattle.gcode_text.specs.Blanks.{is_blank}
use Rattle.gcode_text.specs.Commands.{table_entry, head_of, unnumbered}
use Rattle.gcode_text.specs.Lines.{◌>>=◌, given_at, no_words, reading, reading_of_text, row, given_words}
use Rattle.gcode_text.specs.declared.fault.FaultKind.{FaultKind}
use Rattle.gcode_text.specs.declared.word.Given.{Given}
use Rattle.gcode_text.specs.declared.word.Given.TheVariants.{Number}
use Rattle.gcode_text.specs.declared.word.Word.{Word}
use Rattle.gcode_text.specs.declared.word.Word.TheVariants as words
use Rattle.gcode_text.specs.declared.word.Command.TheVariants as names
use Rattle.gcode_text.proofs.Rows.{row-number}
use Rattle.generated_load.specs.Text.{digit, millimetres}
use Rattle.laws_report.proofs.meshes.Digits.{AreDigits, IsBehind, decimal_digits, decimal_value, last_digit, not_minus, parts_made, unsigned_same}
use Rattle.laws_report.proofs.meshes.Spelling.{ArePlain, IsNext, plain_both, plain_digits, plain_text}
use Rattle.generated_load.proofs.Digits.{three_digits}

-- the three decimals
abbrev three : ℕ → List ℕ
three n = digit (n / 100 % 10) ∷ digit (n / 10 % 10) ∷ digit (n % 10) ∷ []

three_are_digits : (n : ℕ) → AreDigits (three n)
three_are_digits n = (last_digit (n / 100), (last_digit (n / 10), (last_digit n, tt)))

worth_three : (n : ℕ) → n / 1_000 * 1000000 + worth 100000 (three n) ≡ n * 1_000
worth_three n = omega arith

place_parts : (n : ℕ) (rest : List ℕ) → IsBehind rest → parts_of (millimetres n ++ rest) ≡ record { negative = false; whole = decimal (n / 1_000); decimals = three n; rest = rest }
place_parts n rest r = search (rules, decimal_digits, append_assoc, parts_made, unsigned_same, not_minus, three_are_digits)

short : (n : ℕ) → n < 200_001 → nat_lt 9 (length (decimal (n / 1_000))) ≡ false
short n few = let h = three_digits n few in grind (arith, nat_tests)

no_more : (rest : List ℕ) → IsBehind rest → begins (λ b. is_point b || is_sign b) rest ≡ false
no_more [] h = refl
no_more (b ∷ rest) h = h.1

abbrev found_at : ℤ → List ℕ → Option (ℤ × List ℕ)
found_at z rest = Some (z, rest)

found : (a b c : Bool) (z y : ℤ) (rest : List ℕ) → a ≡ false → c ≡ false → z ≡ y → cond (cond a false (cond (b && false) false (cond c false true))) (found_at z rest) None ≡ found_at y rest
found a true c z y rest e f g = rw (e, f, g) refl
found a false c z y rest e f g = rw (e, f, g) refl

value_is : (n : ℕ) → n < 200_001 → value_of (decimal (n / 1_000)) * 1000000 + worth 100000 (three n) ≡ n * 1_000
value_is n few = rw (decimal_value (n / 1_000) (omega arith)) (worth_three n)

place_back : (n : ℕ) (rest : List ℕ) → n < 200_001 → IsBehind rest → number_at 9 (millimetres n ++ rest) ≡ Some (pos (n * 1_000), rest)
unfolding number_at is_readable amount signed
place_back n rest few r = rw (place_parts n rest r) (found (nat_lt 9 (length (decimal (n / 1_000)))) (length (decimal (n / 1_000)) == 0) (begins (λ b. is_point b || is_sign b) rest) _ (pos (n * 1_000)) rest (short n few) (no_more rest r) (ap (λ (k : ℕ). pos k) (value_is n few)))

place_given : (n : ℕ) (rest : List ℕ) → n < 200_001 → IsNext rest → given_at false (millimetres n ++ rest) ≡ Ok (Number (pos (n * 1_000)))
unfolding given_at
place_given n rest few next = rw (place_back n rest few next.0, next.1) refl

place_row : (n : ℕ) (rest : List ℕ) (slots : List (Option Given)) → IsBehind rest → row false slots (millimetres n ++ rest) ≡ row false slots rest
place_row n rest slots r = sym (row-number (millimetres n ++ rest) false slots) ∙ ap (λ (p : Parts). row false slots p.rest) (place_parts n rest r)

-- a coordinate among the words
read_one : (n : ℕ) (rest : List ℕ) (slots : List (Option Given)) (place : ℕ) → n < 200_001 → IsNext rest
    → (given_at false (millimetres n ++ rest) >>= λ given. row false (slice_set slots place (Some given)) (millimetres n ++ rest)) ≡ row false (slice_set slots place (Some (Number (pos (n * 1_000))))) rest
read_one n rest slots place few next = rw (place_given n rest few next) (place_row n rest (slice_set slots place (Some (Number (pos (n * 1_000))))) next.0)

read_last : (n : ℕ) (slots : List (Option Given)) (place : ℕ) → n < 200_001
    → (given_at false (millimetres n) >>= λ given. row false (slice_set slots place (Some given)) (millimetres n)) ≡ Ok (slice_set slots place (Some (Number (pos (n * 1_000)))))
read_last n slots place few =
    subst (λ (t : List ℕ). (given_at false t >>= λ given. row false (slice_set slots place (Some given)) t) ≡ Ok (slice_set slots place (Some (Number (pos (n * 1_000)))))) (append-nil (millimetres n)) (read_one n [] slots place few (tt, refl))

-- the line of a move to a place in micrometres, without its end
abbrev pub place_line : ℕ → ℕ → List ℕ
place_line a b = codes "G1 X" ++ (millimetres a ++ (codes " Y" ++ millimetres b))

-- and what is given in it
abbrev pub place_words : ℕ → ℕ → List (Option Given)
place_words a b = slice_set (slice_set no_words 23 (Some (Number (pos (a * 1_000))))) 24 (Some (Number (pos (b * 1_000))))

plain_place : (n : ℕ) → ArePlain (millimetres n)
plain_place n = plain_both (decimal (n / 1_000)) (46 ∷ three n) (plain_digits (decimal (n / 1_000)) (decimal_digits (n / 1_000))) (refl, plain_digits (three n) (three_are_digits n))

pub plain_line : (a b : ℕ) → ArePlain (place_line a b)
plain_line a b = plain_both (codes "G1 X") _ (refl, (refl, (refl, (refl, tt)))) (plain_both (millimetres a) _ (plain_place a) (plain_both (codes " Y") (millimetres b) (refl, (refl, tt)) (plain_place b)))

pub short_line : (a b : ℕ) → a < 200_001 → b < 200_001 → length (place_line a b) ≤ 20
short_line a b few less = search (rules, three_digits, length-append)

line_row : (a b : ℕ) → reading_of_text (behind is_blank (place_line a b)) ≡ ((given_at false (millimetres a ++ (codes " Y" ++ millimetres b)) >>= λ given. row false (slice_set no_words 23 (Some given)) (millimetres a ++ (codes " Y" ++ millimetres b))) >>= λ slots. Ok (words.Command names.G1 slots))
unfolding head_of unnumbered table_entry given_words value_of
line_row a b = refl

abbrev named : Result (List (Option Given)) FaultKind → Result Word FaultKind
named r = r >>= λ slots. Ok (words.Command names.G1 slots)

pub line_read : (a b : ℕ) → a < 200_001 → b < 200_001 → reading (place_line a b) ≡ Ok (words.Command names.G1 (place_words a b))
unfolding reading
line_read a b few less =
    let size = short_line a b few less in
    let h : nat_lt 1024 (length (place_line a b)) ≡ false = grind (arith, nat_tests) in
    let s1 = slice_set no_words 23 (Some (Number (pos (a * 1_000)))) in
    rw (plain_text (place_line a b) (plain_line a b), h) (line_row a b ∙ ap named (read_one a (codes " Y" ++ millimetres b) no_words 23 few ((refl, refl), refl) ∙ read_last b s1 24 less))
