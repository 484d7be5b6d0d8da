-- Written lines, read back word by word.
use Rattle.std.proofs.Common.{◌≡◌, ◌∙◌, ℕ, ◌/◌, ◌==◌, Bool, true, false, cond, List, [], ◌∷◌, ◌++◌, length, refl, ap, sym, arith, inl, inr, ◌⊎◌, Ok, Err}
use Rattle.std.specs.Prelude.{◌&&◌, int_lt, nat_lt, decimal, ℤ, pos, Option, Some, None, Result, not, slice_set, unsigned_abs}
use Rattle.laws_board.proofs.Names.{nat_tests}
use Rattle.text_core.specs.Bytes.{before, behind, ends_or_begins, is_digit, is_letter}
use Rattle.text_core.specs.Numbers.{number_at}
use Rattle.gcode_text.specs.Blanks.{is_blank}
use Rattle.gcode_text.specs.Lines.{◌>>=◌, given_at, number_given, reading, reading_of_text, row, text_of}
use Rattle.gcode_text.specs.declared.fault.FaultKind.{FaultKind}
use Rattle.gcode_text.specs.declared.word.Given.{Given}
use Rattle.gcode_text.specs.declared.word.Given.TheVariants.{Number}
use Rattle.gcode_text.specs.declared.word.Word.{Word}
use Rattle.gcode_text.proofs.Rows.{row-number}
use Rattle.bed_mesh.specs.Numbers.{millionths, six_digits, unsigned_text}
use Rattle.laws_report.proofs.meshes.Digits.{AreDigits, IsBehind, behind_number, decimal_digits, number_back, six_are_digits}

-- a word begins behind a number and blanks, or nothing does
abbrev pub IsNext : List ℕ → Type 0
IsNext rest = IsBehind rest × (ends_or_begins is_letter (behind is_blank rest) ≡ true)

given_by : (z : ℤ) (rest : List ℕ) → IsNext rest → (r : Option (ℤ × List ℕ)) → (r ≡ Some (z, rest)) ⊎ (r ≡ None) → (g : Given) → number_given r ≡ Ok g → g ≡ Number z
given_by z rest n r (inl some) g h = let e : number_given r ≡ Ok (Number z) = rw (some, n.1) refl in (let f = sym e ∙ h in cc)
given_by z rest n r (inr none) g h = (let e = rw none at h in absurd cc)

-- a number in a row of words
pub bound : {A B : Type 0} (r : Result A FaultKind) (f : A → Result B FaultKind) (w : B) → (r >>= f) ≡ Ok w → (x : A) × (r ≡ Ok x) × (f x ≡ Ok w)
bound (Ok x) f w h = (x, refl, h)
bound (Err kind) f w h = absurd cc

pub number_read : (z : ℤ) (rest : List ℕ) (slots w : List (Option Given)) (place : ℕ) → IsNext rest
    → (given_at false (millionths z ++ rest) >>= λ given. row false (slice_set slots place (Some given)) (millionths z ++ rest)) ≡ Ok w
    → row false (slice_set slots place (Some (Number z))) rest ≡ Ok w
unfolding given_at
number_read z rest slots w place n h =
    let b = bound (number_given (number_at 9 (millionths z ++ rest))) (λ given. row false (slice_set slots place (Some given)) (millionths z ++ rest)) w h in
    let g : b.0 ≡ Number z = given_by z rest n (number_at 9 (millionths z ++ rest)) (number_back z rest n.0) b.0 b.1 in
    let e = row-number (millionths z ++ rest) false (slice_set slots place (Some (Number z))) in
    ap (λ (t : List ℕ). row false (slice_set slots place (Some (Number z))) t) (sym (behind_number z rest n.0)) ∙ e ∙ ap (λ (y : Given). row false (slice_set slots place (Some y)) (millionths z ++ rest)) (sym g) ∙ b.2

-- bytes that begin no comment and end no line
abbrev pub is_plain : ℕ → Bool
is_plain b = not (b == 10) && (not (b == 42) && not (b == 59))

abbrev pub ArePlain : List ℕ → Type 0
ArePlain [] = Unit {0}
ArePlain (b ∷ bs) = (is_plain b ≡ true) × ArePlain bs

pub plain_both : (a b : List ℕ) → ArePlain a → ArePlain b → ArePlain (a ++ b)
plain_both [] b h k = k
plain_both (c ∷ a) b h k = (h.0, plain_both a b h.1 k)

plain_digit : (d : ℕ) → is_digit d ≡ true → is_plain d ≡ true
plain_digit d h = grind (arith, nat_tests)

pub plain_digits : (ds : List ℕ) → AreDigits ds → ArePlain ds
plain_digits [] h = tt
plain_digits (d ∷ ds) h = (plain_digit d h.0, plain_digits ds h.1)

plain_unsigned : (n : ℕ) (six : List ℕ) → AreDigits six → ArePlain (decimal n ++ 46 ∷ six)
plain_unsigned n six h = plain_both (decimal n) (46 ∷ six) (plain_digits (decimal n) (decimal_digits n)) (refl, plain_digits six h)

pub plain_number : (z : ℤ) → ArePlain (millionths z)
unfolding millionths
plain_number z = go (int_lt z (pos 0)) where
  go : (b : Bool) → ArePlain (cond b (45 ∷ unsigned_text (unsigned_abs z)) (unsigned_text (unsigned_abs z)))
  go true = (refl, plain_unsigned (unsigned_abs z / 1_000_000) (six_digits (unsigned_abs z)) (six_are_digits (unsigned_abs z)))
  go false = plain_unsigned (unsigned_abs z / 1_000_000) (six_digits (unsigned_abs z)) (six_are_digits (unsigned_abs z))

not_comment : (b : ℕ) → is_plain b ≡ true → (b == 59) ≡ false
not_comment b h = grind (arith, nat_tests)

not_star : (b : ℕ) → is_plain b ≡ true → (b == 42) ≡ false
not_star b h = grind (arith, nat_tests)

uncommented : (line : List ℕ) → ArePlain line → before 59 line ≡ line
uncommented [] h = refl
uncommented (b ∷ line) h = let e = not_comment b h.0 in rw e (ap (λ (l : List ℕ). b ∷ l) (uncommented line h.1))

unstarred : (line : List ℕ) → ArePlain line → before 42 line ≡ line
unstarred [] h = refl
unstarred (b ∷ line) h = let e = not_star b h.0 in rw e (ap (λ (l : List ℕ). b ∷ l) (unstarred line h.1))

pub plain_text : (line : List ℕ) → ArePlain line → text_of line ≡ line
plain_text line h = ap (before 42) (uncommented line h) ∙ unstarred line h

if_short : {A : Type 0} (b : Bool) (kind : FaultKind) (r : Result A FaultKind) (w : A) → cond b (Err kind) r ≡ Ok w → r ≡ Ok w
if_short true kind r w h = absurd cc
if_short false kind r w h = h

-- a line that is read is its words
pub plain_reading : (line : List ℕ) (w : Word) → ArePlain line → reading line ≡ Ok w → reading_of_text (behind is_blank line) ≡ Ok w
unfolding reading
plain_reading line w p h = rw (plain_text line p) at (if_short (nat_lt 1024 (length line)) _ _ w h)
