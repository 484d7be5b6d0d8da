-- What holds no letter has no words.
use Rattle.std.proofs.Common.{◌≡◌, ℕ, ◌≤◌, Bool, true, false, List, [], ◌∷◌, length, arith, refl, sym, ◌∙◌, Option, inl, inr}
use Rattle.std.proofs.lemmas.Bool.{cases_Bool}
use Rattle.std.proofs.lemmas.Bool.Decides.{nat_tests}
use Rattle.std.proofs.lemmas.Grind.{common_steps}
use Rattle.gcode_text.specs.declared.word.Given.{Given}
use Rattle.text_core.specs.Bytes.{behind, without, is_digit, is_sign, is_point, is_letter}
use Rattle.gcode_text.specs.Blanks.{is_blank}
use Rattle.text_core.specs.Numbers.{parts_of, rest_of}
use Rattle.gcode_text.specs.Lines.{row, HasWordsOf}

digit_is_none : (b : ℕ) → is_digit b ≡ true → is_letter b ≡ false
digit_is_none b h = grind (arith, nat_tests)

blank_is_none : (b : ℕ) → is_blank b ≡ true → is_letter b ≡ false
blank_is_none b h = grind (arith, nat_tests)

sign_is_none : (b : ℕ) → is_sign b ≡ true → is_letter b ≡ false
sign_is_none b h = grind (arith, nat_tests)

point_is_none : (b : ℕ) → is_point b ≡ true → is_letter b ≡ false
point_is_none b h = grind (arith, nat_tests)

-- a byte that is no letter
row-passed : (bare : Bool) (slots : List (Option Given)) (b : ℕ) (bs : List ℕ) → is_letter b ≡ false → row bare slots (b ∷ bs) ≡ row bare slots bs
row-passed bare slots b bs h = rw h refl

pub row-behind : (test : ℕ → Bool) → ((b : ℕ) → test b ≡ true → is_letter b ≡ false) → (text : List ℕ) → HasWordsOf text (behind test text)
row-behind test none [] bare slots = refl
row-behind test none (b ∷ bs) bare slots = elim (cases_Bool (test b)) [
  | inl h ↦ rw h (row-behind test none bs bare slots ∙ sym (row-passed bare slots b bs (none b h)))
  | inr h ↦ rw h refl
]

pub row-without : (test : ℕ → Bool) → ((b : ℕ) → test b ≡ true → is_letter b ≡ false) → (text : List ℕ) → HasWordsOf text (without test text)
row-without test none [] bare slots = refl
row-without test none (b ∷ bs) bare slots = elim (cases_Bool (test b)) [
  | inl h ↦ rw h (sym (row-passed bare slots b bs (none b h)))
  | inr h ↦ rw h refl
]

pub length-behind : (test : ℕ → Bool) (text : List ℕ) → length (behind test text) ≤ length text
length-behind test [] = omega arith
length-behind test (b ∷ bs) = grind (arith, common_steps, length-behind test bs)

pub length-without : (test : ℕ → Bool) (text : List ℕ) → length (without test text) ≤ length text
length-without test [] = omega arith
length-without test (b ∷ bs) = grind (arith, common_steps)

pub row-blanks : (text : List ℕ) → HasWordsOf text (behind is_blank text)
row-blanks text = row-behind is_blank blank_is_none text

row-rest_of : (text : List ℕ) → HasWordsOf text (rest_of text)
row-rest_of [] bare slots = refl
row-rest_of (b ∷ bs) bare slots = elim (cases_Bool (is_point b)) [
  | inl h ↦ rw h (row-behind is_digit digit_is_none bs bare slots ∙ sym (row-passed bare slots b bs (point_is_none b h)))
  | inr h ↦ rw h refl
]

pub row-number : (text : List ℕ) → HasWordsOf text (parts_of text).rest
unfolding parts_of
row-number text bare slots = row-rest_of (behind is_digit (without is_sign text)) bare slots
    ∙ row-behind is_digit digit_is_none (without is_sign text) bare slots ∙ row-without is_sign sign_is_none text bare slots

length-rest_of : (text : List ℕ) → length (rest_of text) ≤ length text
length-rest_of [] = omega arith
length-rest_of (b ∷ bs) = elim (cases_Bool (is_point b)) [
  | inl h ↦ rw h (omega (arith, length-behind is_digit bs))
  | inr h ↦ rw h (omega arith)
]

pub length-number : (text : List ℕ) → length (parts_of text).rest ≤ length text
unfolding parts_of
length-number text = omega (arith, length-rest_of (behind is_digit (without is_sign text)), length-behind is_digit (without is_sign text), length-without is_sign text)
