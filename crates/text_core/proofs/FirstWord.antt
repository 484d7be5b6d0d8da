-- The first word of a text, and what stands behind it.
use Rattle.std.proofs.Common.{◌≡◌, ℕ, ◌+◌, ◌-◌, ◌<◌, ◌≤◌, true, false, List, [], ◌∷◌, length, take, drop, refl, ap, inl, inr, arith, sym, ◌∙◌}
use Rattle.std.proofs.lemmas.Bool.{cases_Bool}
use Rattle.std.proofs.lemmas.Grind.{common_steps}
use Rattle.std.proofs.lemmas.List.{length-drop}
use Rattle.std.proofs.Math.Seq.{take-length}
use Rattle.text_core.specs.Bytes.{is_blank, front, behind, begins}
use Rattle.text_core.specs.Lines.{with_first}
use Rattle.text_core.specs.Words.{is_inside, words_of}
use Rattle.text_core.proofs.FirstLine.{whole_take}

same_front : (b : ℕ) (bs : List ℕ) → is_blank b ≡ false → behind is_blank (b ∷ bs) ≡ b ∷ bs
same_front b bs h = rw h refl

-- blanks at the front change nothing
past_blanks : (text : List ℕ) → words_of (behind is_blank text) ≡ words_of text
past_blanks [] = refl
past_blanks (b ∷ bs) = elim (cases_Bool (is_blank b)) [
  | inl h ↦ rw h (past_blanks bs)
  | inr h ↦ ap words_of (same_front b bs h)
]

-- what is left behind the blanks begins with a byte of a word
begins_inside : (text : List ℕ) (b : ℕ) (bs : List ℕ) → behind is_blank text ≡ b ∷ bs → is_blank b ≡ false
begins_inside [] b bs e = cc
begins_inside (c ∷ cs) b bs e = grind (arith, common_steps, begins_inside cs b bs)

pub taken : (text : List ℕ) → take (length (front is_inside text)) text ≡ front is_inside text
taken [] = refl
taken (b ∷ bs) = grind (arith, common_steps, taken bs)

-- a byte of a word before others that are words
first_joined : (b : ℕ) (bs : List ℕ) (words : List (List ℕ)) → is_blank b ≡ false → begins is_inside bs ≡ true → words ≡ words_of bs → words_of (b ∷ bs) ≡ with_first b words
first_joined b bs words h inside is = grind (arith, common_steps)

first_alone : (b : ℕ) (bs : List ℕ) → is_blank b ≡ false → begins is_inside bs ≡ false → words_of (b ∷ bs) ≡ (b ∷ []) ∷ words_of bs
first_alone b bs h inside = grind (arith, common_steps)

-- a text that begins with no blank has the bytes before its first blank as its first word
first_of : (b : ℕ) (bs : List ℕ) → is_blank b ≡ false → words_of (b ∷ bs) ≡ (b ∷ front is_inside bs) ∷ words_of (drop (length (front is_inside bs)) bs)
first_of b [] h = rw h refl
first_of b (c ∷ cs) h = elim (cases_Bool (is_blank c)) [
  | inl blank ↦ first_alone b (c ∷ cs) h (rw blank refl) ∙ (let none : front is_inside (c ∷ cs) ≡ [] = rw blank refl in rw none refl)
  | inr inside ↦ first_joined b (c ∷ cs) (words_of (c ∷ cs)) h (rw inside refl) refl ∙ ap (with_first b) (first_of c cs inside) ∙ (let some : front is_inside (c ∷ cs) ≡ c ∷ front is_inside cs = rw inside refl in rw some refl)
]

pub next-none : (text words : List ℕ) → words ≡ behind is_blank text → length words ≡ 0 → words_of text ≡ []
next-none text [] is none = sym (past_blanks text) ∙ ap words_of (sym is)
next-none text (b ∷ bs) is none = absurd (omega (arith, none))

pub next-some : (text words : List ℕ) (n : ℕ) → words ≡ behind is_blank text → 0 < length words → n ≡ length (front is_inside words) → n ≤ length words
    → words_of text ≡ take n words ∷ words_of (take (length words - n) (drop n words))
next-some text [] n is some count short = absurd (omega arith)
next-some text (b ∷ bs) n is some count short = let inside : is_blank b ≡ false = begins_inside text b bs (sym is) in
    let whole : front is_inside (b ∷ bs) ≡ b ∷ front is_inside bs = rw inside refl in
    let first : take n (b ∷ bs) ≡ b ∷ front is_inside bs = rw count (taken (b ∷ bs)) ∙ whole in
    let rest : take (length (b ∷ bs) - n) (drop n (b ∷ bs)) ≡ drop (length (front is_inside bs)) bs = whole_take (b ∷ bs) n short ∙ rw (count, whole) refl in
    sym (past_blanks text) ∙ ap words_of (sym is) ∙ first_of b bs inside ∙ rw (first, rest) refl

behind_short : (text : List ℕ) → length (behind is_blank text) ≤ length text
behind_short [] = omega arith
behind_short (b ∷ bs) = elim (cases_Bool (is_blank b)) [
  | inl h ↦ rw h (let later = behind_short bs in omega arith)
  | inr h ↦ rw h (omega arith)
]

pub next-shorter : (text words : List ℕ) (n : ℕ) → words ≡ behind is_blank text → 0 < length words → n ≡ length (front is_inside words) → n ≤ length words
    → length (take (length words - n) (drop n words)) < length text
next-shorter text [] n is some count short = absurd (omega arith)
next-shorter text (b ∷ bs) n is some count short =
    let inside : is_blank b ≡ false = begins_inside text b bs (sym is) in
    let whole : front is_inside (b ∷ bs) ≡ b ∷ front is_inside bs = rw inside refl in
    let some_count : length (front is_inside (b ∷ bs)) ≡ length (front is_inside bs) + 1 = ap length whole ∙ omega arith in
    let same : length (take (length (b ∷ bs) - n) (drop n (b ∷ bs))) ≡ length (drop n (b ∷ bs)) = ap length (whole_take (b ∷ bs) n short) in
    let left = length-drop n (b ∷ bs) in
    let all : length (b ∷ bs) ≡ length (behind is_blank text) = ap length is in
    let most = behind_short text in
    omega arith
