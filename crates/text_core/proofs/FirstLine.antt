-- The first line of a text, and the lines behind it.
use Rattle.std.proofs.Common.{◌≡◌, ℕ, suc, ◌+◌, ◌-◌, ◌≤◌, ◌<◌, ◌==◌, min, Bool, true, false, List, [], ◌∷◌, length, take, drop, refl, sym, ap, ◌∙◌, arith, inl, inr, rules, add-one}
use Rattle.std.proofs.lemmas.Bool.{cases_Bool, cases_lt}
use Rattle.std.proofs.lemmas.List.{length-drop}
use Rattle.std.proofs.lemmas.Grind.{common_steps}
use Rattle.std.proofs.Math.Seq.{take-length, drop-length}
use Rattle.std.proofs.Math.ListN.{drop_of_length-le}
use Rattle.text_core.specs.Bytes.{before}
use Rattle.text_core.specs.Lines.{with_first, lines_of}

-- the last line, or one with a line behind it
pub first_of : (b : ℕ) (bs : List ℕ) → lines_of (b ∷ bs) ≡ before 10 (b ∷ bs) ∷ lines_of (drop (suc (length (before 10 (b ∷ bs)))) (b ∷ bs))
first_of b [] = elim (cases_Bool (b == 10)) [ inl h ↦ rw h refl | inr h ↦ rw h refl ]
first_of b (c ∷ cs) = elim (cases_Bool (b == 10)) [
  | inl h ↦ rw h refl
  | inr h ↦ rw h (ap (with_first b) (first_of c cs))
]

pub whole_take : (text : List ℕ) (m : ℕ) → m ≤ length text → take (length text - m) (drop m text) ≡ drop m text
whole_take text m h = let e : length text - m ≡ length (drop m text) = sym (length-drop m text) in rw e (take-length (drop m text))

pub rest_is : (text : List ℕ) (n m : ℕ) → n ≤ length text → m ≡ min (n + 1) (length text) → take (length text - m) (drop m text) ≡ drop (suc n) text
rest_is text n m h is = whole_take text m (omega arith) ∙ elim (cases_lt n (length text)) [
  | inl below ↦ (let e : m ≡ suc n = omega arith in ap (λ k. drop k text) e)
  | inr above ↦ (let e : m ≡ length text = omega arith in rw (e, drop-length text) (sym (drop_of_length-le text {i = suc n} (omega arith))))
]

before_length : (text : List ℕ) → length (before 10 text) ≤ length text
before_length [] = omega arith
before_length (b ∷ bs) = grind (arith, common_steps, before_length bs)

pub lines_are : (text : List ℕ) (line : List ℕ) (m : ℕ) → 0 < length text → line ≡ before 10 text → m ≡ min (length line + 1) (length text)
    → lines_of text ≡ line ∷ lines_of (take (length text - m) (drop m text))
lines_are [] line m some is next = absurd (omega arith)
lines_are (b ∷ bs) line m some is next = rw is (rw (rest_is (b ∷ bs) (length (before 10 (b ∷ bs))) m (before_length (b ∷ bs)) (rw is at next)) (first_of b bs))
