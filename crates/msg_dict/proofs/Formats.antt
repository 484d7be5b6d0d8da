-- Lemmas on the words of a format.
use Rattle.std.proofs.Common.{◌≡◌, ℕ, ◌+◌, ◌-◌, ◌<◌, Bool, false, ◌&&◌, List, [], ◌∷◌, ◌++◌, length, take, drop, get_or, ap, sym, ◌∙◌, arith, inl, inr}
use Rattle.std.specs.Prelude.{slice_range}
use Rattle.std.proofs.lemmas.List.{drop_more}
use Rattle.std.proofs.lemmas.Bool.Decides.{eqb_tells}
use Rattle.msg_dict.specs.Format.{is_word, are_words}

pub words_blank : (w : List ℕ) (first : Bool) (word : List ℕ) (i : ℕ) (all : Bool) → i < length w → are_words first word (drop i w) ≡ all → get_or w i 0 ≡ 32
    → (is_word first word && are_words false [] (drop (i + 1) w)) ≡ all
words_blank w first word i all h e t =
    elim (eqb_tells (get_or w i 0) 32) [
      | inl p ↦
          let step = ap (are_words first word) (drop_more w i 0 h) in
          sym (rw p.0 at step) ∙ e
      | inr p ↦ absurd (p.1 t)
    ]

pub words_more : (w : List ℕ) (first : Bool) (word : List ℕ) (i : ℕ) (all : Bool) → i < length w → are_words first word (drop i w) ≡ all → (get_or w i 0 ≡ 32 → ⊥)
    → are_words first (word ++ get_or w i 0 ∷ []) (drop (i + 1) w) ≡ all
words_more w first word i all h e t =
    elim (eqb_tells (get_or w i 0) 32) [
      | inl p ↦ absurd (t p.1)
      | inr p ↦
          let step = ap (are_words first word) (drop_more w i 0 h) in
          sym (rw p.0 at step) ∙ e
    ]

pub empty_range : (w : List ℕ) (i : ℕ) → slice_range w i i ≡ []
empty_range w i = let none : i - i ≡ 0 = omega arith in ap (λ k. take k (drop i w)) none
