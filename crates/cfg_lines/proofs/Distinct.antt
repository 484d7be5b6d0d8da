-- Names that differ.
use Rattle.std.proofs.Common.{◌≡◌, ◌≢◌, ℕ, suc, zero, ◌+◌, ◌<◌, inl, inr, Bool, true, false, cond, List, [], ◌∷◌, ◌++◌, length, get_or, refl, sym, subst, ◌∙◌, arith, length-append, AllPairs, true≢false}
use Rattle.std.proofs.lemmas.Bool.{cases_order}
use Rattle.std.specs.Str.{bytes_eq}
use Rattle.std.proofs.lemmas.Slice.Eq.{bytes_eq-Decides}
use Rattle.cfg_lines.specs.Items.{has_name, with_name}

-- names that differ from each other
abbrev pub AreDistinct : List (List ℕ) → Type 0
AreDistinct names = AllPairs (λ p q. p ≢ q) names

differ : (n name : List ℕ) → bytes_eq n name ≡ false → n ≢ name
differ n name none same = true≢false (sym ((bytes_eq-Decides n name).1 same) ∙ none)

first_not : (b rest : Bool) → cond b true rest ≡ false → (b ≡ false) × (rest ≡ false)
first_not true rest none = absurd (true≢false none)
first_not false rest none = (refl, none)

-- none of the names is one that isn't among them
pub not_there : (names : List (List ℕ)) (name d : List ℕ) (i : ℕ) → has_name names name ≡ false → i < length names → get_or names i d ≢ name
not_there [] name d i none below = absurd (omega arith)
not_there (n ∷ names) name d zero none below = differ n name (first_not (bytes_eq n name) (has_name names name) none).0
not_there (n ∷ names) name d (suc i) none below = not_there names name d i (first_not (bytes_eq n name) (has_name names name) none).1 (omega arith)

-- a list with one more element, at the end
at_end : (names : List (List ℕ)) (name d : List ℕ) → get_or (names ++ name ∷ []) (length names) d ≡ name
at_end [] name d = refl
at_end (n ∷ names) name d = at_end names name d

before_end : (names : List (List ℕ)) (name d : List ℕ) (i : ℕ) → i < length names → get_or (names ++ name ∷ []) i d ≡ get_or names i d
before_end [] name d i below = absurd (omega arith)
before_end (n ∷ names) name d zero below = refl
before_end (n ∷ names) name d (suc i) below = before_end names name d i (omega arith)

pub appended : (names : List (List ℕ)) (name : List ℕ) → has_name names name ≡ false → AreDistinct names → AreDistinct (names ++ name ∷ [])
appended names name none apart i j d lt within = let size : length (names ++ name ∷ []) ≡ length names + 1 = length-append names (name ∷ []) in
    let here : i < length names = omega (arith, size) in
    elim (cases_order j (length names)) [
      | inl e ↦ subst (λ k. get_or (names ++ name ∷ []) i d ≢ get_or (names ++ name ∷ []) k d) (sym e) (λ same. not_there names name d i none here (sym (before_end names name d i here) ∙ same ∙ at_end names name d))
      | inr o ↦ elim o [
        | inl below ↦ (λ same. apart i j d lt below (sym (before_end names name d i here) ∙ same ∙ before_end names name d j below))
        | inr above ↦ absurd (omega (arith, size))
      ]
    ]

pub with_name_distinct : (names : List (List ℕ)) (name : List ℕ) → AreDistinct names → AreDistinct (with_name names name)
with_name_distinct names name apart = elim (has_name names name) as (λ b. b ≡ has_name names name → AreDistinct (cond b names (names ++ name ∷ []))) [
  | true ↦ (λ e. apart)
  | false ↦ (λ e. appended names name (sym e) apart)
] refl
