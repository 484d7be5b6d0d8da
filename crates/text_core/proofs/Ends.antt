-- Blanks at the end.
use Rattle.std.proofs.Common.{◌≡◌, ℕ, ◌+◌, ◌-◌, ◌<◌, ◌≤◌, ◌++◌, ◌==◌, true, false, List, [], ◌∷◌, length, take, get_or, refl, sym, ap, ◌∙◌, arith}
use Rattle.std.proofs.lemmas.List.{take_more}
use Rattle.std.proofs.Math.Seq.{take-length}
use Rattle.text_core.specs.Bytes.{is_blank}
use Rattle.text_core.specs.Trims.{trimmed_end, before_trimmed, without_return}

pub trimmed_end-blank : (xs : List ℕ) (b : ℕ) → is_blank b ≡ true → trimmed_end (xs ++ b ∷ []) ≡ trimmed_end xs
trimmed_end-blank [] b h = rw h refl
trimmed_end-blank (x ∷ xs) b h = ap (before_trimmed x) (trimmed_end-blank xs b h)

not_empty : (b : ℕ) (xs : List ℕ) (c : ℕ) → before_trimmed b (xs ++ c ∷ []) ≡ b ∷ (xs ++ c ∷ [])
not_empty b [] c = refl
not_empty b (x ∷ xs) c = refl

pub trimmed_end-kept : (xs : List ℕ) (b : ℕ) → is_blank b ≡ false → trimmed_end (xs ++ b ∷ []) ≡ xs ++ b ∷ []
trimmed_end-kept [] b h = rw h refl
trimmed_end-kept (x ∷ xs) b h = rw (trimmed_end-kept xs b h) (not_empty x xs b)

-- a text is its front and its last byte
pub split_last : (xs : List ℕ) → 1 ≤ length xs → take (length xs - 1) xs ++ get_or xs (length xs - 1) 0 ∷ [] ≡ xs
split_last xs some = let below : length xs - 1 < length xs = omega arith in let whole : length xs - 1 + 1 ≡ length xs = omega arith in
    sym (take_more xs (length xs - 1) 0 below) ∙ rw whole (take-length xs)

pub drop_last : (xs : List ℕ) → 1 ≤ length xs → is_blank (get_or xs (length xs - 1) 0) ≡ true → trimmed_end (take (length xs - 1) xs) ≡ trimmed_end xs
drop_last xs some h = sym (trimmed_end-blank (take (length xs - 1) xs) (get_or xs (length xs - 1) 0) h) ∙ ap trimmed_end (split_last xs some)

pub keep_last : (xs : List ℕ) → 1 ≤ length xs → is_blank (get_or xs (length xs - 1) 0) ≡ false → trimmed_end xs ≡ xs
keep_last xs some h = sym (ap trimmed_end (split_last xs some)) ∙ trimmed_end-kept (take (length xs - 1) xs) (get_or xs (length xs - 1) 0) h ∙ split_last xs some

pub return-dropped : (xs : List ℕ) → without_return (xs ++ 13 ∷ []) ≡ xs
return-dropped [] = refl
return-dropped (x ∷ []) = refl
return-dropped (x ∷ y ∷ ys) = ap (λ t. x ∷ t) (return-dropped (y ∷ ys))

pub return-kept : (xs : List ℕ) (b : ℕ) → (b == 13) ≡ false → without_return (xs ++ b ∷ []) ≡ xs ++ b ∷ []
return-kept [] b h = rw h refl
return-kept (x ∷ []) b h = rw h refl
return-kept (x ∷ y ∷ ys) b h = ap (λ t. x ∷ t) (return-kept (y ∷ ys) b h)

pub drop_return : (xs : List ℕ) → 1 ≤ length xs → get_or xs (length xs - 1) 0 ≡ 13 → take (length xs - 1) xs ≡ without_return xs
drop_return xs some h = sym (return-dropped (take (length xs - 1) xs)) ∙ ap without_return (rw h at (split_last xs some))

pub keep_return : (xs : List ℕ) → 1 ≤ length xs → (get_or xs (length xs - 1) 0 == 13) ≡ false → xs ≡ without_return xs
keep_return xs some h = sym (ap without_return (sym (split_last xs some)) ∙ return-kept (take (length xs - 1) xs) (get_or xs (length xs - 1) 0) h ∙ split_last xs some)
