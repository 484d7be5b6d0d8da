-- A bracket at the end of a text.
use Rattle.std.proofs.Common.{◌≡◌, ℕ, ◌+◌, ◌-◌, ◌<◌, ◌≤◌, ◌++◌, ◌==◌, false, List, [], ◌∷◌, Some, None, option_map, length, take, get_or, refl, sym, ap, ◌∙◌, arith}
use Rattle.std.proofs.lemmas.List.{take_more}
use Rattle.std.proofs.Math.Seq.{take-length}
use Rattle.cfg_lines.specs.Said.{closed}
use Rattle.text_core.proofs.Ends.{split_last}

at_bracket : (xs : List ℕ) → closed (xs ++ 93 ∷ []) ≡ Some xs
at_bracket [] = refl
at_bracket (x ∷ []) = refl
at_bracket (x ∷ y ∷ ys) = ap (option_map (λ t. x ∷ t)) (at_bracket (y ∷ ys))

at_other : (xs : List ℕ) (b : ℕ) → (b == 93) ≡ false → closed (xs ++ b ∷ []) ≡ None
at_other [] b h = rw h refl
at_other (x ∷ []) b h = rw h refl
at_other (x ∷ y ∷ ys) b h = ap (option_map (λ t. x ∷ t)) (at_other (y ∷ ys) b h)

pub closed-bracket : (xs : List ℕ) → 1 ≤ length xs → get_or xs (length xs - 1) 0 ≡ 93 → Some (take (length xs - 1) xs) ≡ closed xs
closed-bracket xs some h = sym (at_bracket (take (length xs - 1) xs)) ∙ ap closed (rw h at (split_last xs some))

pub closed-other : (xs : List ℕ) → 1 ≤ length xs → (get_or xs (length xs - 1) 0 == 93) ≡ false → None ≡ closed xs
closed-other xs some h = sym (at_other (take (length xs - 1) xs) (get_or xs (length xs - 1) 0) h) ∙ ap closed (split_last xs some)
