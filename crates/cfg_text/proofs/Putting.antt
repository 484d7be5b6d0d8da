-- A pin is put at its place.
use Rattle.std.proofs.Common.{◌≡◌, ℕ, ◌+◌, true, false, List, [], ◌∷◌, insert, nat_lt, cond, refl, ap, ◌∙◌, add-one}
use Rattle.cfg_text.specs.declared.wiring.Use.{Use}
use Rattle.cfg_text.specs.Wiring.{put, place_for}

further : (v : Use) (vs : List Use) (n : ℕ) (u : Use) → v ∷ insert vs n u ≡ insert (v ∷ vs) (n + 1) u
further v vs n u = rw (add-one n) refl

pub put_insert : (u : Use) (us : List Use) → put u us ≡ insert us (place_for u.line us) u
put_insert u [] = refl
put_insert u (v ∷ vs) = elim (nat_lt u.line v.line) as (λ b. (cond b (u ∷ v ∷ vs) (v ∷ put u vs)) ≡ insert (v ∷ vs) (cond b 0 (place_for u.line vs + 1)) u) [
  | true ↦ refl
  | false ↦ ap (λ t. v ∷ t) (put_insert u vs) ∙ further v vs (place_for u.line vs) u
]
