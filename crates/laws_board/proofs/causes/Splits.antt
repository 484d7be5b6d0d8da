-- Lists that begin alike.
use Rattle.std.proofs.Common.{◌≡◌, ◌<◌, ◌≤◌, List, [], ◌∷◌, ◌++◌, length, refl, ap, ◌∙◌, arith}

pub split_in : {A : Type 0} (b xs front rest : List A) (c : A) → b ++ xs ≡ front ++ c ∷ rest → length front < length b → (r : List A) × (b ≡ front ++ c ∷ r) × (rest ≡ r ++ xs)
split_in [] xs front rest c e h = absurd (omega arith)
split_in (x ∷ b) xs [] rest c e h =
    let same : x ≡ c = cc in
    (b, ap (λ y. y ∷ b) same, cc)
split_in (x ∷ b) xs (f ∷ front) rest c e h =
    let same : x ≡ f = cc in
    let tail : b ++ xs ≡ front ++ c ∷ rest = cc in
    let next = split_in b xs front rest c tail (omega arith) in
    (next.0, ap (λ y. y ∷ b) same ∙ ap (λ ys. f ∷ ys) next.1, next.2)

pub split_behind : {A : Type 0} (b xs front rest : List A) (c : A) → b ++ xs ≡ front ++ c ∷ rest → length b ≤ length front → (f : List A) × (front ≡ b ++ f) × (xs ≡ f ++ c ∷ rest)
split_behind [] xs front rest c e h = (front, refl, e)
split_behind (x ∷ b) xs [] rest c e h = absurd (omega arith)
split_behind (x ∷ b) xs (f ∷ front) rest c e h =
    let same : f ≡ x = cc in
    let tail : b ++ xs ≡ front ++ c ∷ rest = cc in
    let next = split_behind b xs front rest c tail (omega arith) in
    (next.0, ap (λ y. y ∷ front) same ∙ ap (λ ys. x ∷ ys) next.1, next.2)
