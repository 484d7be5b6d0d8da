-- The greatest of some numbers.
use Rattle.std.proofs.Common.{◌≡◌, ℕ, zero, suc, ◌+◌, ◌<◌, ◌≤◌, max, List, [], ◌∷◌, ◌++◌, length, map, take, get_or, arith, ap, sym, ◌∙◌}
use Rattle.std.proofs.lemmas.List.{map-append, take_more}
use Rattle.plan_types.specs.Sections.{latest}
use Rattle.section_plan.proofs.Latest.{latest-push}

-- one more of them
pub latest-more : {A : Type 0} (f : A → ℕ) (xs : List A) (i : ℕ) (x : A) → i < length xs → x ≡ get_or xs i x → latest (map f (take (i + 1) xs)) ≡ max (latest (map f (take i xs))) (f x)
latest-more f xs i x h is =
    ap (λ ys. latest (map f ys)) (take_more xs i x h) ∙ ap latest (map-append f (take i xs) (get_or xs i x ∷ [])) ∙ latest-push (map f (take i xs)) (f (get_or xs i x)) ∙ ap (λ y. max (latest (map f (take i xs))) (f y)) (sym is)

pub latest-next : {A : Type 0} (f : A → ℕ) (xs : List A) (i : ℕ) (x : A) (last new : ℕ) → i < length xs → x ≡ get_or xs i x → last ≡ latest (map f (take i xs)) → new ≡ max last (f x) → new ≡ latest (map f (take (i + 1) xs))
latest-next f xs i x last new h is before next = next ∙ ap (λ n. max n (f x)) before ∙ sym (latest-more f xs i x h is)

-- it is at least each of them, and at most what all of them are at most
pub latest-from : {A : Type 0} (f : A → ℕ) (xs : List A) (i n : ℕ) → i < length xs → ((d : A) → n ≤ f (get_or xs i d)) → n ≤ latest (map f xs)
latest-from f [] i n h here = absurd (omega arith)
latest-from f (x ∷ xs) zero n h here = let l = here x in omega arith
latest-from f (x ∷ xs) (suc i) n h here = let l = latest-from f xs i n (omega arith) (λ d. here d) in omega arith

pub latest-within : {A : Type 0} (f : A → ℕ) (xs : List A) (n : ℕ) → ((i : ℕ) (d : A) → i < length xs → f (get_or xs i d) ≤ n) → latest (map f xs) ≤ n
latest-within f [] n all = omega arith
latest-within f (x ∷ xs) n all = let h = all 0 x (omega arith) in let l = latest-within f xs n (λ i d k. all (suc i) d (omega arith)) in omega arith
