-- Marks that rise at each place: behind one more element they still do, where its mark is above the last one of its place.
use Rattle.std.proofs.Common.{◌≡◌, ℕ, ◌<◌, ◌≤◌, Bool, true, false, cond, List, [], ◌∷◌, ◌++◌, get_or, Option, Some, None, option_map, All, AllPairs, refl, sym, ap, subst, ◌∙◌, arith}
use Rattle.std.proofs.lemmas.Bool.Decides.{nat_tests}
use Rattle.std.proofs.lemmas.List.Elements.{All-push, All-weaker, All-nil}
use Rattle.std.proofs.lemmas.List.Quantifiers.{all_pairs_push}
use Rattle.wire_scene.specs.Scenes.{last_where}
use Rattle.plan_types.specs.Numbers.{is_above}
use Rattle.wire_scene.proofs.Lasts.{last_more, map_cond}

-- the last mark of a place
abbrev pub last_mark : {A : Type 0} → (ℕ → ℕ → A → Bool) → (A → ℕ) → ℕ → ℕ → List A → Option ℕ
last_mark is_at mark b p xs = option_map mark (last_where (is_at b p) xs)

abbrev pub IsUpTo : ℕ → Option ℕ → Type 0
IsUpTo n None = ⊥
IsUpTo n (Some last) = n ≤ last

-- the mark of an element is up to the last one of its place
abbrev IsTopped : {A : Type 0} → (ℕ → ℕ → A → Bool) → (A → ℕ) → ℕ → ℕ → Option ℕ → A → Type 0
IsTopped is_at mark b p last x = is_at b p x ≡ true → IsUpTo (mark x) last

abbrev pub AreTopped : {A : Type 0} → (ℕ → ℕ → A → Bool) → (A → ℕ) → List A → Type 0
AreTopped is_at mark xs = (b p : ℕ) → All (IsTopped is_at mark b p (last_mark is_at mark b p xs)) xs

abbrev pub IsBelow : {A : Type 0} → (ℕ → ℕ → A → Bool) → (A → ℕ) → A → A → Type 0
IsBelow is_at mark x y = (b p : ℕ) → is_at b p x ≡ true → is_at b p y ≡ true → mark x < mark y

abbrev pub Rise : {A : Type 0} → (ℕ → ℕ → A → Bool) → (A → ℕ) → List A → Type 0
Rise is_at mark xs = AllPairs (IsBelow is_at mark) xs

-- an element's mark is above the last one of its place
abbrev pub IsAbove : {A : Type 0} → (ℕ → ℕ → A → Bool) → (A → ℕ) → List A → A → Type 0
IsAbove is_at mark xs x = (b p : ℕ) → is_at b p x ≡ true → is_above (mark x) (last_mark is_at mark b p xs) ≡ true

above : (n m : ℕ) (last : Option ℕ) → IsUpTo n last → is_above m last ≡ true → n < m
above n m None up over = absurd up
above n m (Some l) up over = let less : l < m = grind (arith, nat_tests) in omega (arith, up, less)

grown : (v : Bool) (n m : ℕ) (last : Option ℕ) → IsUpTo n last → (v ≡ true → is_above m last ≡ true) → IsUpTo n (cond v (Some m) last)
grown true n m last up over = let less : n < m = above n m last up (over refl) in omega (arith, less)
grown false n m last up over = up

last_mark_more : {A : Type 0} (is_at : ℕ → ℕ → A → Bool) (mark : A → ℕ) (b p : ℕ) (xs : List A) (x : A) → last_mark is_at mark b p (xs ++ x ∷ []) ≡ cond (is_at b p x) (Some (mark x)) (last_mark is_at mark b p xs)
last_mark_more is_at mark b p xs x = ap (option_map mark) (last_more (is_at b p) xs x) ∙ map_cond mark (is_at b p x) x (last_where (is_at b p) xs)

itself : (v : Bool) (n : ℕ) (last : Option ℕ) → v ≡ true → IsUpTo n (cond v (Some n) last)
itself true n last e = omega arith
itself false n last e = cc

pub topped_none : {A : Type 0} (is_at : ℕ → ℕ → A → Bool) (mark : A → ℕ) → AreTopped is_at mark []
topped_none is_at mark b p = All-nil (IsTopped is_at mark b p None)

pub topped_more : {A : Type 0} (is_at : ℕ → ℕ → A → Bool) (mark : A → ℕ) (xs : List A) (x : A) → AreTopped is_at mark xs → IsAbove is_at mark xs x → AreTopped is_at mark (xs ++ x ∷ [])
topped_more {A} is_at mark xs x tops over b p = let last : Option ℕ = last_mark is_at mark b p xs in
    let next : Option ℕ = cond (is_at b p x) (Some (mark x)) last in
    subst (λ (o : Option ℕ). All (IsTopped is_at mark b p o) (xs ++ x ∷ [])) (sym (last_mark_more is_at mark b p xs x))
    (All-push (IsTopped is_at mark b p next) xs x
    (All-weaker (IsTopped is_at mark b p last) (IsTopped is_at mark b p next) (λ (y : A) up here. grown (is_at b p x) (mark y) (mark x) last (up here) (over b p)) xs (tops b p))
    (λ here. itself (is_at b p x) (mark x) last here))

pub rise_more : {A : Type 0} (is_at : ℕ → ℕ → A → Bool) (mark : A → ℕ) (xs : List A) (x : A) → AreTopped is_at mark xs → IsAbove is_at mark xs x → Rise is_at mark xs → Rise is_at mark (xs ++ x ∷ [])
rise_more is_at mark xs x tops over rise = all_pairs_push (IsBelow is_at mark) xs x rise
    (λ k d below b p there here. above (mark (get_or xs k d)) (mark x) (last_mark is_at mark b p xs) (tops b p k d below there) (over b p here))
