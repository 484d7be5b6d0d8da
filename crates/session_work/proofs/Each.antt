-- Facts at each place of two or three lists.
use Rattle.std.proofs.Common.{rules, Result, Ok, Err, true, is_ok, is_err, IfOk, IfSome, Some, map, ◌≡◌, ◌≢◌, ℕ, zero, suc, ◌+◌, ◌<◌, ◌≤◌, List, [], ◌∷◌, ◌++◌, length, get_or, set, remove, swap_remove, sym, subst, ap, ◌∙◌, arith, refl}
use Rattle.std.specs.Result.{result_ok}
use Rattle.std.proofs.lemmas.List.{get_or-set_other, get_or-set_same, get_or_append_left, get_or_push, length-append}
use Rattle.session_work.specs.Rows.{Each, EachFrom, item, copies}
use borrow.Author.Count.{below_more}

-- the places behind are as they were
pub same_next : {B : Type 0} (old now : List B) (i : ℕ) (new : B)
    → ((j : ℕ) (p : B) → i ≤ j → get_or now j p ≡ get_or old j p)
    → (j : ℕ) (p : B) → i + 1 ≤ j → get_or (set now i new) j p ≡ get_or old j p
same_next old now i new same j p above = let apart : j ≢ i = (λ e. omega (arith, e)) in let h : i ≤ j = omega arith in
    get_or-set_other now i j new p apart ∙ same j p h

module _ {A B : Type 0} where
  -- place i is written
  pub done_next : (Q : ℕ → A → B → B → Type 0) (xs : List A) (old now : List B) (i : ℕ) (new : B) → i < length now
      → ((j : ℕ) (x : A) (p q : B) → j < i → Q j (get_or xs j x) (get_or old j p) (get_or now j q))
      → ((x : A) (p : B) → Q i (get_or xs i x) (get_or old i p) new)
      → (j : ℕ) (x : A) (p q : B) → j < i + 1 → Q j (get_or xs j x) (get_or old j p) (get_or (set now i new) j q)
  done_next Q xs old now i new inside done here j x p q below =
      let P : ℕ → Type 0 = λ k. (x : A) (p q : B) → Q k (get_or xs k x) (get_or old k p) (get_or (set now i new) k q) in
      let earlier : (k : ℕ) → k < i → P k = λ k low x p q. let apart : k ≢ i = (λ e. omega (arith, e)) in
      subst (λ y. Q k (get_or xs k x) (get_or old k p) y) (sym (get_or-set_other now i k new q apart)) (done k x p q low) in
      let at : P i = λ x p q. subst (λ y. Q i (get_or xs i x) (get_or old i p) y) (sym (get_or-set_same now i new q inside)) (here x p) in
      below_more P i earlier at j below x p q

  -- the last of the places, and the others
  pub each_last : (P : A → B → Type 0) (xs : List A) (ys : List B) (y : B) (x : A) → Each P xs (ys ++ y ∷ []) → P (get_or xs (length ys) x) y
  each_last P xs ys y x all = let long = length-append ys (y ∷ []) in let inside : length ys < length (ys ++ y ∷ []) = omega arith in
      subst (λ z. P (get_or xs (length ys) x) z) (get_or_push ys y y (length ys) refl) (all (length ys) x y inside)

  pub each_front : (P : A → B → Type 0) (xs : List A) (ys : List B) (y : B) → Each P xs (ys ++ y ∷ []) → Each P xs ys
  each_front P xs ys y all j a b below = let long = length-append ys (y ∷ []) in let inside : j < length (ys ++ y ∷ []) = omega arith in
      subst (λ z. P (get_or xs j a) z) (get_or_append_left ys (y ∷ []) b j below) (all j a b inside)

  -- one place more
  pub each_push : (P : A → B → Type 0) (xs : List A) (ys : List B) (x : A) (y : B) → length xs ≡ length ys → Each P xs ys → P x y → Each P (xs ++ x ∷ []) (ys ++ y ∷ [])
  each_push P xs ys x y same all here j a b below =
      let long = length-append ys (y ∷ []) in let Q : ℕ → Type 0 = λ k. (a : A) (b : B) → P (get_or (xs ++ x ∷ []) k a) (get_or (ys ++ y ∷ []) k b) in
      let earlier : (k : ℕ) → k < length ys → Q k = λ k low a b. let l : k < length xs = omega arith in
      subst (λ (z : A × B). P z.0 z.1) (λ i. (sym (get_or_append_left xs (x ∷ []) a k l) i, sym (get_or_append_left ys (y ∷ []) b k low) i)) (all k a b low) in
      let last : Q (length ys) = λ a b. subst (λ (z : A × B). P z.0 z.1) (λ i. (sym (get_or_push xs x a (length ys) same) i, sym (get_or_push ys y b (length ys) refl) i)) here in
      below_more Q (length ys) earlier last j (omega arith) a b

-- behind the first
pub get_or_next : {A : Type 0} (x : A) (xs : List A) (j : ℕ) (d : A) → get_or (x ∷ xs) (j + 1) d ≡ get_or xs j d
get_or_next x xs j d = let e : j + 1 ≡ suc j = omega arith in ap (λ l. get_or (x ∷ xs) l d) e

-- the item at a place
pub item_at : {A : Type 0} (xs : List A) (j : ℕ) (d : A) → j < length xs → item j xs ≡ get_or xs j d ∷ []
item_at [] j d h = absurd (omega (arith, h))
item_at (x ∷ xs) zero d h = refl
item_at (x ∷ xs) (suc j) d h = item_at xs j d (omega (arith, h))

pub item_copies : {A : Type 0} (n : ℕ) (x : A) (j : ℕ) → j < n → item j (copies n x) ≡ x ∷ []
item_copies zero x j h = absurd (omega (arith, h))
item_copies (suc n) x zero h = refl
item_copies (suc n) x (suc j) h = item_copies n x j (omega (arith, h))

pub item_push_before : {A : Type 0} (xs : List A) (y : A) (j : ℕ) → j < length xs → item j (xs ++ y ∷ []) ≡ item j xs
item_push_before [] y j h = absurd (omega (arith, h))
item_push_before (x ∷ xs) y zero h = refl
item_push_before (x ∷ xs) y (suc j) h = item_push_before xs y j (omega (arith, h))

pub item_push_at : {A : Type 0} (xs : List A) (y : A) (j : ℕ) → j ≡ length xs → item j (xs ++ y ∷ []) ≡ y ∷ []
item_push_at [] y zero h = refl
item_push_at [] y (suc j) h = absurd (omega (arith, h))
item_push_at (x ∷ xs) y zero h = absurd (omega (arith, h))
item_push_at (x ∷ xs) y (suc j) h = item_push_at xs y j (omega (arith, h))

pub item_past : {A : Type 0} (xs : List A) (j : ℕ) → length xs ≤ j → item j xs ≡ []
item_past [] j h = refl
item_past (x ∷ xs) zero h = absurd (omega (arith, h))
item_past (x ∷ xs) (suc j) h = item_past xs j (omega (arith, h))

-- the item that was pushed stands at the end
pub pushed_here : {A : Type 0} (xs ys : List A) (y z : A) (i : ℕ) → length xs ≡ i → ys ≡ xs ++ y ∷ [] → z ≡ get_or ys i z → z ≡ y
pushed_here xs ys y z i long more is = is ∙ (ap (λ zs. get_or zs i z) more ∙ get_or_push xs y z i long)

-- one more with this number
pub more_of : {A : Type 0} (number : A → ℕ) (k : ℕ) (xs : List A) (y : A) → ((j : ℕ) (x : A) → j < length xs → number (get_or xs j x) ≡ k) → number y ≡ k → (j : ℕ) (x : A) → j < length (xs ++ y ∷ []) → number (get_or (xs ++ y ∷ []) j x) ≡ k
more_of number k xs y all here j x low =
    let long = length-append xs (y ∷ []) in
    below_more (λ i. number (get_or (xs ++ y ∷ []) i x) ≡ k) (length xs) (λ i l. subst (λ z. number z ≡ k) (sym (get_or_append_left xs (y ∷ []) x i l)) (all i x l)) (subst (λ z. number z ≡ k) (sym (get_or_push xs y x (length xs) refl)) here) j (omega arith)

-- each of some copies has the number of the one
pub of_copies : {A : Type 0} (number : A → ℕ) (k n : ℕ) (x : A) → number x ≡ k → (j : ℕ) (y : A) → j < length (copies n x) → number (get_or (copies n x) j y) ≡ k
of_copies number k zero x is j y low = absurd (omega (arith, low))
of_copies number k (suc n) x is zero y low = is
of_copies number k (suc n) x is (suc j) y low = of_copies number k n x is j y (omega (arith, low))

pub length-copies : {A : Type 0} (n : ℕ) (x : A) → length (copies n x) ≡ n
length-copies zero x = refl
length-copies (suc n) x = ap suc (length-copies n x)

-- each place in turn is brought from one state to the next
module _ {B : Type 0} (P R : ℕ → B → Type 0) (now : List B) (i : ℕ) (new : B) (inside : i < length now) where
  pub some_done : ((j : ℕ) (q : B) → j < i → P j (get_or now j q)) → P i new → (j : ℕ) (q : B) → j < i + 1 → P j (get_or (set now i new) j q)
  some_done done here j q low =
      below_more (λ k. (q : B) → P k (get_or (set now i new) k q)) i
      (λ k l q. let apart : k ≢ i = (λ e. omega (arith, e, l)) in subst (P k) (sym (get_or-set_other now i k new q apart)) (done k q l))
      (λ q. subst (P i) (sym (get_or-set_same now i new q inside)) here) j low q

  pub some_left : ((j : ℕ) (q : B) → i ≤ j → j < length now → R j (get_or now j q)) → (j : ℕ) (q : B) → i + 1 ≤ j → j < length now → R j (get_or (set now i new) j q)
  some_left left j q above low = let apart : j ≢ i = (λ e. omega (arith, e, above)) in subst (R j) (sym (get_or-set_other now i j new q apart)) (left j q (omega (arith, above)) low)

-- a place is written with what is the same under f
pub map-set_same : {A B : Type 0} (f : A → B) (xs : List A) (i : ℕ) (y d : A) → i < length xs → f y ≡ f (get_or xs i d) → map f (set xs i y) ≡ map f xs
map-set_same f [] i y d low e = absurd (omega (arith, low))
map-set_same f (x ∷ xs) zero y d low e = ap (λ b. b ∷ map f xs) e
map-set_same f (x ∷ xs) (suc i) y d low e = ap (λ bs. f x ∷ bs) (map-set_same f xs i y d (omega (arith, low)) e)

-- what is well did not fail
pub never_failed : {T E : Type 0} (r : Result T E) → is_ok r ≡ true → is_err r ≡ true → ⊥
never_failed (Ok x) well failed = search rules
never_failed (Err e) well failed = search rules

-- what is kept of a result that is well
pub of_ok : {T E : Type 0} (r : Result T E) (x : T) (P : T → Type 0) → Some x ≡ result_ok r → IfOk r P → P x
of_ok (Ok y) x P is h = subst (λ o. IfSome o P) (sym is) h
of_ok (Err e) x P is h = subst (λ o. IfSome o P) (sym is) tt

-- what is left of a list of one
pub one_left : {A : Type 0} (xs : List A) (x : A) → length xs ≡ 1 → swap_remove xs 0 x ≡ remove xs 0
one_left [] x h = absurd (omega (arith, h))
one_left (y ∷ []) x h = refl
one_left (y ∷ z ∷ zs) x h = absurd (omega (arith, h))
