-- Facts of tests, numbers, options and lists that proofs in many crates cite.
use Rattle.std.proofs.Common.{◌≡◌, ◌≢◌, ◌⊎◌, ℕ, ◌<◌, ◌≤◌, Bool, true, false, not, ◌&&◌, ◌||◌, ◌==◌, nat_lt, List, [], ◌∷◌, length, Option, Some, None, refl, sym, ◌∙◌, inl, inr, arith}
use Rattle.std.proofs.lemmas.Bool.Decides.{eqb_tells, leb_tells, nat_tests}
use Rattle.std.specs.Prelude.{nat_le}

-- a test has one answer of two
pub true_or_false : (b : Bool) → (b ≡ true) ⊎ (b ≡ false)
true_or_false true = inl refl
true_or_false false = inr refl

pub true_false : true ≡ false → ⊥
true_false e = cc

pub false_true : false ≡ true → ⊥
false_true e = cc

pub no_both : (b : Bool) → b ≡ true → b ≡ false → ⊥
no_both b x y = cc

pub true_and_false : {x : Bool} → x ≡ true → x ≡ false → ⊥
true_and_false e f = cc

pub not_true : (b : Bool) → not b ≡ true → b ≡ false
not_true true h = cc
not_true false h = refl

pub not_not : (x : Bool) → not (not x) ≡ x
not_not true = refl
not_not false = refl

-- both tests hold where their conjunction does, and neither where their disjunction doesn't
pub both_parts : (p q : Bool) → (p && q) ≡ true → (p ≡ true) × (q ≡ true)
both_parts true q e = (refl, e)
both_parts false q e = cc

pub first_of_both : (a b : Bool) → (a && b) ≡ true → a ≡ true
first_of_both true b h = refl
first_of_both false b h = cc

pub second_of_both : (a b : Bool) → (a && b) ≡ true → b ≡ true
second_of_both true b h = h
second_of_both false b h = cc

pub second_of_neither : (a b : Bool) → (a || b) ≡ false → b ≡ false
second_of_neither true b e = cc
second_of_neither false b e = e

pub and_false : (b : Bool) → (b && false) ≡ false
and_false true = refl
and_false false = refl

-- tests of numbers hold exactly where what they test does
pub is_equal : (i j : ℕ) → i ≡ j → (i == j) ≡ true
is_equal i j e = elim (eqb_tells i j) [ inl k ↦ k.0 | inr k ↦ absurd (k.1 e) ]

pub is_itself : (a : ℕ) → (a == a) ≡ true
is_itself a = is_equal a a refl

pub was_equal : (a b : ℕ) → (a == b) ≡ true → a ≡ b
was_equal a b h = grind (arith, nat_tests)

pub not_equal : (i j : ℕ) → i ≢ j → (i == j) ≡ false
not_equal i j d = elim (eqb_tells i j) [ inl k ↦ absurd (d k.1) | inr k ↦ k.0 ]

pub is_le : (a b : ℕ) → a ≤ b → nat_le a b ≡ true
is_le a b h = grind (arith, nat_tests)

pub was_le : (a b : ℕ) → nat_le a b ≡ true → a ≤ b
was_le a b h = grind (arith, nat_tests)

pub is_above : (a b : ℕ) → b < a → nat_le a b ≡ false
is_above a b l = elim (leb_tells a b) [ inl p ↦ absurd (omega (arith, p.1, l)) | inr p ↦ p.0 ]

pub was_above : (a b : ℕ) → nat_le a b ≡ false → b < a
was_above a b h = grind (arith, nat_tests)

pub is_less : (a b : ℕ) → a < b → nat_lt a b ≡ true
is_less a b h = grind (arith, nat_tests)

pub was_less : (a b : ℕ) → nat_lt a b ≡ true → a < b
was_less a b h = grind (arith, nat_tests)

pub not_less : (a b : ℕ) → nat_lt a b ≡ false → b ≤ a
not_less a b h = grind (arith, nat_tests)

-- a number is below another, or not
pub less_or_from : (x until : ℕ) → (x < until) ⊎ (until ≤ x)
less_or_from x until = grind arith

-- an option is a value or none, and the value is its own
pub some_same : {X : Type 0} (x y : X) → Some x ≡ Some y → x ≡ y
some_same x y e = cc

pub none_some : {X : Type 0} (x : X) → None ≡ Some x → ⊥
none_some x e = cc

pub none_is_some : {X : Type 0} {x : X} → None ≡ Some x → ⊥
none_is_some e = cc

pub some_none : {X : Type 0} {x : X} → Some x ≡ None → ⊥
some_none e = cc

pub none_or_some : (o : Option ℕ) (k : ℕ) → o ≡ None → o ≡ Some k → ⊥
none_or_some o k e f = let g : None ≡ Some k = sym e ∙ f in cc

pub same_when : (o : Option ℕ) (a b : ℕ) → o ≡ Some a → o ≡ Some b → a ≡ b
same_when o a b e f = let g : Some a ≡ Some b = sym e ∙ f in cc

-- lists are equal item by item, and one of no length is empty
pub cons_same : {X : Type 0} (x y : X) (xs ys : List X) → x ∷ xs ≡ y ∷ ys → (x ≡ y) × (xs ≡ ys)
cons_same x y xs ys e = (cc, cc)

pub none_long : {X : Type 0} (xs : List X) → length xs ≡ 0 → xs ≡ []
none_long [] e = refl
none_long (x ∷ xs) e = absurd (omega (arith, e))
