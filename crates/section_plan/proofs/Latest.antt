-- The greatest of some numbers, stepper by stepper.
use Rattle.std.proofs.Common.{◌≡◌, ℕ, ◌+◌, List, [], ◌∷◌, ◌++◌, map, max, arith, refl, zero-add}
use Rattle.std.specs.List.{range_with_len}
use Rattle.plan_types.specs.Sections.{latest}
use Rattle.step_ticks.proofs.Lists.{map-range-more}

pub latest-push : (xs : List ℕ) (x : ℕ) → latest (xs ++ x ∷ []) ≡ max (latest xs) x
latest-push [] x = omega arith
latest-push (y ∷ xs) x = let later = latest-push xs x in omega arith

-- a list with a value for each number, and one more
pub for-each-more : {X : Type 0} (f : ℕ → X) (i : ℕ) (made new : List X) (x : X) → made ≡ map f (range_with_len 0 i) → new ≡ made ++ x ∷ [] → x ≡ f i → new ≡ map f (range_with_len 0 (i + 1))
for-each-more f i made new x before is here =
    let more = map-range-more f 0 i in
    let start = zero-add i in
    let more' : map f (range_with_len 0 (i + 1)) ≡ map f (range_with_len 0 i) ++ f i ∷ [] = rw start at more in
    cc

pub latest-more : (f : ℕ → ℕ) (i over end turn : ℕ) → end ≡ max over (latest (map f (range_with_len 0 i))) → turn ≡ f i → max end turn ≡ max over (latest (map f (range_with_len 0 (i + 1))))
latest-more f i over end turn before here =
    let more = for-each-more f i (map f (range_with_len 0 i)) (map f (range_with_len 0 i) ++ turn ∷ []) turn refl refl here in
    let push = latest-push (map f (range_with_len 0 i)) turn in
    rw (← more) (omega arith)
