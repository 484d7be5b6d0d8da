-- Lists of steps.
use Rattle.std.proofs.Common.{◌≡◌, ℕ, zero, suc, ◌+◌, ◌≤◌, List, [], ◌∷◌, ◌++◌, length, drop, map, arith, refl, ap, sym, ◌∙◌, Bool, true, false, cond, All, add-one, add-zero, max, ◌<◌, ◌^◌}
use Rattle.plan_types.specs.Clock.{tick_limit}
use Rattle.std.proofs.lemmas.Grind.{common_steps}
use Rattle.std.specs.List.{range_with_len}
use Rattle.std.proofs.lemmas.List.{append-nil, drop_all}
use Rattle.std.proofs.lemmas.List.Elements.{All-from_recursion, recursion_from_All}
use Rattle.plan_types.specs.declared.plan.Planned.{Planned}
use Rattle.plan_types.specs.declared.plan.Segment.{Segment}
use Rattle.plan_types.specs.declared.plan.Gear.{Gear}
use Rattle.plan_types.specs.Plan.{cancel, filtered, spaced, AreSpaced}
use Rattle.plan_types.specs.Steps.{raw_steps}
use Rattle.std.specs.List.{AllByRecursion}

pub map-range-more : {X : Type 0} (f : ℕ → X) (a k : ℕ) → map f (range_with_len a (k + 1)) ≡ map f (range_with_len a k) ++ f (a + k) ∷ []
map-range-more f a k = rw add-one (go f a k)
  where
    go : {X : Type 0} (f : ℕ → X) (a k : ℕ) → map f (range_with_len a (suc k)) ≡ map f (range_with_len a k) ++ f (a + k) ∷ []
    go f a zero = rw add-zero refl
    go f a (suc k) = let e : a + suc k ≡ a + 1 + k = omega arith in rw e (ap (λ xs. f a ∷ xs) (go f (a + 1) k))

kept : (P : Planned → Type 0) (b : Bool) (xs ys : List Planned) → AllByRecursion P xs → AllByRecursion P ys → AllByRecursion P (cond b xs ys)
kept P true xs ys h k = h
kept P false xs ys h k = k

filtered-each : (P : Planned → Type 0) (r : ℕ) (xs : List Planned) → AllByRecursion P xs → AllByRecursion P (filtered r xs)
filtered-each P r [] h = h
filtered-each P r (a ∷ []) h = h
filtered-each P r (a ∷ b ∷ xs) h = kept P (cancel r a b) _ _ (filtered-each P r xs h.1.1) (h.0, filtered-each P r (b ∷ xs) h.1)

pub filtered-All : (P : Planned → Type 0) (r : ℕ) (xs : List Planned) → All P xs → All P (filtered r xs)
filtered-All P r xs h = All-from_recursion P (filtered r xs) (filtered-each P r xs (recursion_from_All P xs h))

pub raw_steps-over : (g : Gear) (f i : ℕ) (segments : List Segment) (raw : List Planned) → length segments ≤ i → raw ++ raw_steps g f (drop i segments) ≡ raw_steps g f segments → raw ≡ raw_steps g f segments
raw_steps-over g f i segments raw over whole =
    let none : drop i segments ≡ [] = drop_all i segments over in
    sym (append-nil raw) ∙ sym (ap (λ t. raw ++ raw_steps g f t) none) ∙ whole

pub spaced-AreSpaced : (last : ℕ) (steps : List Planned) → AreSpaced last (spaced last steps)
spaced-AreSpaced last [] = tt
spaced-AreSpaced last (s ∷ steps) = (omega arith, spaced-AreSpaced (max s.tick (last + 4)) steps)

pub small-push : (xs : List Planned) (y : Planned) → All (λ s. s.tick < tick_limit) xs → y.tick < tick_limit → All (λ s. s.tick < tick_limit) (xs ++ y ∷ [])
small-push xs y h k = grind (arith, common_steps)
