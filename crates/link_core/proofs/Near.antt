-- Lemmas on the numbers under way.
use Rattle.std.proofs.Common.{ℕ, ◌+◌, ◌<◌, ◌≤◌, List, [], ◌∷◌, ◌++◌, zero, suc, arith}
use Rattle.link_core.specs.Core.{Reply, numbers, numbered, Rise, NotFarAbove, AreNear}

pub Rise_lower : (low mid high : ℕ) (rs : List Reply) → low ≤ mid → Rise mid high rs → Rise low high rs
Rise_lower low mid high [] h r = omega arith
Rise_lower low mid high (r ∷ rs) h s = (omega (arith, s.0), s.1)

pub Rise-append : (low mid high : ℕ) (rs ss : List Reply) → Rise low mid rs → Rise mid high ss → Rise low high (rs ++ ss)
Rise-append low mid high [] ss h r = Rise_lower low mid high ss h r
Rise-append low mid high (r ∷ rs) ss h s = (h.0, Rise-append r.number mid high rs ss h.1 s)

pub Rise_within : (low high : ℕ) (rs : List Reply) → Rise low high rs → low ≤ high
Rise_within low high [] h = h
Rise_within low high (r ∷ rs) h = omega (arith, h.0, Rise_within r.number high rs h.1)

pub Rise_numbered : (n : ℕ) (answers : List (List ℕ)) → Rise n n (numbered n answers)
Rise_numbered n [] = omega arith
Rise_numbered n (a ∷ answers) = (omega arith, Rise_numbered n answers)

-- each number is one of the twelve below this one, or above
abbrev pub Reach : ℕ → List ℕ → Type 0
Reach s [] = Unit {0}
Reach s (n ∷ ns) = (s ≤ n + 12) × Reach s ns

pub NotFarAbove-append : (m s : ℕ) (ns ks : List ℕ) → m < s → NotFarAbove m ns → Reach s ks → NotFarAbove m (ns ++ ks)
NotFarAbove-append m s [] [] l h r = tt
NotFarAbove-append m s [] (k ∷ ks) l h r = (omega (arith, l, r.0), NotFarAbove-append m s [] ks l tt r.1)
NotFarAbove-append m s (n ∷ ns) ks l h r = (h.0, NotFarAbove-append m s ns ks l h.1 r)

pub AreNear-append : (s a : ℕ) (ns ks : List ℕ) → AreNear s a ns → AreNear s a ks → Reach s ks → AreNear s a (ns ++ ks)
AreNear-append s a [] ks h g r = g
AreNear-append s a (n ∷ ns) ks h g r =
    (h.0, NotFarAbove-append n s ns ks h.0.was_sent h.1 r, AreNear-append s a ns ks h.2 g r)

pub AreNear_sent : (s a : ℕ) (ns : List ℕ) → AreNear s a ns → AreNear (s + 1) a ns
AreNear_sent s a [] h = tt
AreNear_sent s a (n ∷ ns) h =
    (record { was_sent = omega (arith, h.0.was_sent); below = h.0.below; above = h.0.above }, h.1, AreNear_sent s a ns h.2)

pub AreNear_accepted : (s a : ℕ) (ns : List ℕ) → NotFarAbove a ns → AreNear s a ns → AreNear s (a + 1) ns
AreNear_accepted s a [] f h = tt
AreNear_accepted s a (n ∷ ns) f h =
    (record { was_sent = h.0.was_sent; below = omega (arith, h.0.below); above = omega (arith, f.0) }, h.1, AreNear_accepted s a ns f.1 h.2)

pub numbers_far : (m first n : ℕ) → m ≤ first + 11 → NotFarAbove m (numbers first n)
numbers_far m first zero h = tt
numbers_far m first (suc n) h = (h, numbers_far m (first + 1) n (omega arith))

pub numbers_near : (s a first n : ℕ) → first + n ≤ s → s ≤ first + 12 → a ≤ s → s ≤ a + 12 → AreNear s a (numbers first n)
numbers_near s a first zero l w h g = tt
numbers_near s a first (suc n) l w h g =
    (record { was_sent = omega arith; below = omega arith; above = omega arith }, numbers_far first (first + 1) n (omega arith), numbers_near s a (first + 1) n (omega arith) (omega arith) h g)

pub numbers_reach : (s first n : ℕ) → s ≤ first + 12 → Reach s (numbers first n)
numbers_reach s first zero h = tt
numbers_reach s first (suc n) h = (h, numbers_reach s (first + 1) n (omega arith))
