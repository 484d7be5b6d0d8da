-- The laws of both kinematics.
use Rattle.std.proofs.Common.{◌≡◌, ℕ, ℤ, true, false, zero, suc, pos, List, [], ◌∷◌, length, ◌<◌, ◌+◌, ◌+ℤ◌, ◌-ℤ◌, arith, refl, ap}
use Rattle.std.proofs.lemmas.Int.{ints}
use Rattle.plan_types.specs.Moves.{coordinate}
use Rattle.kin_map.specs.Positions.{axis, plus, IsLinear, TellsApart}

four : (P : ℕ → Type 0) → P 0 → P 1 → P 2 → P 3 → (k : ℕ) → k < 4 → P k
four P a b c d zero h = a
four P a b c d (suc zero) h = b
four P a b c d (suc (suc zero)) h = c
four P a b c d (suc (suc (suc zero))) h = d
four P a b c d (suc (suc (suc (suc k)))) h = absurd (omega arith)

-- the coordinates of cartesian drives are linear
pub cartesian-linear : IsLinear (coordinate false)
cartesian-linear drive a b h =
    four (λ k. coordinate false k (plus a b) ≡ coordinate false k a +ℤ coordinate false k b) refl refl refl refl drive h

sums-swap : (x y u v : ℤ) → (x +ℤ u) +ℤ (y +ℤ v) ≡ (x +ℤ y) +ℤ (u +ℤ v)
sums-swap x y u v = omega (arith, ints)

differences-swap : (x y u v : ℤ) → (x +ℤ u) -ℤ (y +ℤ v) ≡ (x -ℤ y) +ℤ (u -ℤ v)
differences-swap x y u v = omega (arith, ints)

-- the coordinates of CoreXY drives are linear
pub corexy-linear : IsLinear (coordinate true)
corexy-linear drive a b h =
    four (λ k. coordinate true k (plus a b) ≡ coordinate true k a +ℤ coordinate true k b)
    (sums-swap (axis a 0) (axis a 1) (axis b 0) (axis b 1))
    (differences-swap (axis a 0) (axis a 1) (axis b 0) (axis b 1)) refl refl drive h

same : (x y z w x' y' z' w' : ℤ) → x ≡ x' → y ≡ y' → z ≡ z' → w ≡ w' → (x ∷ y ∷ z ∷ w ∷ []) ≡ (x' ∷ y' ∷ z' ∷ w' ∷ [])
same x y z w x' y' z' w' p q r s = cc

-- the coordinates of cartesian drives tell places apart
pub cartesian-apart : TellsApart (coordinate false)
cartesian-apart (x ∷ y ∷ z ∷ w ∷ []) (x' ∷ y' ∷ z' ∷ w' ∷ []) m n h =
    same x y z w x' y' z' w' (h 0 (omega arith)) (h 1 (omega arith)) (h 2 (omega arith)) (h 3 (omega arith))
cartesian-apart _ _ m n h = absurd (omega arith)

first-same : (x y x' y' : ℤ) → (x +ℤ y) ≡ (x' +ℤ y') → (x -ℤ y) ≡ (x' -ℤ y') → x ≡ x'
first-same x y x' y' s d = omega (arith, ints)

second-same : (x y x' y' : ℤ) → (x +ℤ y) ≡ (x' +ℤ y') → (x -ℤ y) ≡ (x' -ℤ y') → y ≡ y'
second-same x y x' y' s d = omega (arith, ints)

-- the coordinates of CoreXY drives tell places apart
pub corexy-apart : TellsApart (coordinate true)
corexy-apart (x ∷ y ∷ z ∷ w ∷ []) (x' ∷ y' ∷ z' ∷ w' ∷ []) m n h =
    let s = h 0 (omega arith) in
    let d = h 1 (omega arith) in
    same x y z w x' y' z' w' (first-same x y x' y' s d) (second-same x y x' y' s d) (h 2 (omega arith))
    (h 3 (omega arith))
corexy-apart _ _ m n h = absurd (omega arith)
