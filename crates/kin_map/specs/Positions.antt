-- Positions as vectors, and the laws of a kinematics.
use Rattle.std.specs.Prelude.{◌≡◌, ℕ, ℤ, Bool, true, false, zero, suc, pos, List, [], ◌∷◌, length, ◌<◌, ◌+◌, ◌+ℤ◌, ◌-ℤ◌, slice_index_or}
use Rattle.plan_types.specs.Moves.{coordinate}

-- coordinate k of a position
abbrev pub axis : List ℤ → ℕ → ℤ
axis at k = slice_index_or at k (pos 0)

-- the sum of two positions
abbrev pub plus : List ℤ → List ℤ → List ℤ
plus a b = (axis a 0 +ℤ axis b 0) ∷ (axis a 1 +ℤ axis b 1) ∷ (axis a 2 +ℤ axis b 2) ∷ (axis a 3 +ℤ axis b 3) ∷ []

-- the coordinates of four drives are linear: those of a sum are the sums of both, in whole numbers
abbrev pub IsLinear : (ℕ → List ℤ → ℤ) → Type 0
IsLinear place = (drive : ℕ) (a b : List ℤ) → drive < 4 → place drive (plus a b) ≡ place drive a +ℤ place drive b

-- no two positions have the same coordinates of all four drives
abbrev pub TellsApart : (ℕ → List ℤ → ℤ) → Type 0
TellsApart place =
    (a b : List ℤ) → length a ≡ 4 → length b ≡ 4 → ((drive : ℕ) → drive < 4 → place drive a ≡ place drive b) → a ≡ b
