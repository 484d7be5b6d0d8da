-- Coordinates of a drive, and by how much a move changes them.
use Rattle.std.proofs.Common.{ℕ, ℤ, zero, suc, pos, Bool, true, false, List, ◌+◌, ◌<◌, ◌≤◌, ◌+ℤ◌, ◌-ℤ◌, arith}
use Rattle.std.specs.Prelude.{unsigned_abs, slice_index_or}
use Rattle.std.proofs.lemmas.Int.{ints}
use Rattle.plan_types.specs.declared.plan.Move.{Move}
use Rattle.plan_types.specs.Moves.{coordinate, change}
use Rattle.plan_types.specs.Valid.{IsValidMove}

sum-small : (x y : ℤ) (n : ℕ) → unsigned_abs x ≤ n → unsigned_abs y ≤ n → unsigned_abs (x +ℤ y) ≤ n + n
sum-small x y n h k = omega (arith, ints)

difference-small : (x y : ℤ) (n : ℕ) → unsigned_abs x ≤ n → unsigned_abs y ≤ n → unsigned_abs (x -ℤ y) ≤ n + n
difference-small x y n h k = omega (arith, ints)

wider : (x : ℤ) (n : ℕ) → unsigned_abs x ≤ n → unsigned_abs x ≤ n + n
wider x n h = omega arith

pub coordinate-small : (corexy : Bool) (drive n : ℕ) (at : List ℤ) → drive < 4 → ((k : ℕ) → k < 4 → unsigned_abs (slice_index_or at k (pos 0)) ≤ n) → unsigned_abs (coordinate corexy drive at) ≤ n + n
coordinate-small false drive n at h near = wider (slice_index_or at drive (pos 0)) n (near drive h)
coordinate-small true zero n at h near = sum-small (slice_index_or at 0 (pos 0)) (slice_index_or at 1 (pos 0)) n (near 0 (omega arith)) (near 1 (omega arith))
coordinate-small true (suc zero) n at h near = difference-small (slice_index_or at 0 (pos 0)) (slice_index_or at 1 (pos 0)) n (near 0 (omega arith)) (near 1 (omega arith))
coordinate-small true (suc (suc zero)) n at h near = wider (slice_index_or at 2 (pos 0)) n (near 2 (omega arith))
coordinate-small true (suc (suc (suc zero))) n at h near = wider (slice_index_or at 3 (pos 0)) n (near 3 (omega arith))
coordinate-small true (suc (suc (suc (suc k)))) n at h near = absurd (omega arith)

sums-apart : (x y u v : ℤ) → unsigned_abs (u -ℤ x) ≤ 1_500_000_000 → unsigned_abs (v -ℤ y) ≤ 1_500_000_000 → unsigned_abs ((u +ℤ v) -ℤ (x +ℤ y)) ≤ 3_000_000_000
sums-apart x y u v h k = omega (arith, ints)

differences-apart : (x y u v : ℤ) → unsigned_abs (u -ℤ x) ≤ 1_500_000_000 → unsigned_abs (v -ℤ y) ≤ 1_500_000_000 → unsigned_abs ((u -ℤ v) -ℤ (x -ℤ y)) ≤ 3_000_000_000
differences-apart x y u v h k = omega (arith, ints)

each-change : (m : Move) (k : ℕ) → IsValidMove m → k < 4 → unsigned_abs (change m k) ≤ 1_500_000_000
each-change m zero valid h = valid.change_small 0 (omega arith)
each-change m (suc zero) valid h = valid.change_small 1 (omega arith)
each-change m (suc (suc zero)) valid h = valid.change_small 2 (omega arith)
each-change m (suc (suc (suc zero))) valid h = let e = valid.e_change in omega arith
each-change m (suc (suc (suc (suc k)))) valid h = absurd (omega arith)

own-change : (m : Move) (k : ℕ) → IsValidMove m → k < 4 → unsigned_abs (change m k) ≤ 3_000_000_000
own-change m k valid h = let e = each-change m k valid h in omega arith

pub change-small : (corexy : Bool) (drive : ℕ) (m : Move) → IsValidMove m → drive < 4 → unsigned_abs (coordinate corexy drive m.to -ℤ coordinate corexy drive m.from) ≤ 3_000_000_000
change-small false drive m valid h = own-change m drive valid h
change-small true zero m valid h = sums-apart (slice_index_or m.from 0 (pos 0)) (slice_index_or m.from 1 (pos 0)) (slice_index_or m.to 0 (pos 0)) (slice_index_or m.to 1 (pos 0)) (each-change m 0 valid (omega arith)) (each-change m 1 valid (omega arith))
change-small true (suc zero) m valid h = differences-apart (slice_index_or m.from 0 (pos 0)) (slice_index_or m.from 1 (pos 0)) (slice_index_or m.to 0 (pos 0)) (slice_index_or m.to 1 (pos 0)) (each-change m 0 valid (omega arith)) (each-change m 1 valid (omega arith))
change-small true (suc (suc zero)) m valid h = own-change m 2 valid (omega arith)
change-small true (suc (suc (suc zero))) m valid h = own-change m 3 valid (omega arith)
change-small true (suc (suc (suc (suc k)))) m valid h = absurd (omega arith)
