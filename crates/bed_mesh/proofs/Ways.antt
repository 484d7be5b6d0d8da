-- How far a valid move goes.
use Rattle.std.proofs.Common.{ℕ, ◌<◌, ◌≤◌, ◌^◌, arith, get_or}
use Rattle.std.specs.Prelude.{pos, unsigned_abs, slice_index_or}
use Rattle.plan_types.specs.declared.plan.Move.{Move}
use Rattle.plan_types.specs.Moves.{change}
use Rattle.plan_types.specs.Valid.{IsValidMove}
use Rattle.std.proofs.lemmas.Bool.{cases_lt}
use Rattle.std.proofs.Common.{inl, inr, ◌≡◌, subst, sym, zero, suc, List, [], ◌∷◌, ◌++◌}
use Rattle.std.specs.Prelude.{ℤ, ◌-ℤ◌}
use Rattle.std.specs.List.{All}
use Rattle.std.proofs.lemmas.List.Elements.{All-push}
use Rattle.bed_mesh.specs.Cuts.{IsOnTheWay}

pub change_near : (m : Move) (k : ℕ) → IsValidMove m → k < 4 → unsigned_abs (change m k) ≤ 1_500_000_000
change_near m k v h = elim (cases_lt k 3) as (λ _. unsigned_abs (change m k) ≤ 1_500_000_000) [ inl l ↦ v.change_small k l | inr l ↦ (let e : k ≡ 3 = omega arith in subst (λ (i : ℕ). unsigned_abs (change m i) ≤ 1_500_000_000) (sym e) (let b = v.e_change in omega arith)) ]

pub start_near : (m : Move) (k : ℕ) → IsValidMove m → k < 4 → unsigned_abs (get_or m.from k (pos 0)) ≤ 2 ^ 60
start_near m k v h = v.from_near k h

pub end_near : (m : Move) (k : ℕ) → IsValidMove m → k < 4 → unsigned_abs (get_or m.to k (pos 0)) ≤ 2 ^ 60
end_near m k v h = v.to_near k h

-- a place within a move's changes is on its way
near_at : (m : Move) (x y z e : ℤ) → unsigned_abs (x -ℤ get_or m.from 0 (pos 0)) ≤ unsigned_abs (change m 0) → unsigned_abs (y -ℤ get_or m.from 1 (pos 0)) ≤ unsigned_abs (change m 1)
    → unsigned_abs (z -ℤ get_or m.from 2 (pos 0)) ≤ unsigned_abs (change m 2) → unsigned_abs (e -ℤ get_or m.from 3 (pos 0)) ≤ unsigned_abs (change m 3)
    → (k : ℕ) → k < 4 → unsigned_abs (get_or (x ∷ y ∷ z ∷ e ∷ []) k (pos 0) -ℤ get_or m.from k (pos 0)) ≤ unsigned_abs (change m k)
near_at m x y z e a b c d zero h = a
near_at m x y z e a b c d (suc zero) h = b
near_at m x y z e a b c d (suc (suc zero)) h = c
near_at m x y z e a b c d (suc (suc (suc zero))) h = d
near_at m x y z e a b c d (suc (suc (suc (suc k)))) h = absurd (omega arith)

pub on_the_way : (m : Move) (x y z e x' y' z' e' : ℤ) → x' ≡ x → y' ≡ y → z' ≡ z → e' ≡ e → unsigned_abs (x -ℤ get_or m.from 0 (pos 0)) ≤ unsigned_abs (change m 0) → unsigned_abs (y -ℤ get_or m.from 1 (pos 0)) ≤ unsigned_abs (change m 1)
    → unsigned_abs (z -ℤ get_or m.from 2 (pos 0)) ≤ unsigned_abs (change m 2) → unsigned_abs (e -ℤ get_or m.from 3 (pos 0)) ≤ unsigned_abs (change m 3) → IsOnTheWay m (x' ∷ y' ∷ z' ∷ e' ∷ [])
on_the_way m x y z e x' y' z' e' f g h i a b c d = rw (f, g, h, i) (record { near = near_at m x y z e a b c d })

pub at_target : (m : Move) → IsOnTheWay m m.to
at_target m = record { near = λ k h. omega arith }

pub all_on_the_way : (m : Move) (places new : List (List ℤ)) (place : List ℤ) → All (IsOnTheWay m) places → IsOnTheWay m place → new ≡ places ++ place ∷ [] → All (IsOnTheWay m) new
all_on_the_way m places new place all one is = rw is (All-push (IsOnTheWay m) places place all one)
