use Rattle.std.proofs.Common.{◌≡◌, ℕ, zero, suc, ◌<◌, ◌≤◌, ◌^◌, arith, refl, pos, [], ◌∷◌, lit≤, unsigned_abs}
use Rattle.std.specs.Prelude.{slice_index_or}
use Rattle.std.proofs.lemmas.List.Elements.{All-cons, All-nil}
use Rattle.plan_types.specs.declared.plan.Move.{Move}
use Rattle.plan_types.specs.Numbers.{square_root, root_digits}
use Rattle.plan_types.specs.Moves.{change, move_length}
use Rattle.plan_types.specs.Valid.{IsValidMove}
use Rattle.plan_rows.proofs.speeds.corner.Goals as goal

abbrev from_origin : Move
from_origin = record { from = pos 0 ∷ pos 0 ∷ pos 0 ∷ pos 0 ∷ []; to = pos 10000000 ∷ pos 0 ∷ pos 0 ∷ pos 0 ∷ []; d = 10000000; v = 100000000; a = 3000000000 }

abbrev along_y : Move
along_y = record { from = pos 10000000 ∷ pos 0 ∷ pos 0 ∷ pos 0 ∷ []; to = pos 10000000 ∷ pos 10000000 ∷ pos 0 ∷ pos 0 ∷ []; d = 10000000; v = 100000000; a = 3000000000 }

one_length : 10000000 ≡ move_length from_origin
unfolding square_root root_digits
one_length = refl

two_length : 10000000 ≡ move_length along_y
unfolding square_root root_digits
two_length = refl

-- four cases of an index
below_three : (P : ℕ → Type 0) → P 0 → P 1 → P 2 → (k : ℕ) → k < 3 → P k
below_three P a b c zero h = a
below_three P a b c (suc zero) h = b
below_three P a b c (suc (suc zero)) h = c
below_three P a b c (suc (suc (suc k))) h = absurd (omega arith)

below_four : (P : ℕ → Type 0) → P 0 → P 1 → P 2 → P 3 → (k : ℕ) → k < 4 → P k
below_four P a b c d zero h = a
below_four P a b c d (suc zero) h = b
below_four P a b c d (suc (suc zero)) h = c
below_four P a b c d (suc (suc (suc zero))) h = d
below_four P a b c d (suc (suc (suc (suc k)))) h = absurd (omega arith)

one_valid : IsValidMove from_origin
one_valid = record {
  length_is = one_length;
  moves = lit≤ tt;
  speed_low = lit≤ tt;
  speed_high = lit≤ tt;
  acceleration_low = lit≤ tt;
  acceleration_high = lit≤ tt;
  change_small = below_three (λ k. unsigned_abs (change from_origin k) ≤ 1_500_000_000) (lit≤ tt) (lit≤ tt) (lit≤ tt);
  e_change = lit≤ tt;
  from_near = below_four (λ k. unsigned_abs (slice_index_or from_origin.from k (pos 0)) ≤ 2 ^ 60) (lit≤ tt) (lit≤ tt) (lit≤ tt) (lit≤ tt);
  to_near = below_four (λ k. unsigned_abs (slice_index_or from_origin.to k (pos 0)) ≤ 2 ^ 60) (lit≤ tt) (lit≤ tt) (lit≤ tt) (lit≤ tt);
}

two_valid : IsValidMove along_y
two_valid = record {
  length_is = two_length;
  moves = lit≤ tt;
  speed_low = lit≤ tt;
  speed_high = lit≤ tt;
  acceleration_low = lit≤ tt;
  acceleration_high = lit≤ tt;
  change_small = below_three (λ k. unsigned_abs (change along_y k) ≤ 1_500_000_000) (lit≤ tt) (lit≤ tt) (lit≤ tt);
  e_change = lit≤ tt;
  from_near = below_four (λ k. unsigned_abs (slice_index_or along_y.from k (pos 0)) ≤ 2 ^ 60) (lit≤ tt) (lit≤ tt) (lit≤ tt) (lit≤ tt);
  to_near = below_four (λ k. unsigned_abs (slice_index_or along_y.to k (pos 0)) ≤ 2 ^ 60) (lit≤ tt) (lit≤ tt) (lit≤ tt) (lit≤ tt);
}

pub returns : goal.returns
returns c = All-cons IsValidMove from_origin (along_y ∷ []) one_valid (All-cons IsValidMove along_y [] two_valid (All-nil IsValidMove))
