use Rattle.std.proofs.Common.{◌≡◌, ℕ, zero, suc, ◌*◌, ◌<◌, ◌≤◌, ◌^◌, arith, refl, pos, [], ◌∷◌, lit≤, unsigned_abs}
use Rattle.std.specs.Prelude.{slice_index_or}
use Rattle.std.proofs.lemmas.List.Elements.{All-cons, All-nil}
use Rattle.plan_types.specs.declared.plan.Move.{Move}
use Rattle.plan_types.specs.Numbers.{square_root, root_digits}
use Rattle.plan_types.specs.Moves.{change, move_length}
use Rattle.plan_types.specs.Valid.{IsValidMove}
use Rattle.plan_rows.proofs.parts.moves.Goals as goal

abbrev along : ℕ → Move
along x = record { from = pos 0 ∷ pos 0 ∷ pos 0 ∷ pos 0 ∷ []; to = pos x ∷ pos 0 ∷ pos 0 ∷ pos 0 ∷ []; d = x; v = 10000000; a = 3000000000 }

-- three cases of an index
below_three : (P : ℕ → Type 0) → P 0 → P 1 → P 2 → (k : ℕ) → k < 3 → P k
below_three P a b c zero h = a
below_three P a b c (suc zero) h = b
below_three P a b c (suc (suc zero)) h = c
below_three P a b c (suc (suc (suc k))) h = absurd (omega arith)

below_four : (P : ℕ → Type 0) → P 0 → P 1 → P 2 → P 3 → (k : ℕ) → k < 4 → P k
below_four P a b c d zero h = a
below_four P a b c d (suc zero) h = b
below_four P a b c d (suc (suc zero)) h = c
below_four P a b c d (suc (suc (suc zero))) h = d
below_four P a b c d (suc (suc (suc (suc k)))) h = absurd (omega arith)

along-valid : (x : ℕ) → x ≡ move_length (along x) → 0 < x → x ≤ 1_000_000 → IsValidMove (along x)
along-valid x length_is above small =
    let near : x ≤ 2 ^ 60 = omega arith in
    record {
      length_is = length_is;
      moves = above;
      speed_low = lit≤ tt;
      speed_high = lit≤ tt;
      acceleration_low = lit≤ tt;
      acceleration_high = lit≤ tt;
      change_small = below_three (λ k. unsigned_abs (change (along x) k) ≤ 1_500_000_000) (omega arith) (lit≤ tt) (lit≤ tt);
      e_change = lit≤ tt;
      from_near = below_four (λ k. unsigned_abs (slice_index_or (along x).from k (pos 0)) ≤ 2 ^ 60) (lit≤ tt) (lit≤ tt) (lit≤ tt) (lit≤ tt);
      to_near = below_four (λ k. unsigned_abs (slice_index_or (along x).to k (pos 0)) ≤ 2 ^ 60) near (lit≤ tt) (lit≤ tt) (lit≤ tt);
    }

long : 1_000_000 ≡ move_length (along 1_000_000)
unfolding square_root root_digits
long = refl

short : 6_250 ≡ move_length (along 6_250)
unfolding square_root root_digits
short = refl

least : 1 ≡ move_length (along 1)
unfolding square_root root_digits
least = refl

pub returns : goal.returns
returns c =
    All-cons IsValidMove (along 1_000_000) (along 6_250 ∷ along 1 ∷ []) (along-valid 1_000_000 long (lit≤ tt) (lit≤ tt))
    (All-cons IsValidMove (along 6_250) (along 1 ∷ []) (along-valid 6_250 short (lit≤ tt) (lit≤ tt))
    (All-cons IsValidMove (along 1) [] (along-valid 1 least (lit≤ tt) (lit≤ tt)) (All-nil IsValidMove)))
