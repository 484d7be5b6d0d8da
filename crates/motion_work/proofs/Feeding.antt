-- The units of some sections in a turn.
use Rattle.std.proofs.Common.{◌≡◌, ℕ, zero, suc, ◌+◌, List, [], ◌∷◌, ◌++◌, length, refl, ap, sym, subst, ◌∙◌, length-append, All, arith}
use Rattle.std.proofs.lemmas.List.Elements.{All-append, All-cons, All-nil}
use Rattle.std.specs.Prelude.{slice_index_or}
use Rattle.msg_code.specs.declared.unit.Batch.{Batch}
use Rattle.step_feed.specs.Pacing.{Release}
use Rattle.motion_work.specs.Feeds.{AreOfTurn}
use Rattle.motion_work.specs.Homes.{all_before, before_turn}

-- the releases of a board before a turn
pub at_before : (turn : ℕ) (boards : List (List Release)) (b : ℕ) → slice_index_or (all_before turn boards) b [] ≡ before_turn turn (slice_index_or boards b [])
at_before turn [] zero = refl
at_before turn [] (suc b) = refl
at_before turn (x ∷ boards) zero = refl
at_before turn (x ∷ boards) (suc b) = at_before turn boards b

-- the last section ends in a turn
pub snoc_same : {X : Type 0} (xs ys : List X) (x y : X) → xs ++ x ∷ [] ≡ ys ++ y ∷ [] → (xs ≡ ys) × (x ≡ y)
snoc_same [] [] x y e = (refl, head e) where
  head : {X : Type 0} {a b : X} → a ∷ [] ≡ b ∷ [] → a ≡ b
  head h = cc
snoc_same [] (b ∷ ys) x y e = absurd (let l = ap length e in let m = length-append ys (y ∷ []) in omega (arith, l, m))
snoc_same (a ∷ xs) [] x y e = absurd (let l = ap length e in let m = length-append xs (x ∷ []) in omega (arith, l, m))
snoc_same (a ∷ xs) (b ∷ ys) x y e =
    let rest = snoc_same xs ys x y (tail e) in
    (ap (λ z. z ∷ xs) (head e) ∙ ap (λ zs. b ∷ zs) rest.0, rest.1) where
      head : {X : Type 0} {u v : X} {us vs : List X} → u ∷ us ≡ v ∷ vs → u ≡ v
      head h = cc

      tail : {X : Type 0} {u v : X} {us vs : List X} → u ∷ us ≡ v ∷ vs → us ≡ vs
      tail h = cc

pub one_batch : (k n : ℕ) (made new : List Batch) (b : Batch) → AreOfTurn k n made → b.turn ≡ k → new ≡ made ++ b ∷ [] → AreOfTurn k (n + 1) new
one_batch k n made new b h is adds =
    let P : Batch → Type 0 = λ x. x.turn ≡ k in
    let count = h.count in
    record {
      count = ap length adds ∙ length-append made (b ∷ []) ∙ omega (arith, count);
      turns = subst (All P) (sym adds) (All-append P made (b ∷ []) h.turns (All-cons P b [] is (All-nil P)));
    }
