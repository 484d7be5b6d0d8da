-- The sample that is taken is the first of the quickest.
use Rattle.std.proofs.Common.{◌≡◌, ◌⊎◌, ℕ, ◌<◌, ◌≤◌, All, Bool, true, false, cond, nat_lt, List, [], ◌∷◌, Some, None, inl, inr, refl, sym, ap, subst, arith}
use Rattle.std.proofs.lemmas.Bool.{ltb-false, ltb-true}
use Rattle.laws_board.proofs.Names.{All-cons, All-nil}
use Rattle.clock_line.specs.declared.sample.Sample.{Sample}
use Rattle.clock_line.specs.Samples.{best, better, chosen, sampled, took}
use Rattle.laws_board.specs.clocks.Quickest.{IsQuickest, best_behind}

-- a sample that stands among some, behind longer ones and ahead of none that took less, and took less than another one
record Shorter (q s : Sample) (samples : List Sample) : Type 0 where
  less : took q < took s
  is : IsQuickest q samples

-- a sample is a first one, and none behind it took less; or it took less than that and is the first of the quickest behind it
abbrev Quick : Sample → Sample → List Sample → Type 0
Quick q s samples = ((q ≡ s) × All (λ t. took s ≤ took t) samples) ⊎ Shorter q s samples

later : (q s t : Sample) (us : List Sample) → took q < took t → Shorter q s us → Shorter q s (t ∷ us)
later q s t us low h = record {
  less = h.less;
  is = record {
    ahead = t ∷ h.is.ahead;
    behind = h.is.behind;
    among = ap (λ (l : List Sample). t ∷ l) h.is.among;
    longer = All-cons (λ u. took q < took u) t h.is.ahead low h.is.longer;
    no_less = h.is.no_less;
  };
}

-- behind a first sample that took longer than the next one
over_next : (q s t : Sample) (us : List Sample) → took t < took s → Quick q t us → Quick q s (t ∷ us)
over_next q s t us low (inl k) =
    let first : IsQuickest t (t ∷ us) = record { ahead = []; behind = us; among = refl; longer = All-nil (λ u. took t < took u); no_less = k.1 } in
    subst (λ (p : Sample). Quick p s (t ∷ us)) (sym k.0) (inr (record { less = low; is = first }))
over_next q s t us low (inr h) = inr (record { less = let l = h.less in omega (arith, l, low); is = (later q t t us h.less h).is })

-- behind one that did not
over_kept : (q s t : Sample) (us : List Sample) → took s ≤ took t → Quick q s us → Quick q s (t ∷ us)
over_kept q s t us low (inl k) = inl (k.0, All-cons (λ u. took s ≤ took u) t us low k.1)
over_kept q s t us low (inr h) = inr (later q s t us (let l = h.less in omega (arith, l, low)) h)

by_next : (s t : Sample) (us : List Sample) (b : Bool) → nat_lt (took t) (took s) ≡ b → ((u : Sample) → Quick (best u us) u us) → Quick (best (cond b t s) us) s (t ∷ us)
by_next s t us true h is = over_next (best t us) s t us (ltb-true (took t) (took s) h) (is t)
by_next s t us false h is = over_kept (best s us) s t us (ltb-false (took t) (took s) h) (is s)

quick : (s : Sample) (ts : List Sample) → Quick (best s ts) s ts
quick s [] = inl (refl, All-nil (λ t. took s ≤ took t))
quick s (t ∷ us) = by_next s t us (nat_lt (took t) (took s)) refl (λ u. quick u us)

whole : (q s : Sample) (ts : List Sample) → Quick q s ts → IsQuickest q (s ∷ ts)
whole q s ts (inl k) = subst (λ (p : Sample). IsQuickest p (s ∷ ts)) (sym k.0) (record { ahead = []; behind = ts; among = refl; longer = All-nil (λ t. took s < took t); no_less = k.1 })
whole q s ts (inr h) = (later q s s ts h.less h).is

-- the best of some samples is the first of the quickest
pub best_quickest : (s : Sample) (ts : List Sample) → IsQuickest (best s ts) (s ∷ ts)
best_quickest s ts = whole (best s ts) s ts (quick s ts)

-- and it is the one that is kept
pub kept_best : (s : Sample) (ts : List Sample) → best_behind (Some s) ts ≡ Some (best s ts)
kept_best s [] = refl
kept_best s (t ∷ us) = kept_best (better s t) us

pub quickest : (s : Sample) (ts : List Sample) (freq : ℕ) → (q : Sample) × IsQuickest q (s ∷ ts) × (chosen (s ∷ ts) freq ≡ sampled q freq) × (best_behind None (s ∷ ts) ≡ Some q)
quickest s ts freq = (best s ts, best_quickest s ts, refl, kept_best s ts)
