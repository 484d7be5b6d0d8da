-- One turn more.
use Rattle.std.proofs.Common.{◌≡◌, ℕ, suc, ◌+◌, List, [], ◌∷◌, ◌++◌, length, refl, sym, ap, subst, ◌∙◌, arith, append_assoc, append-nil, length-append}
use Rattle.lane_queue.specs.declared.ends.Lane.{Lane}
use Rattle.lane_queue.specs.declared.passes.SendPass.{SendPass}
use Rattle.lane_queue.specs.declared.passes.TakePass.{TakePass}
use Rattle.lane_queue.specs.Ends.{IsSendOf, IsTakeOf, put, taken, put_first, take_first, next_put, next_take}
use Rattle.session_work.specs.Rows.{gather, HasPut, HasPutBut, HasTaken}
use Rattle.session_work.specs.Turns.{Goes}

module _ {S T : Type 0} (Step : ℕ → S → T → S → Type 0) where
  pub goes_on : (k n : ℕ) (s m e : S) (ts : List T) (t : T) → Goes Step k s ts m → k + length ts ≡ n → Step n m t e → Goes Step k s (ts ++ t ∷ []) e
  goes_on k n s m e [] t g at h = let here : k ≡ n = omega (arith, at) in (e, subst (λ i. Step i s t e) (sym here) (subst (λ x. Step n x t e) (sym g) h), refl)
  goes_on k n s m e (u ∷ ts) t g at h = (g.0, g.1, goes_on (k + 1) n g.0 m e ts t g.2 (omega (arith, at)) h)

pub gather_on : {T A : Type 0} (f : T → List A) (ts : List T) (t : T) → gather f (ts ++ t ∷ []) ≡ gather f ts ++ f t
gather_on f [] t = append-nil (f t)
gather_on f (u ∷ ts) t = ap (λ r. f u ++ r) (gather_on f ts t) ∙ sym (append_assoc (f u) (gather f ts) (f t))

pub gather_ones : {T A : Type 0} (f : T → A) (ts : List T) → length (gather (λ t. f t ∷ []) ts) ≡ length ts
gather_ones f [] = refl
gather_ones f (u ∷ ts) = ap suc (gather_ones f ts)

module _ {A : Type 0} where
  pub taken_more : (xs ys zs : List A) (l : Lane A) (p q : TakePass A) → HasTaken xs l p → IsTakeOf l q → take_first q ≡ take_first p → taken q ≡ taken p ++ ys → zs ≡ xs ++ ys → HasTaken zs l q
  taken_more xs ys zs l p q h of f more is = (of, f ∙ h.1, more ∙ (ap (λ r. r ++ ys) h.2 ∙ sym is))

  pub put_more : (xs ys zs : List A) (l : Lane A) (p q : SendPass A) → HasPut xs l p → IsSendOf l q → put_first q ≡ put_first p → put q ≡ put p ++ ys → zs ≡ xs ++ ys → HasPut zs l q
  put_more xs ys zs l p q h of f more is = (of, f ∙ h.1, more ∙ (ap (λ r. r ++ ys) h.2 ∙ sym is))

  pub next_taken : (xs : List A) (k : ℕ) (l : Lane A) (p : TakePass A) → HasTaken xs l p → length xs ≡ k → next_take p ≡ k
  next_taken xs k l p h e = let f = h.1 in let n = ap length h.2 in omega (arith, e)

  pub next_of_put : (xs : List A) (k : ℕ) (l : Lane A) (p : SendPass A) → HasPut xs l p → length xs ≡ k → next_put p ≡ k
  next_of_put xs k l p h e = let f = h.1 in let n = ap length h.2 in omega (arith, e)

  pub next_but : (late xs : List A) (k : ℕ) (l : Lane A) (p : SendPass A) → HasPutBut late xs l p → length xs ≡ k + length late → next_put p ≡ k
  next_but late xs k l p h e = let f = h.1 in let n = ap length h.2 in let m = length-append (put p) late in omega (arith, e)

  -- nothing waits
  pub none_waits : (late xs : List A) (l : Lane A) (p : SendPass A) → late ≡ [] → HasPutBut late xs l p → HasPut xs l p
  none_waits late xs l p none h = (h.0, h.1, sym (append-nil (put p)) ∙ (ap (λ r. put p ++ r) (sym none) ∙ h.2))

  pub waits_none : (late xs : List A) (l : Lane A) (p : SendPass A) → late ≡ [] → HasPut xs l p → HasPutBut late xs l p
  waits_none late xs l p none h = (h.0, h.1, ap (λ r. put p ++ r) none ∙ (append-nil (put p) ∙ h.2))

  -- more waits
  pub waits_more : (late more xs ys zs : List A) (l : Lane A) (p : SendPass A) → HasPutBut late xs l p → more ≡ late ++ ys → zs ≡ xs ++ ys → HasPutBut more zs l p
  waits_more late more xs ys zs l p h is same = (h.0, h.1, ap (λ r. put p ++ r) is ∙ (sym (append_assoc (put p) late ys) ∙ (ap (λ r. r ++ ys) h.2 ∙ sym same)))

  -- the first of what waits is put
  pub waits_less : (late less xs ys : List A) (l : Lane A) (p q : SendPass A) → HasPutBut late xs l p → IsSendOf l q → put_first q ≡ put_first p → put q ≡ put p ++ ys → late ≡ ys ++ less → HasPutBut less xs l q
  waits_less late less xs ys l p q h of f more is = (of, f ∙ h.1, ap (λ r. r ++ less) more ∙ (append_assoc (put p) ys less ∙ (ap (λ r. put p ++ r) (sym is) ∙ h.2)))

  -- another list that is the same
  pub taken_as : (xs zs : List A) (l : Lane A) (p : TakePass A) → HasTaken xs l p → xs ≡ zs → HasTaken zs l p
  taken_as xs zs l p h is = (h.0, h.1, h.2 ∙ is)

-- where each turn gives one
pub gather_each : {S T A : Type 0} (Step : ℕ → S → T → S → Type 0) (f : T → List A) → ((k : ℕ) (s : S) (t : T) (e : S) → Step k s t e → length (f t) ≡ 1)
    → (k : ℕ) (s e : S) (ts : List T) → Goes Step k s ts e → length (gather f ts) ≡ length ts
gather_each Step f one k s e [] g = refl
gather_each Step f one k s e (t ∷ ts) g =
    let h = gather_each Step f one (k + 1) g.0 e ts g.2 in let o = one k s t g.0 g.1 in let l = length-append (f t) (gather f ts) in omega arith
