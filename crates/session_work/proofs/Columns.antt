-- One row more on the lanes of all boards.
use Rattle.std.proofs.Common.{◌≡◌, ℕ, ◌+◌, ◌<◌, List, [], ◌∷◌, ◌++◌, length, get_or, refl, sym, ap, subst, ◌∙◌, arith, append-nil}
use Rattle.std.proofs.lemmas.List.{get_or_default}
use Rattle.lane_queue.specs.Ends.{IsTakeOf, taken, take_first}
use Rattle.lane_queue.specs.declared.ends.Lane.{Lane}
use Rattle.lane_queue.specs.declared.passes.SendPass.{SendPass}
use Rattle.lane_queue.specs.declared.passes.TakePass.{TakePass}
use Rattle.session_work.specs.Rows.{item, Each, HavePut, HavePutBut, HaveTaken, CanPut, CanTake, RowPut, RowTaken}
use Rattle.session_work.proofs.Goes.{next_but, next_taken, next_of_put, none_waits, waits_less, waits_more, waits_none}

module _ {A : Type 0} where
  pub can_put : (column : ℕ → List A) (k : ℕ) (ls : List (Lane A)) (ps : List (SendPass A)) → HavePut column ls ps → ((j : ℕ) → j < length ls → length (column j) ≡ k) → CanPut k ls ps
  can_put column k ls ps h long j l p low = let here = h.1 j l p low in let n = h.0 in let e = long j (omega arith) in (here.0, next_of_put (column j) k _ _ here e)

  pub can_take : (column : ℕ → List A) (k : ℕ) (ls : List (Lane A)) (ps : List (TakePass A)) → HaveTaken column ls ps → ((j : ℕ) → j < length ls → length (column j) ≡ k) → CanTake k ls ps
  can_take column k ls ps h long j l p low = let here = h.1 j l p low in let n = h.0 in let e = long j (omega arith) in (here.0, next_taken (column j) k _ _ here e)

  pub row_put : (column longer : ℕ → List A) (ls : List (Lane A)) (old new : List (SendPass A)) (xs : List A) → HavePut column ls old → RowPut ls old new xs → ((j : ℕ) → longer j ≡ column j ++ item j xs) → HavePut longer ls new
  row_put column longer ls old new xs h r is = (r.0 ∙ h.0, λ j l p low. let s = r.0 in let was = h.1 j l p (omega arith) in let now = r.1 j l p p low in (now.0, now.1 ∙ was.1, now.2 ∙ (ap (λ ys. ys ++ item j xs) was.2 ∙ sym (is j))))

  pub row_taken : (column longer : ℕ → List A) (ls : List (Lane A)) (old new : List (TakePass A)) (xs : List A) → HaveTaken column ls old → RowTaken ls old new xs → ((j : ℕ) → longer j ≡ column j ++ item j xs) → HaveTaken longer ls new
  row_taken column longer ls old new xs h r is = (r.0 ∙ h.0, λ j l p low. let s = r.0 in let was = h.1 j l p (omega arith) in let now = r.1 j l p p low in (now.0, now.1 ∙ was.1, now.2 ∙ (ap (λ ys. ys ++ item j xs) was.2 ∙ sym (is j))))

  pub can_put_but : (late column : ℕ → List A) (k : ℕ) (ls : List (Lane A)) (ps : List (SendPass A)) → HavePutBut late column ls ps → ((j : ℕ) → j < length ls → length (column j) ≡ k + length (late j)) → CanPut k ls ps
  can_put_but late column k ls ps h long j l p low = let here = h.1 j l p low in let n = h.0 in let e = long j (omega arith) in (here.0, next_but (late j) (column j) k _ _ here e)

  pub rows_wait_none : (late column : ℕ → List A) (ls : List (Lane A)) (ps : List (SendPass A)) → ((j : ℕ) → late j ≡ []) → HavePutBut late column ls ps → HavePut column ls ps
  rows_wait_none late column ls ps none h = (h.0, λ j l p low. none_waits (late j) (column j) _ _ (none j) (h.1 j l p low))

  pub none_rows_wait : (late column : ℕ → List A) (ls : List (Lane A)) (ps : List (SendPass A)) → ((j : ℕ) → late j ≡ []) → HavePut column ls ps → HavePutBut late column ls ps
  none_rows_wait late column ls ps none h = (h.0, λ j l p low. waits_none (late j) (column j) _ _ (none j) (h.1 j l p low))

  pub rows_wait : (late more column longer : ℕ → List A) (ls : List (Lane A)) (ps : List (SendPass A)) (xs : List A) → HavePutBut late column ls ps → ((j : ℕ) → more j ≡ late j ++ item j xs) → ((j : ℕ) → longer j ≡ column j ++ item j xs) → HavePutBut more longer ls ps
  rows_wait late more column longer ls ps xs h is same = (h.0, λ j l p low. waits_more (late j) (more j) (column j) (item j xs) (longer j) _ _ (h.1 j l p low) (is j) (same j))

  pub rows_handed : (late less column : ℕ → List A) (ls : List (Lane A)) (old new : List (SendPass A)) (xs : List A) → HavePutBut late column ls old → RowPut ls old new xs → ((j : ℕ) → late j ≡ item j xs ++ less j) → HavePutBut less column ls new
  rows_handed late less column ls old new xs h r is = (r.0 ∙ h.0, λ j l p low. let s = r.0 in let was = h.1 j l p (omega arith) in let now = r.1 j l p p low in waits_less (late j) (less j) (column j) (item j xs) _ _ _ was now.0 now.1 now.2 (is j))

  -- nothing was taken
  pub row_none : (ls : List (Lane A)) (ps : List (TakePass A)) (xs : List A) → Each IsTakeOf ls ps → xs ≡ [] → RowTaken ls ps ps xs
  row_none ls ps xs all e = (
    refl,
    λ j l p q low. let same = get_or_default ps j p q low in
        (all j l q low, ap take_first (sym same), ap taken (sym same) ∙ (sym (append-nil (taken (get_or ps j p))) ∙ ap (λ ys. taken (get_or ps j p) ++ item j ys) (sym e))),
  )

-- what holds of the lane at a place, whatever stands there where none is, holds of it
pub of_lane : {A : Type 0} (P : A → Type 0) (xs : List A) (j : ℕ) (r : A) → j < length xs → P (get_or xs j r) → (x : A) → P (get_or xs j x)
of_lane P xs j r low h x = subst P (get_or_default xs j r x low) h
