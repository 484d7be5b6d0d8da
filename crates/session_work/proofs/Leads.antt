-- What is put ahead.
use Rattle.std.proofs.Common.{◌≡◌, ℕ, zero, suc, ◌+◌, ◌<◌, List, [], ◌∷◌, ◌++◌, length, get_or, false, refl, sym, ap, subst, ◌∙◌, arith, append-nil, append_assoc, length-append}
use Rattle.lane_queue.specs.declared.ends.Lane.{Lane}
use Rattle.lane_queue.specs.declared.passes.SendPass.{SendPass}
use Rattle.session_work.specs.declared.ends.Lanes.{Lanes}
use Rattle.lane_queue.specs.Ends.{IsSendOf, put, put_first, next_put}
use Rattle.msg_code.specs.declared.unit.Control.{Control}
use Rattle.msg_code.specs.declared.talk.WordMsg.{WordMsg}
use Rattle.session_work.specs.Bares.{bare_control, bare_word}
use Rattle.session_work.specs.Leads.{each_turn, still_control, still_word, RowsPut, HasLed}
use Rattle.session_work.specs.Rows.{gather, item, copies, CanPut, HasPut, HavePut, PutMore, RowPut}
use Rattle.session_work.proofs.Each.{item_copies}
use Rattle.session_work.proofs.Goes.{gather_on}

pub length_each : {T : Type 0} (f : ℕ → T) (k n : ℕ) → length (each_turn f k n) ≡ n
length_each f k zero = refl
length_each f k (suc n) = ap suc (length_each f (k + 1) n)

pub each_join : {T : Type 0} (f : ℕ → T) (k a b : ℕ) → each_turn f k a ++ each_turn f (k + a) b ≡ each_turn f k (a + b)
each_join f k zero b = let e : k + 0 ≡ k = omega arith in let z : b ≡ 0 + b = omega arith in ap (λ i. each_turn f i b) e ∙ ap (each_turn f k) z
each_join f k (suc a) b = let e : k + suc a ≡ (k + 1) + a = omega arith in
    let z : suc (a + b) ≡ suc a + b = omega arith in
    ap (λ i. f k ∷ (each_turn f (k + 1) a ++ each_turn f i b)) e ∙ (ap (λ xs. f k ∷ xs) (each_join f (k + 1) a b) ∙ ap (each_turn f k) z)

module _ {T B : Type 0} (f : T → List B) (still : ℕ → B) (ts : List T) (t : T) where
  -- nothing was put ahead, and turn k is put
  pub first_said : (k n : ℕ) → n ≡ 0 → gather f (ts ++ t ∷ []) ++ each_turn still (k + 1) 0 ≡ (gather f ts ++ each_turn still k n) ++ f t
  first_said k n none =
      let e : each_turn still k n ≡ [] = ap (each_turn still k) none in
      append-nil _ ∙ (gather_on f ts t ∙ ap (λ r. r ++ f t) (sym (append-nil (gather f ts)) ∙ ap (λ x. gather f ts ++ x) (sym e)))

  -- turn k was put ahead
  pub still_said : (k n m : ℕ) → f t ≡ still k ∷ [] → n ≡ m + 1 → gather f ts ++ each_turn still k n ≡ gather f (ts ++ t ∷ []) ++ each_turn still (k + 1) m
  still_said k n m here more =
      let e : n ≡ suc m = omega (arith, more) in
      ap (λ i. gather f ts ++ each_turn still k i) e
      ∙ (sym (append_assoc (gather f ts) (still k ∷ []) (each_turn still (k + 1) m)) ∙ ap (λ r. r ++ each_turn still (k + 1) m) (ap (λ x. gather f ts ++ x) (sym here) ∙ sym (gather_on f ts t)))

module _ {B : Type 0} (xs : List B) (still : ℕ → B) where
  pub more_said : (k n i next : ℕ) → next ≡ k + n → xs ++ each_turn still k (n + i) ≡ (xs ++ each_turn still k n) ++ each_turn still next i
  more_said k n i next at =
      ap (λ r. xs ++ r) (sym (each_join still k n i)) ∙ (sym (append_assoc xs (each_turn still k n) (each_turn still (k + n) i)) ∙ ap (λ j. (xs ++ each_turn still k n) ++ each_turn still j i) (sym at))

  pub last_said : (last : ℕ → B) (l k n next : ℕ) → l ≡ k → next ≡ l + n → xs ++ (each_turn still l n ++ last (l + n) ∷ []) ≡ (xs ++ each_turn still k n) ++ last next ∷ []
  last_said last l k n next same at =
      sym (append_assoc xs (each_turn still l n) (last (l + n) ∷ [])) ∙ (λ i. (xs ++ each_turn still (same i) n) ++ last (sym at i) ∷ [])

module _ {A : Type 0} where
  pub put_same : (xs ys : List A) (l : Lane A) (p : SendPass A) → HasPut xs l p → xs ≡ ys → HasPut ys l p
  put_same xs ys l p h e = (h.0, h.1, h.2 ∙ e)

  pub put_as : (column other : ℕ → List A) (ls : List (Lane A)) (ps : List (SendPass A)) → HavePut column ls ps → ((j : ℕ) → j < length ls → column j ≡ other j) → HavePut other ls ps
  put_as column other ls ps h e = (h.0, λ j l p low. let n = h.0 in put_same (column j) (other j) _ _ (h.1 j l p low) (e j (omega (arith, n, low))))

  pub rows_put : (column longer : ℕ → List A) (ls : List (Lane A)) (old new : List (SendPass A)) (xs : List A) → HavePut column ls old → RowsPut ls old new xs → ((j : ℕ) → longer j ≡ column j ++ xs) → HavePut longer ls new
  rows_put column longer ls old new xs h r is = (r.0 ∙ h.0, λ j l p low. let s = r.0 in let was = h.1 j l p (omega (arith, s, low)) in let now = r.1 j l p p low in (now.0, now.1 ∙ was.1, now.2 ∙ (ap (λ ys. ys ++ xs) was.2 ∙ sym (is j))))

  -- a row of the same message
  pub copies_put : (ls : List (Lane A)) (old new : List (SendPass A)) (x : A) → length old ≡ length ls → RowPut ls old new (copies (length ls) x) → RowsPut ls old new (x ∷ [])
  copies_put ls old new x size r = (r.0, λ j l p q low. let now = r.1 j l p q low in let s = r.0 in (now.0, now.1, now.2 ∙ ap (λ ys. put (get_or old j p) ++ ys) (item_copies (length ls) x j (omega (arith, s, size, low)))))

  -- the numbers go on behind what was put
  pub next_more : (f : ℕ → A) (k n i : ℕ) (old new : SendPass A) → next_put old ≡ k → put_first new ≡ put_first old → put new ≡ put old ++ each_turn f k n → i ≡ k + n → next_put new ≡ i
  next_more f k n i old new was first more at =
      let u = ap length more in let v = length-append (put old) (each_turn f k n) in let w = length_each f k n in omega (arith, was, first, at, u, v, w)

  pub each_push : (f : ℕ → A) (k n i : ℕ) → i ≡ k + n → each_turn f k n ++ f i ∷ [] ≡ each_turn f k (n + 1)
  each_push f k n i at = ap (λ j. each_turn f k n ++ f j ∷ []) at ∙ each_join f k n 1

  -- one message more behind those of n turns
  pub push_more : (f : ℕ → A) (k n i : ℕ) (l : Lane A) (old now new : SendPass A) → i ≡ k + n → PutMore (each_turn f k n) l old now → PutMore (f i ∷ []) l now new → PutMore (each_turn f k (n + 1)) l old new
  push_more f k n i l old now new at was is = (is.0, is.1 ∙ was.1, is.2 ∙ (ap (λ xs. xs ++ f i ∷ []) was.2 ∙ (append_assoc (put old) (each_turn f k n) (f i ∷ []) ∙ ap (λ xs. put old ++ xs) (each_push f k n i at))))

module _ (lanes : Lanes) (k n i : ℕ) (wp wq : SendPass WordMsg) (cps cqs : List (SendPass Control)) (at : i ≡ k + n) (led : HasLed lanes k n wp wq cps cqs) where
  pub led_controls : CanPut k lanes.controls.now cps → CanPut i lanes.controls.now cqs
  led_controls can j l p low = let s = led.0.0 in let x = led.0.1 j l p p low in let was = can j l p (omega (arith, s, low)) in
      (x.0, next_more still_control k n i _ _ was.1 x.1 x.2 at)

  pub led_words : next_put wp ≡ k → next_put wq ≡ i
  led_words was = next_more still_word k n i _ _ was led.1.1 led.1.2 at

  pub led_more : (wr : SendPass WordMsg) (crs : List (SendPass Control)) → length cps ≡ length lanes.controls.now → RowPut lanes.controls.now cqs crs (copies (length lanes.controls.now) (bare_control i false)) → PutMore (bare_word i false ∷ []) lanes.words.now wq wr
      → HasLed lanes k (n + 1) wp wr cps crs
  led_more wr crs size row word = let one = copies_put lanes.controls.now cqs crs (bare_control i false) (led.0.0 ∙ size) row in (
    (one.0 ∙ led.0.0, λ j l p q low. let s = one.0 in push_more still_control k n i _ _ _ _ at (led.0.1 j l p p (omega (arith, s, low))) (one.1 j l p q low)),
    push_more still_word k n i _ _ _ _ at led.1 word,
  )
