-- The words that a planner took, by their places.
use Rattle.std.proofs.Common.{◌≡◌, ℕ, zero, suc, ◌+◌, ◌-◌, ◌<◌, ◌≤◌, true, List, [], ◌∷◌, ◌++◌, length, take, length-append, refl, ap, ◌∙◌, arith, inl, inr}
use Rattle.laws_board.proofs.Names.{leb_tells, WordMsg, MotionTurn, item}
use Rattle.motion_work.specs.Told.{tells_homed}
use Rattle.laws_board.specs.plans.Answers.{AnyHomed, TakesAnswer, TookNoneAhead, WaitsIn}
use Rattle.laws_board.specs.plans.Planned.{words_in}

-- the item at a place of two lists
pub item_left : {A : Type 0} (j : ℕ) (us vs : List A) → j < length us → item j (us ++ vs) ≡ item j us
item_left j [] vs h = absurd (omega (arith, h))
item_left zero (u ∷ us) vs h = refl
item_left (suc j) (u ∷ us) vs h = item_left j us vs (omega (arith, h))

pub item_right : {A : Type 0} (j : ℕ) (us vs : List A) → length us ≤ j → item j (us ++ vs) ≡ item (j - length us) vs
item_right j [] vs h = let e : j ≡ j - 0 = omega arith in ap (λ n. item n vs) e
item_right zero (u ∷ us) vs h = absurd (omega (arith, h))
item_right (suc j) (u ∷ us) vs h =
    let e : j - length us ≡ suc j - length (u ∷ us) = omega arith in
    item_right j us vs (omega (arith, h)) ∙ ap (λ n. item n vs) e

-- a word at a place
in_words : (j : ℕ) (ws : List WordMsg) → j < length ws → (w : WordMsg) × (item j ws ≡ w ∷ []) × (tells_homed w.news ≡ true → AnyHomed ws)
in_words j [] h = absurd (omega (arith, h))
in_words zero (w ∷ ws) h = (w, refl, λ e. inl e)
in_words (suc j) (w ∷ ws) h = let r = in_words j ws (omega (arith, h)) in (r.0, r.1, λ e. inr (r.2 e))

any_at : (ws : List WordMsg) → AnyHomed ws → (j : ℕ) × (w : WordMsg) × (item j ws ≡ w ∷ []) × (tells_homed w.news ≡ true) × (j < length ws)
any_at [] a = absurd a
any_at (w ∷ ws) (inl e) = (0, w, refl, e, omega arith)
any_at (w ∷ ws) (inr a) = let r = any_at ws a in let low = r.4 in (suc r.0, r.1, r.2, r.3, omega (arith, low))

-- while a section waits, the word of each turn is taken and tells of no answer
pub waits_word : (start end k taken j : ℕ) (ts : List MotionTurn) → taken ≤ k → k ≤ j → j < k + length ts → start ≤ j → j < end → WaitsIn start end k taken ts → TookNoneAhead k taken ts
    → (w : WordMsg) × (item (j - taken) (words_in ts) ≡ w ∷ []) × (tells_homed w.news ≡ true → ⊥)
waits_word start end k taken j [] few from to late soon h a = absurd (omega (arith, from, to))
waits_word start end k taken j (t ∷ ts) few from to late soon h a = elim (leb_tells (suc k) j) [
  | inl p ↦
      let low = a.0 in
      let far = p.1 in
      let r = waits_word start end (k + 1) (taken + length t.words) j ts low (omega (arith, far)) (omega (arith, to)) late soon h.1 a.1 in
      let e : j - taken - length t.words ≡ j - (taken + length t.words) = omega arith in
      (r.0, item_right (j - taken) t.words (words_in ts) (omega (arith, low, far)) ∙ ap (λ n. item n (words_in ts)) e ∙ r.1, r.2)
  | inr p ↦
      let near = p.1 in
      let w = h.0 (omega (arith, late, near, from)) (omega (arith, soon, from)) in
      let here = w.1 in
      let low : j - taken < length t.words = omega (arith, here, near, from, few) in
      let r = in_words (j - taken) t.words low in
      (r.0, item_left (j - taken) t.words (words_in ts) low ∙ r.1, λ e. w.0 (r.2 e))
]

-- a word that tells of an answer, among those of a turn
pub record IsTelling (end k : ℕ) (ts : List MotionTurn) : Type 0 where
  pub turn : ℕ
  pub at : end ≡ k + turn
  pub low : turn < length ts
  pub place : ℕ
  pub word : WordMsg
  pub is : item place (words_in ts) ≡ word ∷ []
  pub tells : tells_homed word.news ≡ true
  pub behind : length (words_in (take turn ts)) ≤ place
  pub before : place < length (words_in (take (suc turn) ts))

pub takes_word : (end k : ℕ) (ts : List MotionTurn) → TakesAnswer end k ts → IsTelling end k ts
takes_word end k [] a = absurd a
takes_word end k (t ∷ ts) (inl a) =
    let f = any_at t.words a.1 in
    let at = a.0 in
    let low = f.4 in
    let size = length-append t.words (words_in (take 0 ts)) in
    record {
      turn = 0;
      at = omega (arith, at);
      low = omega arith;
      place = f.0;
      word = f.1;
      is = item_left f.0 t.words (words_in ts) low ∙ f.2;
      tells = f.3;
      behind = omega arith;
      before = omega (arith, low, size);
    }
takes_word end k (t ∷ ts) (inr a) =
    let r = takes_word end (k + 1) ts a in
    let at = r.at in
    let behind = r.behind in
    let before = r.before in
    let first = length-append t.words (words_in (take r.turn ts)) in
    let then = length-append t.words (words_in (take (suc r.turn) ts)) in
    let e : length t.words + r.place - length t.words ≡ r.place = omega arith in
    record {
      turn = suc r.turn;
      at = omega (arith, at);
      low = let less = r.low in omega (arith, less);
      place = length t.words + r.place;
      word = r.word;
      is = item_right (length t.words + r.place) t.words (words_in ts) (omega arith) ∙ ap (λ n. item n (words_in ts)) e ∙ r.is;
      tells = r.tells;
      behind = omega (arith, behind, first);
      before = omega (arith, before, then);
    }

-- how many are taken by the end of a turn
pub ahead_by : (k taken d : ℕ) (ts : List MotionTurn) → TookNoneAhead k taken ts → d < length ts → taken + length (words_in (take (suc d) ts)) ≤ k + d + 1
ahead_by k taken d [] a h = absurd (omega (arith, h))
ahead_by k taken zero (t ∷ ts) a h = let low = a.0 in let size = length-append t.words (words_in (take 0 ts)) in omega (arith, low, size)
ahead_by k taken (suc d) (t ∷ ts) a h =
    let r = ahead_by (k + 1) (taken + length t.words) d ts a.1 (omega (arith, h)) in
    let size = length-append t.words (words_in (take (suc d) ts)) in
    omega (arith, r, size)

pub waits_by : (start end k taken d : ℕ) (ts : List MotionTurn) → WaitsIn start end k taken ts → d < length ts → start ≤ k + d → k + d < end → k + d < taken + length (words_in (take (suc d) ts))
waits_by start end k taken d [] w h late soon = absurd (omega (arith, h))
waits_by start end k taken zero (t ∷ ts) w h late soon =
    let r = (w.0 (omega (arith, late)) (omega (arith, soon))).1 in
    let size = length-append t.words (words_in (take 0 ts)) in
    omega (arith, r, size)
waits_by start end k taken (suc d) (t ∷ ts) w h late soon =
    let r = waits_by start end (k + 1) (taken + length t.words) d ts w.1 (omega (arith, h)) (omega (arith, late)) (omega (arith, soon)) in
    let size = length-append t.words (words_in (take (suc d) ts)) in
    omega (arith, r, size)

pub by_more : (a b : ℕ) (ts : List MotionTurn) → a ≤ b → length (words_in (take a ts)) ≤ length (words_in (take b ts))
by_more zero b ts h = omega arith
by_more (suc a) zero ts h = absurd (omega (arith, h))
by_more (suc a) (suc b) [] h = omega arith
by_more (suc a) (suc b) (t ∷ ts) h =
    let r = by_more a b ts (omega (arith, h)) in
    let x = length-append t.words (words_in (take a ts)) in
    let y = length-append t.words (words_in (take b ts)) in
    omega (arith, r, x, y)
