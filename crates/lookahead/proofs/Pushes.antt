-- One more move, and one more cap.
use Rattle.std.proofs.Common.{◌≡◌, ◌≢◌, ◌⊎◌, inl, inr, ℕ, zero, suc, ◌+◌, ◌-◌, ◌*◌, ◌^◌, ◌<◌, ◌≤◌, List, [], ◌∷◌, ◌++◌, drop, take, map, length, get_or, min, max, refl, arith, ap, sym, ◌∙◌, add-one, add-zero, length-drop}
use Rattle.std.proofs.lemmas.Bool.{cases_lt}
use Rattle.std.proofs.lemmas.List.{get_or-drop, get_or-take, length-take, length-take-le, map-append, length-map}
use Rattle.std.proofs.Math.ListN.{get_or-append}
use Rattle.std.proofs.Math.Seq.{get_or-append_seam, take-length}
use Rattle.std.specs.VecDeque.{deque_len, deque_capacity}
use Rattle.plan_types.specs.declared.plan.Move.{Move}
use Rattle.plan_types.specs.Numbers.{gap, least_of}
use Rattle.plan_types.specs.Speeds.{places, allowed_by, caps, later_caps, junction_cap, speed_change}
use Rattle.plan_types.proofs.Places.{length-places, places-next, places-first}
use Rattle.lookahead.specs.declared.lows.Low.{Low}
use Rattle.lookahead.specs.Lows.{no_low, IsAdded}
use Rattle.lookahead.specs.Stream.{junction_place, speed_by, rise, height, known_caps, AreLows, IsStreamOf, IsOpenStreamOf}
use Rattle.lookahead.specs.declared.stream.LookStream.{LookStream}
use Rattle.lookahead.proofs.Caps.{length-caps}
use Rattle.lookahead.proofs.Streams.{rise-next, rise-first, speed-final}

-- the caps that are known after one more move
later-next : (m : Move) (moves : List Move) (one : Move) (scv : ℕ) → take (length (m ∷ moves)) (later_caps ((m ∷ moves) ++ one ∷ []) scv) ≡ take (length moves) (later_caps (m ∷ moves) scv) ++ junction_cap (get_or (m ∷ moves) (length moves) one) one scv ∷ []
later-next m [] one scv = refl
later-next m (n ∷ moves) one scv = ap (λ cs. junction_cap m n scv ∷ cs) (later-next n moves one scv)

one_longer : {X : Type 0} (xs : List X) (x : X) → length (xs ++ x ∷ []) ≡ suc (length xs)
one_longer [] x = refl
one_longer (y ∷ xs) x = ap suc (one_longer xs x)

pub drop-before : {X : Type 0} (t : ℕ) (xs ys : List X) → t ≤ length xs → drop t (xs ++ ys) ≡ drop t xs ++ ys
drop-before zero xs ys h = refl
drop-before (suc t) [] ys h = absurd (omega arith)
drop-before (suc t) (x ∷ xs) ys h = drop-before t xs ys (omega arith)

most : (n : ℕ) → max 1 (suc n) ≡ suc n
most n = omega arith

pub known-next : (moves : List Move) (one : Move) (scv : ℕ) → 0 < length moves → known_caps (moves ++ one ∷ []) scv ≡ known_caps moves scv ++ junction_cap (get_or moves (length moves - 1) one) one scv ∷ []
known-next [] one scv h = absurd (omega arith)
known-next (m ∷ moves) one scv h =
    let e : suc (length moves) - 1 ≡ length moves = omega arith in
    let len : length (moves ++ one ∷ []) ≡ suc (length moves) = one_longer moves one in
    rw (most, most, len, e) (ap (λ cs. 0 ∷ cs) (later-next m moves one scv))

pub known-first : (one : Move) (scv : ℕ) → known_caps ([] ++ one ∷ []) scv ≡ 0 ∷ []
known-first one scv = refl

pub known-none : (scv : ℕ) → known_caps [] scv ≡ 0 ∷ []
known-none scv = refl

pub length-known : (moves : List Move) (scv : ℕ) → length (known_caps moves scv) ≡ max 1 (length moves)
length-known moves scv = let n = length-caps moves scv in length-take-le _ _ (omega arith)

-- the caps of a section that ends
pub caps-ended : (moves : List Move) (scv : ℕ) → 0 < length moves → caps moves scv ≡ known_caps moves scv ++ 0 ∷ []
caps-ended [] scv h = absurd (omega arith)
caps-ended (m ∷ moves) scv h = rw most (ap (λ cs. 0 ∷ cs) (ended m moves))
  where
    ended : (m : Move) (moves : List Move) → later_caps (m ∷ moves) scv ≡ take (length moves) (later_caps (m ∷ moves) scv) ++ 0 ∷ []
    ended m [] = refl
    ended m (n ∷ moves) = ap (λ cs. junction_cap m n scv ∷ cs) (ended n moves)

-- places and heights stay
pub place-stays : (start : ℕ) (changes : List ℕ) (c k : ℕ) → k ≤ length changes → get_or (places start (changes ++ c ∷ [])) k 0 ≡ get_or (places start changes) k 0
place-stays start [] c zero h = refl
place-stays start [] c (suc k) h = absurd (omega arith)
place-stays start (d ∷ changes) c zero h = refl
place-stays start (d ∷ changes) c (suc k) h = place-stays (start + d) changes c k (omega arith)

pub place-last : (changes : List ℕ) (c : ℕ) → junction_place (changes ++ c ∷ []) (length changes + 1) ≡ junction_place changes (length changes) + c
place-last changes c =
    let next = places-next 0 (changes ++ c ∷ []) (length changes) (longer changes c) in
    let stays = place-stays 0 changes c (length changes) (omega arith) in
    let seam = get_or-append_seam changes c [] 0 in
    omega arith
  where
    longer : (changes : List ℕ) (c : ℕ) → length changes < length (changes ++ c ∷ [])
    longer [] c = omega arith
    longer (d ∷ changes) c = let l = longer changes c in omega arith

pub rise-stays : (changes caps : List ℕ) (more_changes more_caps : List ℕ) (n j : ℕ) → ((i : ℕ) → i < n → get_or more_caps i 0 ≡ get_or caps i 0) → ((i : ℕ) → i + 1 < n → get_or more_changes i 0 ≡ get_or changes i 0) → j < n → rise more_changes more_caps j ≡ rise changes caps j
rise-stays changes caps more_changes more_caps n zero same_caps same_changes h = rise-first more_changes more_caps ∙ same_caps 0 h ∙ sym (rise-first changes caps)
rise-stays changes caps more_changes more_caps n (suc j) same_caps same_changes h =
    let a = rise-next more_changes more_caps j in
    let b = rise-next changes caps j in
    let r = rise-stays changes caps more_changes more_caps n j same_caps same_changes (omega arith) in
    let c = same_caps (suc j) h in
    let d = same_changes j (omega arith) in
    omega arith

-- the lows at other heights that agree
pub lows-stay : (hs hs' : ℕ → ℕ) (n from : ℕ) (lows : List Low) → ((j : ℕ) → j < n → hs' j ≡ hs j) → AreLows hs n from lows → AreLows hs' n from lows
lows-stay hs hs' n from lows same are = record {
  each_from = are.each_from;
  each_to = are.each_to;
  each_is = λ e h. are.each_is e h ∙ sym (same _ (are.each_to e h));
  rising = are.rising;
  onward = are.onward;
  covered = λ j h l. (let c = are.covered j h l in (c.0, c.1, c.2, (let s = same j l in let low = c.3 in omega arith)));
}

-- one more low
pub lows-added : (hs : ℕ → ℕ) (n from : ℕ) (old new : List Low) (height : ℕ) → AreLows hs n from old → IsAdded old new n height → hs n ≡ height → from ≤ n → AreLows hs (n + 1) from new
lows-added hs n from old new height are added is inside =
    let low : Low = record { at = n; height = height } in
    let k = added.kept in
    let len : length (take k old) ≡ k = length-take-le k old added.within in
    let count : length new ≡ suc (length (take k old)) = ap length added.is ∙ one_longer (take k old) low in
    let front : (e : ℕ) → e < k → get_or new e no_low ≡ get_or old e no_low = λ e h. ap (λ xs. get_or xs e no_low) added.is ∙ get_or-append (take k old) (low ∷ []) no_low e (omega arith) ∙ get_or-take k old e no_low h in
    let last : get_or new k no_low ≡ low = ap (λ i. get_or new i no_low) (sym len) ∙ ap (λ xs. get_or xs (length (take k old)) no_low) added.is ∙ get_or-append_seam (take k old) low [] no_low in
    let within = added.within in
    record {
      each_from = λ e h. elim (cases_lt e k) as (λ _. from ≤ (get_or new e no_low).at) [
        | inl p ↦ (let o = are.each_from e (omega arith) in rw (front e p) o)
        | inr p ↦ (let i : e ≡ k = omega arith in rw (i, last) inside)
      ];
      each_to = λ e h. elim (cases_lt e k) as (λ _. (get_or new e no_low).at < n + 1) [
        | inl p ↦ (let o = are.each_to e (omega arith) in rw (front e p) (omega arith))
        | inr p ↦ (let i : e ≡ k = omega arith in rw (i, last) (omega arith))
      ];
      each_is = λ e h. elim (cases_lt e k) as (λ _. (get_or new e no_low).height ≡ hs ((get_or new e no_low).at)) [
        | inl p ↦ (let o = are.each_is e (omega arith) in rw (front e p) o)
        | inr p ↦ (let i : e ≡ k = omega arith in rw (i, last) (sym is))
      ];
      rising = λ e f h l. elim (cases_lt f k) as (λ _. (get_or new e no_low).height < (get_or new f no_low).height) [
        | inl p ↦ (let o = are.rising e f h (omega arith) in rw (front e (omega arith), front f p) o)
        | inr p ↦ (
            let i : f ≡ k = omega arith in
            let below = added.below (omega arith) in
            rw (front e (omega arith), i, last) (elim (cases_lt e (k - 1)) as (λ _. (get_or old e no_low).height < height) [
              | inl q ↦ (let r = are.rising e (k - 1) q (omega arith) in omega arith)
              | inr q ↦ (let j : e ≡ k - 1 = omega arith in rw j below)
            ]))
      ];
      onward = λ e f h l. elim (cases_lt f k) as (λ _. (get_or new e no_low).at < (get_or new f no_low).at) [
        | inl p ↦ (let o = are.onward e f h (omega arith) in rw (front e (omega arith), front f p) o)
        | inr p ↦ (let i : f ≡ k = omega arith in rw (front e (omega arith), i, last) (are.each_to e (omega arith)))
      ];
      covered = λ j h l. elim (cases_lt j n) [
        | inl p ↦ (
            let c = are.covered j h p in
            elim (cases_lt c.0 k) [
              | inl q ↦ (c.0, (let m = c.1 in omega arith), rw (front c.0 q) (c.2), rw (front c.0 q) (c.3))
              | inr q ↦ (k, omega arith, rw last (omega arith), rw last (let d = added.dropped c.0 q c.1 in let o = c.3 in omega arith))
            ])
        | inr p ↦ (let i : j ≡ n = omega arith in (k, omega arith, rw last (omega arith), rw (last, i, is) (omega arith)))
      ];
    }

-- the rise at the new junction, and the others
module _ (ch caps ch' : List ℕ) (cap n : ℕ) (count : length caps ≡ n) (changes : length ch ≡ n) (some : 0 < n) (same_places : (i : ℕ) → i ≤ n → junction_place ch' i ≡ junction_place ch i) (same_changes : (i : ℕ) → i < n → get_or ch' i 0 ≡ get_or ch i 0) where
  same_caps : (i : ℕ) → i < n → get_or (caps ++ cap ∷ []) i 0 ≡ get_or caps i 0
  same_caps i h = get_or-append caps (cap ∷ []) 0 i (omega arith)

  pub new_cap : get_or (caps ++ cap ∷ []) n 0 ≡ cap
  new_cap = ap (λ i. get_or (caps ++ cap ∷ []) i 0) (sym count) ∙ get_or-append_seam caps cap [] 0

  pub new_rise : rise ch' (caps ++ cap ∷ []) n ≡ min cap (rise ch caps (n - 1) + get_or ch (n - 1) 0)
  new_rise =
      let e : suc (n - 1) ≡ n = omega arith in
      let next = rw e at (rise-next ch' (caps ++ cap ∷ []) (n - 1)) in
      let stays = rise-stays ch caps ch' (caps ++ cap ∷ []) n (n - 1) same_caps (λ i h. same_changes i (omega arith)) (omega arith) in
      let c = new_cap in
      let d = same_changes (n - 1) (omega arith) in
      omega arith

  pub lows-next : (from risen reach : ℕ) (old new : List Low) → risen ≡ min cap (rise ch caps (n - 1) + get_or ch (n - 1) 0) → reach ≡ junction_place ch n → AreLows (height ch caps) n from old → IsAdded old new n (risen + reach) → from ≤ n → AreLows (height ch' (caps ++ cap ∷ [])) (n + 1) from new
  lows-next from risen reach old new is end are added inside =
      let same : (j : ℕ) → j < n → height ch' (caps ++ cap ∷ []) j ≡ height ch caps j =
      λ j h. (
      let r = rise-stays ch caps ch' (caps ++ cap ∷ []) n j same_caps (λ i l. same_changes i (omega arith)) h in
      let p = same_places j (omega arith) in
      omega arith) in
      let r = new_rise in
      let p = same_places n (omega arith) in
      lows-added (height ch' (caps ++ cap ∷ [])) n from old new (risen + reach) (lows-stay (height ch caps) (height ch' (caps ++ cap ∷ [])) n from old same are) added (omega arith) inside

  pub start-next : (t : ℕ) → t < n → n ≤ length ch' → speed_by ch caps t + junction_place ch t ≤ junction_place ch n → speed_by ch' (caps ++ cap ∷ []) t ≡ speed_by ch caps t
  start-next t inside longer final =
      let more : length (caps ++ cap ∷ []) ≡ suc (length caps) = one_longer caps cap in
      let end : junction_place ch (length caps) ≡ junction_place ch n = ap (junction_place ch) count in
      speed-final ch caps ch' (caps ++ cap ∷ []) t (omega arith) (omega arith) (omega arith) (omega arith) (λ j h. same_caps j (omega arith)) (λ j h. same_places j (omega arith)) (omega arith) (omega arith)

-- a stream after a push
pub pushed-later : (old new : LookStream) (scv : ℕ) (moves : List Move) (one : Move) (risen : ℕ) → IsOpenStreamOf old scv moves → 0 < length moves → length moves < 2_000_000 → speed_change one < 2 ^ 105 → new.scv ≡ old.scv → new.moves.items ≡ old.moves.items ++ one ∷ [] → new.taken ≡ old.taken → new.passed ≡ old.passed → new.start ≡ old.start → new.pushed ≡ old.pushed + 1 → new.reach ≡ old.reach + speed_change one → new.risen ≡ risen + speed_change one → risen ≡ min (junction_cap (get_or old.moves.items (length old.moves.items - 1) one) one old.scv) old.risen → IsAdded old.lows.items new.lows.items old.pushed (risen + old.reach) → deque_len new.lows < deque_capacity new.lows → IsOpenStreamOf new scv (moves ++ one ∷ [])
pushed-later old new scv moves one risen going some few small e1 e2 e3 e4 e5 e6 e7 e8 rise_is added room =
    let is = going.stream in
    let n = length moves in
    let ch = map speed_change moves in
    let ch' = map speed_change (moves ++ one ∷ []) in
    let caps = known_caps moves scv in
    let cap = junction_cap (get_or moves (n - 1) one) one scv in
    let mapped : ch' ≡ ch ++ speed_change one ∷ [] = map-append speed_change moves (one ∷ []) in
    let changes : length ch ≡ n = length-map moves speed_change in
    let changes' : length ch' ≡ suc n = length-map (moves ++ one ∷ []) speed_change ∙ one_longer moves one in
    let known : known_caps (moves ++ one ∷ []) scv ≡ caps ++ cap ∷ [] = known-next moves one scv some in
    let count : length caps ≡ n = length-known moves scv ∙ omega arith in
    let inside : old.taken < n = (let i = is.taken_inside in omega arith) in
    let pushed = is.pushed_is in
    let rest : length old.moves.items ≡ n - old.taken = ap length is.waiting ∙ length-drop old.taken moves in
    let last : get_or old.moves.items (length old.moves.items - 1) one ≡ get_or moves (n - 1) one =
    (let i : old.taken + (length old.moves.items - 1) ≡ n - 1 = omega arith in ap (λ xs. get_or xs (length old.moves.items - 1) one) is.waiting ∙ get_or-drop old.taken moves (length old.moves.items - 1) one ∙ ap (λ i. get_or moves i one) i) in
    let cap_is : junction_cap (get_or old.moves.items (length old.moves.items - 1) one) one old.scv ≡ cap = ap (λ m. junction_cap m one old.scv) last ∙ ap (junction_cap (get_or moves (n - 1) one) one) is.scv_is in
    let places : (i : ℕ) → i ≤ n → junction_place ch' i ≡ junction_place ch i = λ i h. ap (λ xs. junction_place xs i) mapped ∙ place-stays 0 ch (speed_change one) i (omega arith) in
    let same : (i : ℕ) → i < n → get_or ch' i 0 ≡ get_or ch i 0 = λ i h. ap (λ xs. get_or xs i 0) mapped ∙ get_or-append ch (speed_change one ∷ []) 0 i (omega arith) in
    let new_change : get_or ch' n 0 ≡ speed_change one = ap (λ i. get_or ch' i 0) (sym changes) ∙ ap (λ xs. get_or xs (length ch) 0) mapped ∙ get_or-append_seam ch (speed_change one) [] 0 in
    let before : old.risen ≡ rise ch caps (n - 1) + get_or ch (n - 1) 0 = going.risen_is (omega arith) ∙ ap (λ i. rise ch caps (i - 1) + get_or ch (i - 1) 0) pushed in
    let risen_is : risen ≡ min cap (rise ch caps (n - 1) + get_or ch (n - 1) 0) = rise_is ∙ ap (λ x. min x old.risen) cap_is ∙ ap (min cap) before in
    let rise' = new_rise ch caps ch' cap n count changes some places same in
    let end : old.reach ≡ junction_place ch n = is.reach_is ∙ ap (junction_place ch) pushed in
    let next : junction_place ch' (n + 1) ≡ junction_place ch' n + get_or ch' n 0 = places-next 0 ch' n (omega arith) in
    let here = places n (omega arith) in
    let passed = is.passed_is in
    let start = is.start_is in
    let final = is.start_final in
    let reach_small = is.reach_small in
    let start' = start-next ch caps ch' cap n count changes some places same old.taken inside (omega arith) (omega arith) in
    let at_taken = places old.taken (omega arith) in
    let added' : IsAdded old.lows.items new.lows.items n (risen + old.reach) = rw (← pushed) added in
    let low : AreLows (height ch caps) n (old.taken + 1) old.lows.items = rw count at is.lows in
    let lows' = lows-next ch caps ch' cap n count changes some places same (old.taken + 1) risen old.reach old.lows.items new.lows.items risen_is end low added' (omega arith) in
    let longer : length (moves ++ one ∷ []) ≡ n + 1 = one_longer moves one ∙ omega arith in
    let counted : length (known_caps (moves ++ one ∷ []) scv) ≡ n + 1 = length-known (moves ++ one ∷ []) scv ∙ omega arith in
    let new_pushed : new.pushed ≡ n + 1 = omega arith in
    record {
      stream = record {
        scv_is = e1 ∙ is.scv_is;
        waiting = e2 ∙ ap (λ xs. xs ++ one ∷ []) is.waiting ∙ sym (ap (λ i. drop i (moves ++ one ∷ [])) e3 ∙ drop-before old.taken moves (one ∷ []) (omega arith));
        pushed_is = omega arith;
        caps_count = omega arith;
        taken_inside = omega arith;
        taken_within = omega arith;
        passed_is = e4 ∙ passed ∙ sym at_taken ∙ ap (junction_place ch') (sym e3);
        reach_is = (let x : new.reach ≡ junction_place ch' (n + 1) = omega arith in x ∙ ap (junction_place ch') (sym new_pushed));
        start_is = e5 ∙ start ∙ sym start' ∙ ap (λ i. speed_by ch' (caps ++ cap ∷ []) i) (sym e3) ∙ ap (λ xs. speed_by ch' xs new.taken) (sym known);
        reach_small = omega arith;
        few = omega arith;
        start_final = omega arith;
        lows = rw (known, one_longer, count, e3) (rw add-one at lows');
      };
      risen_is = λ h. (
          let x : new.risen ≡ rise ch' (caps ++ cap ∷ []) n + get_or ch' n 0 = omega arith in
          let i : n ≡ new.pushed - 1 = omega arith in
          x ∙ ap (λ j. rise ch' (caps ++ cap ∷ []) j + get_or ch' j 0) i ∙ ap (λ xs. rise ch' xs (new.pushed - 1) + get_or ch' (new.pushed - 1) 0) (sym known));
      not_yet = λ h. absurd (omega arith);
      room = λ h. room;
    }

pushed-first : (old new : LookStream) (scv : ℕ) (one : Move) (risen : ℕ) → IsOpenStreamOf old scv [] → speed_change one < 2 ^ 105 → new.scv ≡ old.scv → new.moves.items ≡ old.moves.items ++ one ∷ [] → new.taken ≡ old.taken → new.passed ≡ old.passed → new.start ≡ old.start → new.pushed ≡ old.pushed + 1 → new.reach ≡ old.reach + speed_change one → new.risen ≡ risen + speed_change one → risen ≡ 0 → new.lows.items ≡ old.lows.items → deque_len new.lows < deque_capacity new.lows → IsOpenStreamOf new scv (one ∷ [])
pushed-first old new scv one risen going small e1 e2 e3 e4 e5 e6 e7 e8 zero_is lows_is room =
    let is = going.stream in
    let none : old.taken ≡ 0 = (let i = is.taken_inside in omega arith) in
    let pushed : old.pushed ≡ 0 = is.pushed_is in
    let new_pushed : new.pushed ≡ 1 = omega arith in
    let reach : old.reach ≡ 0 = is.reach_is ∙ ap (junction_place []) pushed in
    let passed : old.passed ≡ 0 = is.passed_is ∙ ap (junction_place []) none in
    let start : old.start ≡ 0 = is.start_is ∙ ap (speed_by [] (0 ∷ [])) none ∙ omega arith in
    let final = is.start_final in
    let ch' : List ℕ = speed_change one ∷ [] in
    let same : (j : ℕ) → j < 1 → height ch' (0 ∷ []) j ≡ height [] (0 ∷ []) j = λ j h. (let i : j ≡ 0 = omega arith in let a = rise-first ch' (0 ∷ []) in let b = rise-first [] (0 ∷ []) in rw i (omega arith)) in
    let low = lows-stay (height [] (0 ∷ [])) (height ch' (0 ∷ [])) 1 (old.taken + 1) old.lows.items same is.lows in
    record {
      stream = record {
        scv_is = e1 ∙ is.scv_is;
        waiting = e2 ∙ ap (λ xs. xs ++ one ∷ []) (is.waiting ∙ ap (λ i. drop i []) none) ∙ sym (ap (λ i. drop i (one ∷ [])) (e3 ∙ none));
        pushed_is = omega arith;
        caps_count = omega arith;
        taken_inside = omega arith;
        taken_within = omega arith;
        passed_is = e4 ∙ passed ∙ sym (ap (junction_place ch') (e3 ∙ none));
        reach_is = (let x : new.reach ≡ junction_place ch' 1 = omega arith in x ∙ ap (junction_place ch') (sym new_pushed));
        start_is = e5 ∙ start ∙ sym (ap (speed_by ch' (0 ∷ [])) (e3 ∙ none) ∙ omega arith);
        reach_small = omega arith;
        few = omega arith;
        start_final = omega arith;
        lows = rw (lows_is, e3) low;
      };
      risen_is = λ h. (
          let a = rise-first ch' (0 ∷ []) in
          let x : new.risen ≡ rise ch' (0 ∷ []) 0 + speed_change one = omega arith in
          let i : 0 ≡ new.pushed - 1 = omega arith in
          x ∙ ap (λ j. rise ch' (0 ∷ []) j + get_or ch' j 0) i);
      not_yet = λ h. absurd (omega arith);
      room = λ h. room;
    }

-- a stream after a push, whether it is the first or not
pub pushed : (old new : LookStream) (scv : ℕ) (moves : List Move) (one : Move) (risen : ℕ) → IsOpenStreamOf old scv moves → length moves < 2_000_000 → speed_change one < 2 ^ 105 → new.scv ≡ old.scv → new.moves.items ≡ old.moves.items ++ one ∷ [] → new.taken ≡ old.taken → new.passed ≡ old.passed → new.start ≡ old.start → new.pushed ≡ old.pushed + 1 → new.reach ≡ old.reach + speed_change one → new.risen ≡ risen + speed_change one → (length old.moves.items ≡ 0 → risen ≡ 0) → (0 < length old.moves.items → risen ≡ min (junction_cap (get_or old.moves.items (length old.moves.items - 1) one) one old.scv) old.risen) → (old.pushed ≡ 0 → new.lows.items ≡ old.lows.items) → (0 < old.pushed → IsAdded old.lows.items new.lows.items old.pushed (risen + old.reach)) → deque_len new.lows < deque_capacity new.lows → IsOpenStreamOf new scv (moves ++ one ∷ [])
pushed old new scv [] one risen going few small e1 e2 e3 e4 e5 e6 e7 e8 first later low lows room =
    let none : old.taken ≡ 0 = (let i = going.stream.taken_inside in omega arith) in
    let empty : length old.moves.items ≡ 0 = ap length (going.stream.waiting ∙ ap (λ i. drop i []) none) in
    pushed-first old new scv one risen going small e1 e2 e3 e4 e5 e6 e7 e8 (first empty) (low going.stream.pushed_is) room
pushed old new scv (m ∷ moves) one risen going few small e1 e2 e3 e4 e5 e6 e7 e8 first later low lows room =
    let is = going.stream in
    let count : length (known_caps (m ∷ moves) scv) ≡ suc (length moves) = length-known (m ∷ moves) scv ∙ omega arith in
    let inside = is.taken_inside in
    let rest : length old.moves.items ≡ suc (length moves) - old.taken = ap length is.waiting ∙ length-drop old.taken (m ∷ moves) in
    let pushed_is = is.pushed_is in
    pushed-later old new scv (m ∷ moves) one risen going (omega arith) few small e1 e2 e3 e4 e5 e6 e7 e8 (later (omega arith)) (lows (omega arith)) room

-- a stream after its end is known
finished-later : (old new : LookStream) (scv : ℕ) (moves : List Move) → IsOpenStreamOf old scv moves → 0 < length moves → new.scv ≡ old.scv → new.moves.items ≡ old.moves.items → new.taken ≡ old.taken → new.passed ≡ old.passed → new.start ≡ old.start → new.pushed ≡ old.pushed → new.reach ≡ old.reach → IsAdded old.lows.items new.lows.items old.pushed (0 + old.reach) → IsStreamOf new scv moves (caps moves scv)
finished-later old new scv moves going some e1 e2 e3 e4 e5 e6 e7 added =
    let is = going.stream in
    let n = length moves in
    let ch = map speed_change moves in
    let known = known_caps moves scv in
    let changes : length ch ≡ n = length-map moves speed_change in
    let ended : caps moves scv ≡ known ++ 0 ∷ [] = caps-ended moves scv some in
    let all = length-caps moves scv in
    let count : length known ≡ n = length-known moves scv ∙ omega arith in
    let pushed = is.pushed_is in
    let places : (i : ℕ) → i ≤ n → junction_place ch i ≡ junction_place ch i = λ i h. refl in
    let same : (i : ℕ) → i < n → get_or ch i 0 ≡ get_or ch i 0 = λ i h. refl in
    let end : old.reach ≡ junction_place ch n = is.reach_is ∙ ap (junction_place ch) pushed in
    let inside : old.taken < n = (let i = is.taken_inside in omega arith) in
    let passed = is.passed_is in
    let start = is.start_is in
    let final = is.start_final in
    let small = is.reach_small in
    let start' = start-next ch known ch 0 n count changes some places same old.taken inside (omega arith) (omega arith) in
    let added' : IsAdded old.lows.items new.lows.items n (0 + old.reach) = rw (← pushed) added in
    let low : AreLows (height ch known) n (old.taken + 1) old.lows.items = rw count at is.lows in
    let lows' = lows-next ch known ch 0 n count changes some places same (old.taken + 1) 0 old.reach old.lows.items new.lows.items (omega arith) end low added' (omega arith) in
    let whole : length (caps moves scv) ≡ n + 1 = all in
    record {
      scv_is = e1 ∙ is.scv_is;
      waiting = e2 ∙ is.waiting ∙ ap (λ i. drop i moves) (sym e3);
      pushed_is = e6 ∙ is.pushed_is;
      caps_count = omega arith;
      taken_inside = omega arith;
      taken_within = omega arith;
      passed_is = e4 ∙ passed ∙ ap (junction_place ch) (sym e3);
      reach_is = e7 ∙ is.reach_is ∙ ap (junction_place ch) (sym e6);
      start_is = e5 ∙ start ∙ sym start' ∙ ap (speed_by ch (known ++ 0 ∷ [])) (sym e3) ∙ ap (λ xs. speed_by ch xs new.taken) (sym ended);
      reach_small = omega arith;
      few = is.few;
      start_final = omega arith;
      lows = (let l : AreLows (height ch (known ++ 0 ∷ [])) (length (caps moves scv)) (new.taken + 1) new.lows.items = rw (whole, e3) lows' in lows-stay (height ch (known ++ 0 ∷ [])) (height ch (caps moves scv)) (length (caps moves scv)) (new.taken + 1) new.lows.items (λ j h. ap (λ xs. height ch xs j) ended) l);
    }

pub finished : (old new : LookStream) (scv : ℕ) (moves : List Move) → IsOpenStreamOf old scv moves → new.scv ≡ old.scv → new.moves.items ≡ old.moves.items → new.taken ≡ old.taken → new.passed ≡ old.passed → new.start ≡ old.start → new.pushed ≡ old.pushed → new.reach ≡ old.reach → (old.pushed ≡ 0 → new.lows.items ≡ old.lows.items) → (0 < old.pushed → IsAdded old.lows.items new.lows.items old.pushed (0 + old.reach)) → IsStreamOf new scv moves (caps moves scv)
finished old new scv [] going e1 e2 e3 e4 e5 e6 e7 low lows =
    let is = going.stream in
    record {
      scv_is = e1 ∙ is.scv_is;
      waiting = e2 ∙ is.waiting ∙ ap (λ i. drop i []) (sym e3);
      pushed_is = e6 ∙ is.pushed_is;
      caps_count = is.caps_count;
      taken_inside = (let i = is.taken_inside in omega arith);
      taken_within = (let i = is.taken_within in omega arith);
      passed_is = e4 ∙ is.passed_is ∙ ap (junction_place []) (sym e3);
      reach_is = e7 ∙ is.reach_is ∙ ap (junction_place []) (sym e6);
      start_is = e5 ∙ is.start_is ∙ ap (speed_by [] (0 ∷ [])) (sym e3);
      reach_small = (let i = is.reach_small in omega arith);
      few = is.few;
      start_final = (let i = is.start_final in omega arith);
      lows = rw (low is.pushed_is, e3) is.lows;
    }
finished old new scv (m ∷ moves) going e1 e2 e3 e4 e5 e6 e7 low lows =
    let is = going.stream in
    let pushed_is = is.pushed_is in
    finished-later old new scv (m ∷ moves) going (omega arith) e1 e2 e3 e4 e5 e6 e7 (lows (omega arith))

-- a stream with the same contents, and no less room
pub same-stream : (old new : LookStream) (scv : ℕ) (moves : List Move) → IsOpenStreamOf old scv moves → new.scv ≡ old.scv → new.moves.items ≡ old.moves.items → new.lows.items ≡ old.lows.items → new.taken ≡ old.taken → new.passed ≡ old.passed → new.start ≡ old.start → new.pushed ≡ old.pushed → new.reach ≡ old.reach → new.risen ≡ old.risen → (deque_len old.lows < deque_capacity old.lows → deque_len new.lows < deque_capacity new.lows) → IsOpenStreamOf new scv moves
same-stream old new scv moves going e1 e2 e3 e4 e5 e6 e7 e8 e9 room =
    let is = going.stream in
    let ch = map speed_change moves in
    let known = known_caps moves scv in
    record {
      stream = record {
        scv_is = e1 ∙ is.scv_is;
        waiting = e2 ∙ is.waiting ∙ ap (λ i. drop i moves) (sym e4);
        pushed_is = e7 ∙ is.pushed_is;
        caps_count = is.caps_count;
        taken_inside = (let i = is.taken_inside in omega arith);
        taken_within = (let i = is.taken_within in omega arith);
        passed_is = e5 ∙ is.passed_is ∙ ap (junction_place ch) (sym e4);
        reach_is = e8 ∙ is.reach_is ∙ ap (junction_place ch) (sym e7);
        start_is = e6 ∙ is.start_is ∙ ap (speed_by ch known) (sym e4);
        reach_small = (let i = is.reach_small in omega arith);
        few = is.few;
        start_final = (let i = is.start_final in omega arith);
        lows = rw (e3, e4) is.lows;
      };
      risen_is = λ h. (e9 ∙ going.risen_is (omega arith) ∙ ap (λ j. rise ch known (j - 1) + get_or ch (j - 1) 0) (sym e7));
      not_yet = λ h. (e9 ∙ going.not_yet (omega arith));
      room = λ h. room (going.room (omega arith));
    }
