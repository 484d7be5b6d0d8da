-- What a settled speed means for the whole section, whatever moves follow.
use Rattle.std.proofs.Common.{◌≡◌, ℕ, zero, suc, ◌+◌, ◌-◌, ◌<◌, ◌≤◌, List, [], ◌∷◌, ◌++◌, map, take, length, get_or, min, max, refl, arith, ap, sym, ◌∙◌, length-append, ◌⊎◌, inl, inr, Option, Some, None}
use Rattle.std.specs.Prelude.{MatchOption, slice_index_or}
use Rattle.std.specs.VecDeque.{deque_len, deque_capacity}
use Rattle.std.proofs.lemmas.Bool.{cases_lt}
use Rattle.std.proofs.lemmas.List.{get_or-map, get_or-take, map-append, length-map}
use Rattle.plan_types.specs.declared.plan.Move.{Move}
use Rattle.plan_types.specs.Numbers.{gap, least_of}
use Rattle.plan_types.specs.Speeds.{places, allowed_by, caps, later_caps, junction_cap, speed_change, greatest_speeds}
use Rattle.plan_types.proofs.Places.{length-places}
use Rattle.plan_types.proofs.Lowest.{least_of-below}
use Rattle.std.proofs.Math.Seq.{get_or-append_seam}
use Rattle.lookahead.specs.declared.stream.LookStream.{LookStream}
use Rattle.lookahead.specs.Stream.{junction_place, speed_by, speed_at, known_caps, rise, IsStreamOf, IsOpenStreamOf, IsEndedStreamOf, IsFinalSpeed, IsOpenEnd}
use Rattle.lookahead.proofs.Caps.{length-caps}
use Rattle.lookahead.proofs.Streams.{speed-final, allowed-at, length-allowed, place-mono}
use Rattle.lookahead.proofs.Pushes.{length-known, caps-ended}

later-same : (moves more : List Move) (scv j : ℕ) → j + 1 < length moves → get_or (later_caps (moves ++ more) scv) j 0 ≡ get_or (later_caps moves scv) j 0
later-same [] more scv j h = absurd (omega arith)
later-same (m ∷ []) more scv j h = absurd (omega arith)
later-same (m ∷ n ∷ moves) more scv zero h = refl
later-same (m ∷ n ∷ moves) more scv (suc j) h = later-same (n ∷ moves) more scv j (omega arith)

caps-same : (moves more : List Move) (scv j : ℕ) → j < length moves → get_or (caps (moves ++ more) scv) j 0 ≡ get_or (caps moves scv) j 0
caps-same moves more scv zero h = refl
caps-same moves more scv (suc j) h = later-same moves more scv j (omega arith)

places-same : (start : ℕ) (changes more : List ℕ) (k : ℕ) → k ≤ length changes → get_or (places start (changes ++ more)) k 0 ≡ get_or (places start changes) k 0
places-same start [] [] zero h = refl
places-same start [] (c ∷ more) zero h = refl
places-same start [] more (suc k) h = absurd (omega arith)
places-same start (d ∷ changes) more zero h = refl
places-same start (d ∷ changes) more (suc k) h = places-same (start + d) changes more k (omega arith)

speeds-at : (moves : List Move) (scv k : ℕ) → k ≤ length moves → get_or (greatest_speeds moves scv) k 0 ≡ speed_by (map speed_change moves) (caps moves scv) k
speeds-at moves scv k h =
    let ch = map speed_change moves in
    let n = length-places 0 ch in
    let m = length-map moves speed_change in
    get_or-map (λ s. least_of (allowed_by (caps moves scv) (places 0 ch) s)) (places 0 ch) k 0 0 (omega arith)

-- a settled speed is the greatest one of every section that begins with these moves
pub settled-stays : (moves more : List Move) (scv k : ℕ) → k < length moves → speed_by (map speed_change moves) (known_caps moves scv) k + junction_place (map speed_change moves) k ≤ junction_place (map speed_change moves) (length moves) → get_or (greatest_speeds (moves ++ more) scv) k 0 ≡ speed_by (map speed_change moves) (known_caps moves scv) k
settled-stays moves more scv k inside final =
    let ch = map speed_change moves in
    let ch' = map speed_change (moves ++ more) in
    let known = known_caps moves scv in
    let all = caps (moves ++ more) scv in
    let mapped : ch' ≡ ch ++ map speed_change more = map-append speed_change moves more in
    let n : length ch ≡ length moves = length-map moves speed_change in
    let n' : length ch' ≡ length (moves ++ more) = length-map (moves ++ more) speed_change in
    let sum = length-append moves more in
    let count : length known ≡ length moves = length-known moves scv ∙ omega arith in
    let count' = length-caps (moves ++ more) scv in
    let most : max 1 (length moves) ≡ length moves = omega arith in
    let same : (j : ℕ) → j < length known → get_or all j 0 ≡ get_or known j 0 = λ j h. caps-same moves more scv j (omega arith) ∙ sym (get_or-take (max 1 (length moves)) (caps moves scv) j 0 (omega arith)) in
    let places : (j : ℕ) → j ≤ length ch → junction_place ch' j ≡ junction_place ch j = λ j h. ap (λ xs. junction_place xs j) mapped ∙ places-same 0 ch (map speed_change more) j h in
    let end : junction_place ch (length known) ≡ junction_place ch (length moves) = ap (junction_place ch) count in
    speeds-at (moves ++ more) scv k (omega arith) ∙ speed-final ch known ch' all k (omega arith) (omega arith) (omega arith) (omega arith) same places (omega arith) (omega arith)

-- a speed that is not settled is lower where the section ends here
pub could-fall : (moves : List Move) (scv k : ℕ) → k < length moves → junction_place (map speed_change moves) (length moves) < speed_by (map speed_change moves) (known_caps moves scv) k + junction_place (map speed_change moves) k → get_or (greatest_speeds moves scv) k 0 < speed_by (map speed_change moves) (known_caps moves scv) k
could-fall moves scv k inside far =
    let ch = map speed_change moves in
    let all = caps moves scv in
    let n = length moves in
    let len = length-places 0 ch in
    let changes : length ch ≡ n = length-map moves speed_change in
    let count = length-caps moves scv in
    let known : length (known_caps moves scv) ≡ n = length-known moves scv ∙ omega arith in
    let last : get_or all n 0 ≡ 0 = ap (λ xs. get_or xs n 0) (caps-ended moves scv (omega arith)) ∙ ap (λ i. get_or (known_caps moves scv ++ 0 ∷ []) i 0) (sym known) ∙ get_or-append_seam (known_caps moves scv) 0 [] 0 in
    let s = junction_place ch k in
    let at = allowed-at all (places 0 ch) s n (omega arith) (omega arith) in
    let up = place-mono ch all k n (omega arith) (omega arith) in
    let length_is = length-allowed all (places 0 ch) s (omega arith) in
    let below = least_of-below (allowed_by all (places 0 ch) s) (junction_place ch n - s) n (omega arith) (omega arith) in
    let is = speeds-at moves scv k (omega arith) in
    omega arith

-- the speed at the end of a move is final too
pub ends-final : (moves : List Move) (scv k v : ℕ) → k < length moves → v ≡ speed_by (map speed_change moves) (known_caps moves scv) k → v + junction_place (map speed_change moves) k ≤ junction_place (map speed_change moves) (length moves) → IsFinalSpeed moves scv k v
ends-final moves scv k v inside is final = λ more. settled-stays moves more scv k inside (rw is at final) ∙ sym is

-- a stream after a move was taken out, or not
pub still-open : (old new : LookStream) (scv : ℕ) (moves : List Move) → IsOpenStreamOf old scv moves → IsStreamOf new scv moves (known_caps moves scv) → new.pushed ≡ old.pushed → new.risen ≡ old.risen → (deque_len old.lows < deque_capacity old.lows → deque_len new.lows < deque_capacity new.lows) → IsOpenStreamOf new scv moves
still-open old new scv moves going is pushed risen room = record {
  stream = is;
  risen_is = λ h. risen ∙ going.risen_is (omega arith) ∙ ap (λ j. rise (map speed_change moves) (known_caps moves scv) (j - 1) + get_or (map speed_change moves) (j - 1) 0) (sym pushed);
  not_yet = λ h. risen ∙ going.not_yet (omega arith);
  room = λ h. room (going.room (omega arith));
}

-- what a stream that goes on gives
pub open-given : (old new : LookStream) (scv : ℕ) (moves : List Move) (r : Option (Move × ℕ × ℕ)) → IsOpenStreamOf old scv moves → new.pushed ≡ old.pushed → new.risen ≡ old.risen → (deque_len old.lows < deque_capacity old.lows → deque_len new.lows < deque_capacity new.lows) → MatchOption r (((length (known_caps moves scv) ≤ old.taken + 1) ⊎ (junction_place (map speed_change moves) (length moves) < speed_by (map speed_change moves) (known_caps moves scv) (old.taken + 1) + junction_place (map speed_change moves) (old.taken + 1))) × (new.taken ≡ old.taken) × IsStreamOf new scv moves (known_caps moves scv)) (λ r. (r.0 ≡ slice_index_or moves old.taken r.0) × (r.1 ≡ speed_by (map speed_change moves) (known_caps moves scv) old.taken) × (r.2 ≡ speed_by (map speed_change moves) (known_caps moves scv) (old.taken + 1)) × (speed_by (map speed_change moves) (known_caps moves scv) (old.taken + 1) + junction_place (map speed_change moves) (old.taken + 1) ≤ junction_place (map speed_change moves) (length moves)) × (old.taken + 1 < length (known_caps moves scv)) × (new.taken ≡ old.taken + 1) × IsStreamOf new scv moves (known_caps moves scv)) → MatchOption r (IsOpenEnd moves scv old.taken × (new.taken ≡ old.taken) × IsOpenStreamOf new scv moves) (λ r. (r.0 ≡ slice_index_or moves old.taken r.0) × IsFinalSpeed moves scv old.taken r.1 × IsFinalSpeed moves scv (old.taken + 1) r.2 × (new.taken ≡ old.taken + 1) × IsOpenStreamOf new scv moves)
open-given old new scv moves None going pushed risen room given =
    let n = length-known moves scv in
    let end : IsOpenEnd moves scv old.taken = elim given.0 [
      | inl few ↦ inl (omega arith)
      | inr far ↦ elim (cases_lt (old.taken + 1) (length moves)) [
        | inl inside ↦ inr (could-fall moves scv (old.taken + 1) inside far)
        | inr over ↦ inl (omega arith)
      ]
    ] in
    (end, given.1, still-open old new scv moves going given.2 pushed risen room)
open-given old new scv moves (Some r) going pushed risen room given =
    let n = length-known moves scv in
    let inside = given.4 in
    let is = going.stream in
    let start = is.start_is in
    let passed = is.passed_is in
    let final = is.start_final in
    let reach = is.reach_is in
    let end : junction_place (map speed_change moves) old.pushed ≡ junction_place (map speed_change moves) (length moves) = ap (junction_place (map speed_change moves)) is.pushed_is in
    let one = given.1 in
    let two = given.2 in
    let low = given.3 in
    (given.0, ends-final moves scv old.taken r.1 (omega arith) one (omega arith), ends-final moves scv (old.taken + 1) r.2 (omega arith) two (omega arith), given.5, still-open old new scv moves going given.6 pushed risen room)

-- at a junction of a section that ends, the end is near enough to stop
stops : (moves : List Move) (scv k : ℕ) → k ≤ length moves → 0 < length moves → speed_by (map speed_change moves) (caps moves scv) k + junction_place (map speed_change moves) k ≤ junction_place (map speed_change moves) (length moves)
stops moves scv k inside some =
    let ch = map speed_change moves in
    let all = caps moves scv in
    let n = length moves in
    let len = length-places 0 ch in
    let changes : length ch ≡ n = length-map moves speed_change in
    let count = length-caps moves scv in
    let known : length (known_caps moves scv) ≡ n = length-known moves scv ∙ omega arith in
    let last : get_or all n 0 ≡ 0 = ap (λ xs. get_or xs n 0) (caps-ended moves scv some) ∙ ap (λ i. get_or (known_caps moves scv ++ 0 ∷ []) i 0) (sym known) ∙ get_or-append_seam (known_caps moves scv) 0 [] 0 in
    let s = junction_place ch k in
    let at = allowed-at all (places 0 ch) s n (omega arith) (omega arith) in
    let up = place-mono ch all k n inside (omega arith) in
    let length_is = length-allowed all (places 0 ch) s (omega arith) in
    let below = least_of-below (allowed_by all (places 0 ch) s) (junction_place ch n - s) n (omega arith) (omega arith) in
    omega arith

-- what a stream of a section that has ended gives
pub ended-given : (old new : LookStream) (scv : ℕ) (moves : List Move) (r : Option (Move × ℕ × ℕ)) → IsEndedStreamOf old scv moves → MatchOption r (((length (caps moves scv) ≤ old.taken + 1) ⊎ (junction_place (map speed_change moves) (length moves) < speed_by (map speed_change moves) (caps moves scv) (old.taken + 1) + junction_place (map speed_change moves) (old.taken + 1))) × (new.taken ≡ old.taken) × IsStreamOf new scv moves (caps moves scv)) (λ r. (r.0 ≡ slice_index_or moves old.taken r.0) × (r.1 ≡ speed_by (map speed_change moves) (caps moves scv) old.taken) × (r.2 ≡ speed_by (map speed_change moves) (caps moves scv) (old.taken + 1)) × (speed_by (map speed_change moves) (caps moves scv) (old.taken + 1) + junction_place (map speed_change moves) (old.taken + 1) ≤ junction_place (map speed_change moves) (length moves)) × (old.taken + 1 < length (caps moves scv)) × (new.taken ≡ old.taken + 1) × IsStreamOf new scv moves (caps moves scv)) → MatchOption r ((old.taken ≡ length moves) × (new.taken ≡ old.taken) × IsEndedStreamOf new scv moves) (λ r. (r.0 ≡ slice_index_or moves old.taken r.0) × (r.1 ≡ speed_at moves scv old.taken) × (r.2 ≡ speed_at moves scv (old.taken + 1)) × (new.taken ≡ old.taken + 1) × IsEndedStreamOf new scv moves)
ended-given old new scv moves None going given =
    let n = length-caps moves scv in
    let within = going.taken_within in
    let inside = going.taken_inside in
    let over : old.taken ≡ length moves = elim given.0 as (λ _. old.taken ≡ length moves) [
      | inl few ↦ omega arith
      | inr far ↦ elim (cases_lt old.taken (length moves)) as (λ _. old.taken ≡ length moves) [
        | inl less ↦ (let s = stops moves scv (old.taken + 1) (omega arith) (omega arith) in absurd (omega arith))
        | inr fine ↦ omega arith
      ]
    ] in
    (over, given.1, given.2)
ended-given old new scv moves (Some r) going given =
    let n = length-caps moves scv in
    let inside = given.4 in
    (given.0, given.1 ∙ sym (speeds-at moves scv old.taken (omega arith)), given.2 ∙ sym (speeds-at moves scv (old.taken + 1) (omega arith)), given.5, given.6)
