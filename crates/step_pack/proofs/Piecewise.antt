-- What packs a piece packs it among all steps.
use Rattle.std.proofs.Common.{◌≡◌, ℕ, zero, suc, ℤ, ◌+◌, ◌-◌, ◌<◌, ◌≤◌, List, [], ◌∷◌, ◌++◌, length, drop, arith, refl, ap, sym, ◌∙◌, length-drop}
use Rattle.plan_types.specs.declared.plan.Planned.{Planned}
use Rattle.plan_types.specs.declared.plan.Triple.{Triple}
use Rattle.plan_types.specs.declared.plan.Window.{Window}
use Rattle.plan_types.specs.Packing.{windows_of, window_at, Covers, IsLongest, Packs, last_tick, AreInWindows, open_windows, IsLongestBefore, PacksPiece}
use Rattle.plan_types.specs.Plan.{earliest}

-- The windows of a piece against those of all steps: none is wider, and all but the last are the same.
pub record IsPiece (piece all : List Window) : Type 0 where
  pub within : length piece ≤ length all
  pub same : (i : ℕ) → i + 1 < length piece → window_at piece i ≡ window_at all i
  pub low : (i : ℕ) → i < length piece → (window_at all i).low ≤ (window_at piece i).low
  pub high : (i : ℕ) → i < length piece → (window_at piece i).high ≤ (window_at all i).high
  pub up : (i : ℕ) → i < length piece → (window_at piece i).up ≡ (window_at all i).up

piece_next : (w : Window) (piece all : List Window) → 0 < length piece → IsPiece piece all → IsPiece (w ∷ piece) (w ∷ all)
piece_next w piece all some is = record {
  within = let within = is.within in omega arith;
  same = same;
  low = low;
  high = high;
  up = up;
}
  where
    same : (i : ℕ) → i + 1 < length (w ∷ piece) → window_at (w ∷ piece) i ≡ window_at (w ∷ all) i
    same zero below = refl
    same (suc i) below = is.same i (omega arith)

    low : (i : ℕ) → i < length (w ∷ piece) → (window_at (w ∷ all) i).low ≤ (window_at (w ∷ piece) i).low
    low zero below = omega arith
    low (suc i) below = is.low i (omega arith)

    high : (i : ℕ) → i < length (w ∷ piece) → (window_at (w ∷ piece) i).high ≤ (window_at (w ∷ all) i).high
    high zero below = omega arith
    high (suc i) below = is.high i (omega arith)

    up : (i : ℕ) → i < length (w ∷ piece) → (window_at (w ∷ piece) i).up ≡ (window_at (w ∷ all) i).up
    up zero below = refl
    up (suc i) below = is.up i (omega arith)

pub length-windows : (e before : ℕ) (steps : List Planned) → length (windows_of e before steps) ≡ length steps
length-windows e before [] = refl
length-windows e before (s ∷ []) = refl
length-windows e before (s ∷ n ∷ steps) = ap suc (length-windows e s.tick (n ∷ steps))

pub piece_of : (e before : ℕ) (steps more : List Planned) → IsPiece (windows_of e before steps) (open_windows e before (steps ++ more))
piece_of e before [] more = record {
  within = omega arith;
  same = λ i below. absurd (omega arith);
  low = λ i below. absurd (omega arith);
  high = λ i below. absurd (omega arith);
  up = λ i below. absurd (omega arith);
}
piece_of e before (s ∷ []) more = record {
  within = omega arith;
  same = λ i below. absurd (omega arith);
  low = low;
  high = high;
  up = up;
}
  where
    low : (i : ℕ) → i < length (windows_of e before (s ∷ [])) → (window_at (open_windows e before (s ∷ [] ++ more)) i).low ≤ (window_at (windows_of e before (s ∷ [])) i).low
    low zero below = omega arith
    low (suc i) below = absurd (omega arith)

    high : (i : ℕ) → i < length (windows_of e before (s ∷ [])) → (window_at (windows_of e before (s ∷ [])) i).high ≤ (window_at (open_windows e before (s ∷ [] ++ more)) i).high
    high zero below = omega arith
    high (suc i) below = absurd (omega arith)

    up : (i : ℕ) → i < length (windows_of e before (s ∷ [])) → (window_at (windows_of e before (s ∷ [])) i).up ≡ (window_at (open_windows e before (s ∷ [] ++ more)) i).up
    up zero below = refl
    up (suc i) below = absurd (omega arith)
piece_of e before (s ∷ n ∷ steps) more =
    let count = length-windows e s.tick (n ∷ steps) in
    piece_next (record { low = earliest e before s.tick; high = s.tick; up = s.up }) (windows_of e s.tick (n ∷ steps)) (open_windows e s.tick (n ∷ steps ++ more)) (omega arith)
    (piece_of e s.tick (n ∷ steps) more)

window-drop : (n i : ℕ) (ws : List Window) → window_at (drop n ws) i ≡ window_at ws (n + i)
window-drop zero i ws = let e : zero + i ≡ i = omega arith in rw e refl
window-drop (suc n) i [] = refl
window-drop (suc n) i (w ∷ ws) = let e : suc n + i ≡ suc (n + i) = omega arith in rw e (window-drop n i ws)

pub piece_drop : (n : ℕ) (piece all : List Window) → IsPiece piece all → IsPiece (drop n piece) (drop n all)
piece_drop n piece all is =
    let one = length-drop n piece in
    let two = length-drop n all in
    let within = is.within in
    record {
      within = omega (arith, one, two, within);
      same = λ i below. rw (window-drop n i piece, window-drop n i all) (is.same (n + i) (omega (arith, one, below)));
      low = λ i below. rw (window-drop n i piece, window-drop n i all) (is.low (n + i) (omega (arith, one, below)));
      high = λ i below. rw (window-drop n i piece, window-drop n i all) (is.high (n + i) (omega (arith, one, below)));
      up = λ i below. rw (window-drop n i piece, window-drop n i all) (is.up (n + i) (omega (arith, one, below)));
    }

pub covers_all : (behind first interval count : ℕ) (add : ℤ) (piece all : List Window) → IsPiece piece all → Covers behind first interval count add piece → Covers behind first interval count add all
covers_all behind first interval count add piece all is covers =
    let within = covers.within in
    let room = is.within in
    record {
      some = covers.some;
      within = omega (arith, within, room);
      after = covers.after;
      continues = covers.continues;
      not_early = λ i below. let low = is.low i (omega arith) in let early = covers.not_early i below in omega (arith, low, early);
      not_late = λ i below. let high = is.high i (omega arith) in let late = covers.not_late i below in omega (arith, high, late);
      one_way = λ i below. sym (is.up i (omega arith)) ∙ covers.one_way i below ∙ is.up 0 (omega arith);
      near = covers.near;
    }

covers_piece : (behind first interval count : ℕ) (add : ℤ) (piece all : List Window) → IsPiece piece all → count < length piece → Covers behind first interval count add all → Covers behind first interval count add piece
covers_piece behind first interval count add piece all is less covers =
    record {
      some = covers.some;
      within = omega arith;
      after = covers.after;
      continues = covers.continues;
      not_early = λ i below. rw (is.same i (omega arith)) (covers.not_early i below);
      not_late = λ i below. rw (is.same i (omega arith)) (covers.not_late i below);
      one_way = λ i below. is.up i (omega arith) ∙ covers.one_way i below ∙ sym (is.up 0 (omega arith));
      near = covers.near;
    }

pub longest_before : (behind count : ℕ) (piece all : List Window) → IsPiece piece all → IsLongest behind piece count → IsLongestBefore behind all (length piece) count
longest_before behind count piece all is longest interval other add less compared =
    longest interval other add
    (record {
      count_small = compared.count_small;
      least_add = compared.least_add;
      greatest_add = compared.greatest_add;
      interval_small = compared.interval_small;
      covers = covers_piece behind (behind + interval) interval other add piece all is less compared.covers;
    })

packs_among : (behind n : ℕ) (piece all : List Window) (triples : List Triple) → n ≡ length piece → IsPiece piece all → Packs behind piece triples → PacksPiece behind all n triples
packs_among behind n piece all [] e is packs = let none = ap length packs in omega (arith, e, none)
packs_among behind n piece all (t ∷ triples) e is packs =
    let first = packs.0 in
    let less = length-drop t.count piece in (
      first,
      covers_all behind first t.interval t.count t.add piece all is packs.1,
      rw e (longest_before behind t.count piece all is packs.2),
      packs_among (last_tick first t) (n - t.count) (drop t.count piece) (drop t.count all) triples (omega (arith, e, less)) (piece_drop t.count piece all is) packs.3,
    )

-- so the triples of a piece are as long as all steps let them be that end before its last step
pub packs_piece : (e last : ℕ) (steps more : List Planned) (triples : List Triple) → Packs last (windows_of e last steps) triples → PacksPiece last (open_windows e last (steps ++ more)) (length steps) triples
packs_piece e last steps more triples packs =
    packs_among last (length steps) (windows_of e last steps) (open_windows e last (steps ++ more)) triples (sym (length-windows e last steps)) (piece_of e last steps more) packs

pub within_open : (e last : ℕ) (steps : List Planned) (ticks : List ℕ) → AreInWindows ticks (windows_of e last steps) → AreInWindows ticks (open_windows e last steps)
within_open e last [] ticks h = h
within_open e last (s ∷ []) [] h = cc
within_open e last (s ∷ []) (t ∷ ticks) h = (let low = h.0 in omega (arith, low), h.1, h.2)
within_open e last (s ∷ n ∷ steps) [] h = cc
within_open e last (s ∷ n ∷ steps) (t ∷ ticks) h = (h.0, h.1, within_open e s.tick (n ∷ steps) ticks h.2)
