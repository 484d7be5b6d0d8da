-- Triples that pack have an expansion in the windows, and keep the directions.
use Rattle.std.proofs.Common.{◌≡◌, ℕ, zero, suc, ℤ, pos, negsuc, ◌+◌, ◌-◌, ◌<◌, ◌≤◌, Bool, List, [], ◌∷◌, ◌++◌, length, map, take, drop, slice_index, All, arith, refl, sym, ◌∙◌, add-zero}
use Rattle.std.specs.List.{range_with_len}
use Rattle.std.proofs.lemmas.List.Elements.{All-nil, All-cons}
use Rattle.std.proofs.lemmas.List.FromFn.{length-map-range_with_len, get_or-map-range_with_len}
use Rattle.plan_types.specs.declared.plan.Triple.{Triple}
use Rattle.plan_types.specs.declared.plan.Window.{Window}
use Rattle.plan_types.specs.Board.{IsExpansion, Expands, last_of}
use Rattle.plan_types.specs.Packing.{window_at, RunOn, tick_at, ticks_of, last_tick, Covers, Packs, AreInWindows, HasExpansion, KeepDirections}
use Rattle.step_pack.specs.declared.Placed.{Placed}
use Rattle.step_pack.specs.Placing.{PacksPlaced, placed_ticks}
use Rattle.step_pack.proofs.Rows.{run_drop}
use Rattle.step_pack.proofs.Signed.{covered_rise}

within_more : (f : ℕ → ℕ) (a n : ℕ) (ws : List Window) (rest : List ℕ) → n ≤ length ws → ((i : ℕ) → i < n → (window_at ws i).low ≤ f (a + i)) → ((i : ℕ) → i < n → f (a + i) ≤ (window_at ws i).high)
    → AreInWindows rest (drop n ws) → AreInWindows (map f (range_with_len a n) ++ rest) ws
within_more f a zero ws rest within low high h = h
within_more f a (suc n) [] rest within low high h = absurd (omega arith)
within_more f a (suc n) (w ∷ ws) rest within low high h = (
  rw add-zero at (low 0 (omega arith)),
  rw add-zero at (high 0 (omega arith)),
  within_more f (a + 1) n ws rest (omega arith) (λ i below. let e : a + suc i ≡ a + 1 + i = omega arith in rw e at (low (suc i) (omega arith))) (λ i below. let e : a + suc i ≡ a + 1 + i = omega arith in rw e at (high (suc i) (omega arith))) h,
)

within_all : (f : ℕ → ℕ) (n : ℕ) (ws : List Window) (rest : List ℕ) → n ≤ length ws → ((i : ℕ) → i < n → (window_at ws i).low ≤ f i) → ((i : ℕ) → i < n → f i ≤ (window_at ws i).high)
    → AreInWindows rest (drop n ws) → AreInWindows (map f (range_with_len 0 n) ++ rest) ws
within_all f n ws rest within low high h =
    within_more f 0 n ws rest within (λ i below. let e : 0 + i ≡ i = omega arith in rw e (low i below)) (λ i below. let e : 0 + i ≡ i = omega arith in rw e (high i below)) h

pub first_tick : (first interval : ℕ) (add : ℤ) → tick_at first interval add 0 ≡ first
first_tick first interval (pos a) = omega arith
first_tick first interval (negsuc a) = omega arith

-- the ticks of a triple that covers windows are an expansion of it
pub triple_expands : (behind first : ℕ) (t : Triple) (ws : List Window) → RunOn behind ws → Covers behind first t.interval t.count t.add ws → IsExpansion behind t (ticks_of first t)
triple_expands behind first t ws run covers =
    let at : (i : ℕ) → i < t.count → slice_index (ticks_of first t) i ≡ tick_at first t.interval t.add i = λ i below. get_or-map-range_with_len (tick_at first t.interval t.add) 0 t.count i i 0 below (omega arith) in
    let start : slice_index (ticks_of first t) 0 ≡ first = at 0 covers.some ∙ first_tick first t.interval t.add in
    record {
      ticks_of = record {
        number = length-map-range_with_len (tick_at first t.interval t.add) 0 t.count;
        some = covers.some;
        each = λ i below. rw (at i below, start) (covered_rise behind first t.interval t.count t.add ws run covers i below).0;
        above = λ i below. rw (at i (omega arith), at (i + 1) below) (covers.near i below);
        below = λ i below. rw (at i (omega arith), at (i + 1) below) (let rise = (covered_rise behind first t.interval t.count t.add ws run covers i (omega arith)).1 below in omega (arith, rise));
      };
      behind = rw start covers.after;
      continues = rw start covers.continues;
    }

pub last_mapped : (f : ℕ → ℕ) (d a n : ℕ) → last_of d (map f (range_with_len a (suc n))) ≡ f (a + n)
last_mapped f d a zero = rw add-zero refl
last_mapped f d a (suc n) = let e : a + 1 + n ≡ a + suc n = omega arith in rw e at (last_mapped f (f a) (a + 1) n)

pub last_counted : (f : ℕ → ℕ) (d n p : ℕ) → n ≡ suc p → last_of d (map f (range_with_len 0 n)) ≡ f p
last_counted f d n p e = let same : 0 + p ≡ p = omega arith in rw e (rw same at (last_mapped f d 0 p))

last_expanded : (behind first : ℕ) (t : Triple) → 0 < t.count → last_of behind (ticks_of first t) ≡ last_tick first t
last_expanded behind first t some =
    last_counted (tick_at first t.interval t.add) behind t.count (t.count - 1) (omega (arith, some))

pub packs_expand : (behind : ℕ) (ws : List Window) (triples : List Triple) → RunOn behind ws → Packs behind ws triples → HasExpansion behind ws triples
packs_expand behind ws [] run packs = ([], refl, packs)
packs_expand behind ws (t ∷ triples) run packs =
    let first = packs.0 in
    let covers = packs.1 in
    let some = covers.some in
    let rest_run = run_drop behind (last_tick first t) t.count ws run some covers.within (covers.not_late (t.count - 1) (omega (arith, some))) in
    let later = packs_expand (last_tick first t) (drop t.count ws) triples rest_run packs.3 in (
      ticks_of first t ++ later.0,
      (ticks_of first t, later.0, refl, triple_expands behind first t ws run covers, rw (last_expanded behind first t some) later.1),
      within_all (tick_at first t.interval t.add) t.count ws later.0 covers.within covers.not_early covers.not_late later.2,
    )

pub placed_expand : (behind : ℕ) (ws : List Window) (placed : List Placed) → RunOn behind ws → PacksPlaced behind ws placed → Expands behind (map (λ p. p.triple) placed) (placed_ticks placed)
placed_expand behind ws [] run packs = refl
placed_expand behind ws (p ∷ placed) run packs =
    let covers = packs.0 in
    let some = covers.some in
    let late : p.last ≤ (window_at ws (p.triple.count - 1)).high = rw packs.1 (covers.not_late (p.triple.count - 1) (omega (arith, some))) in
    let later = placed_expand p.last (drop p.triple.count ws) placed (run_drop behind p.last p.triple.count ws run some covers.within late) packs.3 in
    let end : last_of behind (ticks_of p.first p.triple) ≡ p.last = last_expanded behind p.first p.triple some ∙ sym packs.1 in
    (ticks_of p.first p.triple, placed_ticks placed, refl, triple_expands behind p.first p.triple ws run covers, rw end later)

pub placed_within : (behind : ℕ) (ws : List Window) (placed : List Placed) → PacksPlaced behind ws placed → AreInWindows (placed_ticks placed) ws
placed_within behind ws [] packs = packs
placed_within behind ws (p ∷ placed) packs =
    let covers = packs.0 in
    within_all (tick_at p.first p.triple.interval p.triple.add) p.triple.count ws (placed_ticks placed) covers.within covers.not_early covers.not_late (placed_within p.last (drop p.triple.count ws) placed packs.3)

pub one_way_all : (up : Bool) (n : ℕ) (ws : List Window) → n ≤ length ws → ((i : ℕ) → i < n → (window_at ws i).up ≡ up) → All (λ w. w.up ≡ up) (take n ws)
one_way_all up zero ws within one_way = All-nil (λ w. w.up ≡ up)
one_way_all up (suc n) [] within one_way = absurd (omega arith)
one_way_all up (suc n) (w ∷ ws) within one_way = All-cons (λ w. w.up ≡ up) w (take n ws) (one_way 0 (omega arith)) (one_way_all up n ws (omega arith) (λ i below. one_way (suc i) (omega arith)))

pub packs_keep : (behind : ℕ) (ws : List Window) (triples : List Triple) → Packs behind ws triples → KeepDirections ws triples
packs_keep behind ws [] packs = tt
packs_keep behind ws (t ∷ triples) packs =
    let covers = packs.1 in
    (one_way_all (window_at ws 0).up t.count ws covers.within covers.one_way, packs_keep (last_tick packs.0 t) (drop t.count ws) triples packs.3)
