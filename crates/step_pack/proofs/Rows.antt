-- Windows one behind the other, and lists of triples.
use Rattle.std.proofs.Common.{◌≡◌, ℕ, zero, suc, ◌+◌, ◌-◌, ◌<◌, ◌≤◌, List, [], ◌∷◌, ◌++◌, length, get_or, drop, arith, refl, add-one, append_assoc, map}
use Rattle.std.proofs.lemmas.List.{append-nil, drop_all}
use Rattle.plan_types.specs.declared.plan.Planned.{Planned}
use Rattle.step_pack.specs.declared.Placed.{Placed}
use Rattle.plan_types.specs.declared.plan.Window.{Window}
use Rattle.plan_types.specs.Packing.{windows_of, window_at, Covers, IsLongest, Packs, last_tick, RunOn}
use Rattle.plan_types.specs.Plan.{earliest, AreSpaced}
use Rattle.step_pack.specs.Placing.{PacksPlaced}
use Rattle.step_pack.specs.Bounds.{AreAfter}

pub windows-next : (e before : ℕ) (steps : List Planned) (i : ℕ) (d : Planned) → i + 1 < length steps
    → windows_of e before (drop i steps) ≡ record { low = earliest e before (get_or steps i d).tick; high = (get_or steps i d).tick; up = (get_or steps i d).up } ∷ windows_of e (get_or steps i d).tick (drop (i + 1) steps)
windows-next e before [] i d h = absurd (omega arith)
windows-next e before (s ∷ []) i d h = absurd (omega arith)
windows-next e before (s ∷ n ∷ steps) zero d h = refl
windows-next e before (s ∷ n ∷ steps) (suc i) d h = rw add-one (rw add-one at (windows-next e before (n ∷ steps) i d (omega arith)))

pub windows-last : (e before : ℕ) (steps : List Planned) (i : ℕ) (d : Planned) → length steps ≡ i + 1
    → windows_of e before (drop i steps) ≡ record { low = (get_or steps i d).tick; high = (get_or steps i d).tick; up = (get_or steps i d).up } ∷ []
windows-last e before [] i d h = absurd (omega arith)
windows-last e before (s ∷ []) zero d h = refl
windows-last e before (s ∷ []) (suc i) d h = absurd (omega arith)
windows-last e before (s ∷ n ∷ steps) zero d h = absurd (omega arith)
windows-last e before (s ∷ n ∷ steps) (suc i) d h = windows-last e before (n ∷ steps) i d (omega arith)

pub spaced_run : (e before : ℕ) (steps : List Planned) → AreSpaced before steps → RunOn before (windows_of e before steps)
spaced_run e before [] h = tt
spaced_run e before (s ∷ []) h = let first = h.0 in (omega arith, omega arith, tt)
spaced_run e before (s ∷ n ∷ steps) h = let first = h.0 in (omega arith, omega arith, spaced_run e s.tick (n ∷ steps) h.1)

run_low : (before : ℕ) (ws : List Window) (k : ℕ) → RunOn before ws → k < length ws → before < (window_at ws k).low
run_low before [] k h below = absurd (omega arith)
run_low before (w ∷ ws) zero h below = h.0
run_low before (w ∷ ws) (suc k) h below =
    let first = h.0 in
    let order = h.1 in
    let later = run_low w.high ws k h.2 (omega arith) in
    omega (arith, first, order, later)

run_order : (before : ℕ) (ws : List Window) (k : ℕ) → RunOn before ws → k < length ws → (window_at ws k).low ≤ (window_at ws k).high
run_order before [] k h below = absurd (omega arith)
run_order before (w ∷ ws) zero h below = h.1
run_order before (w ∷ ws) (suc k) h below = run_order w.high ws k h.2 (omega arith)

pub run_after : (before : ℕ) (ws : List Window) → RunOn before ws → AreAfter before ws
run_after before ws h = record { after = λ k below. run_low before ws k h below; order = λ k below. run_order before ws k h below }

pub run_sooner : (before last : ℕ) (ws : List Window) → last ≤ before → RunOn before ws → RunOn last ws
run_sooner before last [] less h = tt
run_sooner before last (w ∷ ws) less h = (let first = h.0 in omega (arith, first, less), h.1, h.2)

run_drop_suc : (before last p : ℕ) (ws : List Window) → RunOn before ws → p < length ws → last ≤ (window_at ws p).high → RunOn last (drop (suc p) ws)
run_drop_suc before last p [] h below less = absurd (omega arith)
run_drop_suc before last zero (w ∷ ws) h below less = run_sooner w.high last ws less h.2
run_drop_suc before last (suc p) (w ∷ ws) h below less = run_drop_suc w.high last p ws h.2 (omega arith) less

pub run_drop : (before last count : ℕ) (ws : List Window) → RunOn before ws → 0 < count → count ≤ length ws → last ≤ (window_at ws (count - 1)).high → RunOn last (drop count ws)
run_drop before last count ws h some within less =
    let e : suc (count - 1) ≡ count = omega arith in
    rw e at (run_drop_suc before last (count - 1) ws h (omega arith) less)

pub drop_both : {A : Type 0} (i k : ℕ) (xs : List A) → drop k (drop i xs) ≡ drop (i + k) xs
drop_both zero k xs = let e : zero + k ≡ k = omega arith in rw e refl
drop_both (suc i) zero [] = let e : suc i + zero ≡ suc i = omega arith in rw e refl
drop_both (suc i) (suc k) [] = let e : suc i + suc k ≡ suc (i + suc k) = omega arith in rw e refl
drop_both (suc i) k (x ∷ xs) = let e : suc i + k ≡ suc (i + k) = omega arith in rw e (drop_both i k xs)

-- one more triple behind those that are there
pub packs_more : (start behind next later : ℕ) (all : List Window) (p : Placed) (made more : List Placed) → later ≡ next + p.triple.count
    → ((rest : List Placed) → PacksPlaced behind (drop next all) rest → PacksPlaced start all (made ++ rest))
    → Covers behind p.first p.triple.interval p.triple.count p.triple.add (drop next all) → IsLongest behind (drop next all) p.triple.count → p.last ≡ last_tick p.first p.triple
    → more ≡ made ++ p ∷ [] → (rest : List Placed) → PacksPlaced p.last (drop later all) rest → PacksPlaced start all (more ++ rest)
packs_more start behind next later all p made more later-is so_far covers longest last-is more-is rest packs =
    let same : drop p.triple.count (drop next all) ≡ drop later all = rw later-is (drop_both next p.triple.count all) in
    let here : PacksPlaced behind (drop next all) (p ∷ rest) = (covers, last-is, longest, rw same packs) in
    rw (more-is, append_assoc) (so_far (p ∷ rest) here)

-- at the end of the windows the triples are whole
pub packs_whole : (start behind next : ℕ) (all : List Window) (placed : List Placed) → length all ≤ next
    → ((rest : List Placed) → PacksPlaced behind (drop next all) rest → PacksPlaced start all (placed ++ rest)) → PacksPlaced start all placed
packs_whole start behind next all placed over so_far =
    rw append-nil at (so_far [] (drop_all next all over))

pub packs_start : (last : ℕ) (all : List Window) (placed : List Placed) → placed ≡ [] → (rest : List Placed) → PacksPlaced last (drop 0 all) rest → PacksPlaced last all (placed ++ rest)
packs_start last all placed e rest packs = rw e packs

-- without their ticks
pub packs_triples : (behind : ℕ) (windows : List Window) (placed : List Placed) → PacksPlaced behind windows placed → Packs behind windows (map (λ p. p.triple) placed)
packs_triples behind windows [] packs = packs
packs_triples behind windows (p ∷ placed) packs = (p.first, packs.0, packs.2, rw packs.1 at (packs_triples p.last (drop p.triple.count windows) placed packs.3))

-- a window ends before the next one begins
pub run_next : (before : ℕ) (ws : List Window) (i : ℕ) → RunOn before ws → i + 1 < length ws → (window_at ws i).high < (window_at ws (i + 1)).low
run_next before [] i h below = absurd (omega arith)
run_next before (w ∷ []) i h below = absurd (omega arith)
run_next before (w ∷ v ∷ ws) zero h below = h.2.0
run_next before (w ∷ v ∷ ws) (suc i) h below = let e : suc i + 1 ≡ suc (i + 1) = omega arith in rw e (run_next w.high (v ∷ ws) i h.2 (omega arith))
