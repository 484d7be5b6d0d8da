-- The units of packed triples, one by one.
use Rattle.std.proofs.Common.{◌≡◌, ℕ, ℤ, pos, negsuc, zero, suc, ◌+◌, ◌-◌, ◌*◌, ◌/◌, ◌<◌, ◌≤◌, ◌^◌, Bool, false, List, [], ◌∷◌, ◌++◌, All, length, drop, get_or, min, arith, refl, ap, sym, ◌∙◌, append_assoc, Option, Some}
use Rattle.std.proofs.lemmas.List.{drop_more, drop_all, drop-drop, append-nil, length-drop}
use Rattle.std.proofs.lemmas.List.Elements.{All-append, All-cons, All-nil, All-drop}
use Rattle.plan_types.specs.Clock.{tick_limit, turn_ns}
use Rattle.plan_types.specs.Lines.{Clocks, last_from, lines_turn}
use Rattle.clock_line.proofs.Turns.{turn_within}
use Rattle.plan_types.specs.Packing.{windows_of, tick_at}
use Rattle.plan_types.specs.Plan.{AreSpaced}
use Rattle.plan_types.specs.declared.plan.Planned.{Planned}
use Rattle.plan_types.specs.declared.plan.Window.{Window}
use Rattle.msg_code.specs.declared.unit.Unit.{Unit as StepUnit}
use Rattle.step_pack.specs.declared.Placed.{Placed}
use Rattle.step_pack.specs.Placing.{PacksPlaced}
use Rattle.step_pack.proofs.Piecewise.{length-windows}
use Rattle.section_units.specs.Units.{first_up, set_in, told_direction, unit_of, units_on, up_after}
use Rattle.step_pack.proofs.Expanding.{first_tick}

-- a window behind a tick, and below the limit of ticks
pub record IsWithin (clock : ℕ) (w : Window) : Type 0 where
  pub after : clock ≤ w.low
  pub small : w.high < tick_limit

pub rest-of : {X : Type 0} (P : X → Type 0) (x : X) (xs : List X) → All P (x ∷ xs) → All P xs
rest-of P x xs h = λ k d l. h (suc k) d (omega arith)

pub windows-within : (e before clock : ℕ) (steps : List Planned) → clock ≤ before → AreSpaced before steps → All (λ s. s.tick < tick_limit) steps → All (IsWithin clock) (windows_of e before steps)
windows-within e before clock [] from spaced small = All-nil (IsWithin clock)
windows-within e before clock (s ∷ []) from spaced small =
    let gap = spaced.0 in
    let h = small 0 s (omega arith) in
    All-cons (IsWithin clock) (record { low = s.tick; high = s.tick; up = s.up }) [] (record { after = omega arith; small = h }) (All-nil (IsWithin clock))
windows-within e before clock (s ∷ n ∷ steps) from spaced small =
    let gap = spaced.0 in
    let h = small 0 s (omega arith) in
    All-cons (IsWithin clock) (record { low = s.tick - min e ((s.tick - before) / 2); high = s.tick; up = s.up }) (windows_of e s.tick (n ∷ steps)) (record { after = omega arith; small = h })
    (windows-within e s.tick clock (n ∷ steps) (omega arith) spaced.1 (rest-of (λ (q : Planned). q.tick < tick_limit) s (n ∷ steps) small))

-- triples that are left to cover some steps
pub record AreLeft (clock : ℕ) (steps : List Planned) (placed : List Placed) : Type 0 where
  pub behind : ℕ
  pub windows : List Window
  pub packs : PacksPlaced behind windows placed
  pub count : length windows ≡ length steps
  pub from : clock ≤ behind
  pub within : All (IsWithin clock) windows

pub left-all : (e last clock : ℕ) (steps : List Planned) (placed : List Placed) → PacksPlaced last (windows_of e last steps) placed → AreSpaced last steps → All (λ s. s.tick < tick_limit) steps → clock ≤ last → AreLeft clock steps placed
left-all e last clock steps placed packs spaced small from = record {
  behind = last;
  windows = windows_of e last steps;
  packs = packs;
  count = length-windows e last steps;
  from = from;
  within = windows-within e last clock steps from spaced small;
}

-- what is known of the first of them
pub record IsNext (clock : ℕ) (steps : List Planned) (p : Placed) (placed : List Placed) : Type 0 where
  pub some : 0 < length steps
  pub first_from : clock ≤ p.first
  pub first_small : p.first < tick_limit
  pub within : p.triple.count ≤ length steps
  pub left : AreLeft clock (drop p.triple.count steps) placed

pub next-of : (clock : ℕ) (steps : List Planned) (p : Placed) (placed : List Placed) → AreLeft clock steps (p ∷ placed) → IsNext clock steps p placed
next-of clock steps p placed left =
    let covers = left.packs.0 in
    let some = covers.some in
    let inside = covers.within in
    let count = left.count in
    let after = covers.after in
    let from = left.from in
    let late = covers.not_late 0 some in
    let first = first_tick p.first p.triple.interval p.triple.add in
    let here = left.within 0 (record { low = 0; high = 0; up = false }) (omega arith) in
    let small = here.small in
    let end = left.within (p.triple.count - 1) (record { low = 0; high = 0; up = false }) (omega arith) in
    let low = end.after in
    let early = covers.not_early (p.triple.count - 1) (omega arith) in
    let last : p.last ≡ tick_at p.first p.triple.interval p.triple.add (p.triple.count - 1) = left.packs.1 in
    let l1 = length-drop p.triple.count left.windows in
    let l2 = length-drop p.triple.count steps in
    record {
      some = omega arith;
      first_from = omega arith;
      first_small = omega arith;
      within = omega arith;
      left = record {
        behind = p.last;
        windows = drop p.triple.count left.windows;
        packs = left.packs.3;
        count = omega arith;
        from = omega arith;
        within = All-drop (IsWithin clock) p.triple.count left.windows left.within;
      };
    }

-- units that are made behind others, and those that are still to be made
pub record HasUnits (clocks : Clocks) (oid : ℕ) (reset : Option ℕ) (first : Option Bool) (steps : List Planned) (placed : List Placed) (old new : List StepUnit) (up : Option Bool) (next i : ℕ) : Type 0 where
  pub units : new ++ units_on clocks oid reset up (drop next steps) (drop i placed) ≡ old ++ units_on clocks oid reset first steps placed
  pub ups : up_after up (drop next steps) (drop i placed) ≡ up_after first steps placed
  pub left : AreLeft clocks.first.clock (drop next steps) (drop i placed)
  pub within : next ≤ length steps

abbrev pub no_placed : Placed
no_placed = record { triple = record { interval = 0; count = 0; add = pos 0 }; first = 0; last = 0 }

first-up-at : (steps : List Planned) (next : ℕ) (d : Planned) → next < length steps → first_up (drop next steps) ≡ (get_or steps next d).up
first-up-at steps next d h = ap first_up (drop_more steps next d h)

pub next-here : (clocks : Clocks) (oid : ℕ) (reset : Option ℕ) (first : Option Bool) (steps : List Planned) (placed : List Placed) (old new : List StepUnit) (up : Option Bool) (next i : ℕ) (p : Placed) → HasUnits clocks oid reset first steps placed old new up next i → i < length placed → p ≡ get_or placed i p → IsNext clocks.first.clock (drop next steps) p (drop (i + 1) placed)
next-here clocks oid reset first steps placed old new up next i p has inside is =
    let head : drop i placed ≡ get_or placed i p ∷ drop (i + 1) placed = drop_more placed i p inside in
    let left : AreLeft clocks.first.clock (drop next steps) (p ∷ drop (i + 1) placed) = rw (head, ← is) at has.left in
    next-of clocks.first.clock (drop next steps) p (drop (i + 1) placed) left

pub one-more : (clocks : Clocks) (oid : ℕ) (reset : Option ℕ) (first : Option Bool) (steps : List Planned) (placed : List Placed) (old new : List StepUnit) (up : Option Bool) (next i : ℕ) (p : Placed) (s : Planned) → HasUnits clocks oid reset first steps placed old new up next i → i < length placed → p ≡ get_or placed i p → s ≡ get_or steps next s
    → HasUnits clocks oid reset first steps placed old (new ++ unit_of clocks oid p (told_direction up s.up) (set_in up reset) ∷ []) (Some s.up) (next + p.triple.count) (i + 1)
one-more clocks oid reset first steps placed old new up next i p s has inside is step =
    let head : drop i placed ≡ p ∷ drop (i + 1) placed = rw (← is) at (drop_more placed i p inside) in
    let n = next-here clocks oid reset first steps placed old new up next i p has inside is in
    let some = n.some in
    let inner = n.within in
    let len = length-drop next steps in
    let dir : first_up (drop next steps) ≡ s.up = first-up-at steps next s (omega arith) ∙ ap (λ (q : Planned). q.up) (sym step) in
    let on : drop p.triple.count (drop next steps) ≡ drop (next + p.triple.count) steps = drop-drop p.triple.count next steps in
    let rest = drop p.triple.count (drop next steps) in
    let later = drop (i + 1) placed in
    let now = first_up (drop next steps) in
    let units1 : new ++ (unit_of clocks oid p (told_direction up now) (set_in up reset) ∷ units_on clocks oid reset (Some now) rest later) ≡ old ++ units_on clocks oid reset first steps placed = rw head at has.units in
    let ups1 : up_after (Some now) rest later ≡ up_after first steps placed = rw head at has.ups in
    let units = rw (dir, on) at units1 in
    let ups = rw (dir, on) at ups1 in
    record {
      units = append_assoc new (unit_of clocks oid p (told_direction up s.up) (set_in up reset) ∷ []) (units_on clocks oid reset (Some s.up) (drop (next + p.triple.count) steps) (drop (i + 1) placed)) ∙ units;
      ups = ups;
      left = rw on at n.left;
      within = omega arith;
    }

pub all-made : (clocks : Clocks) (oid : ℕ) (reset : Option ℕ) (first : Option Bool) (steps : List Planned) (placed : List Placed) (old new : List StepUnit) (up : Option Bool) (next i : ℕ) → HasUnits clocks oid reset first steps placed old new up next i → length placed ≤ i → (new ≡ old ++ units_on clocks oid reset first steps placed) × (up ≡ up_after first steps placed)
all-made clocks oid reset first steps placed old new up next i has over =
    let none : drop i placed ≡ [] = drop_all i placed over in
    let units = rw none at has.units in
    let ups = rw none at has.ups in
    (sym (append-nil new) ∙ units, ups)

pub none-yet : (clocks : Clocks) (oid : ℕ) (reset : Option ℕ) (first : Option Bool) (e last : ℕ) (steps : List Planned) (placed : List Placed) (old : List StepUnit) → PacksPlaced last (windows_of e last steps) placed → AreSpaced last steps → All (λ s. s.tick < tick_limit) steps → clocks.first.clock ≤ last → HasUnits clocks oid reset first steps placed old old first 0 0
none-yet clocks oid reset first e last steps placed old packs spaced small from = record {
  units = refl;
  ups = refl;
  left = left-all e last clocks.first.clock steps placed packs spaced small from;
  within = omega arith;
}

-- the triple at a place
pub place-is : (placed : List Placed) (i : ℕ) → i < length placed → get_or placed i no_placed ≡ get_or placed i (get_or placed i no_placed)
place-is placed i h = any-default placed i no_placed (get_or placed i no_placed) h
  where
    any-default : (ps : List Placed) (k : ℕ) (d e : Placed) → k < length ps → get_or ps k d ≡ get_or ps k e
    any-default [] k d e h = absurd (omega arith)
    any-default (p ∷ ps) zero d e h = refl
    any-default (p ∷ ps) (suc k) d e h = any-default ps k d e (omega arith)

-- the turn of a tick below the limit
pub turn-small : (clocks : Clocks) (t : ℕ) → t < tick_limit → last_from clocks.first.at clocks.held < 2 ^ 62 * turn_ns → lines_turn clocks t < 2 ^ 64
turn-small clocks t small soon =
    let within = turn_within clocks t in
    let turns : last_from clocks.first.at clocks.held / turn_ns < 2 ^ 62 = omega arith in
    omega arith

-- the units of a stepper have its number
pub units_own : (clocks : Clocks) (oid : ℕ) (reset : Option ℕ) (up : Option Bool) (steps : List Planned) (placed : List Placed) → All (λ u. u.stepper ≡ oid) (units_on clocks oid reset up steps placed)
units_own clocks oid reset up steps [] = All-nil (λ (u : StepUnit). u.stepper ≡ oid)
units_own clocks oid reset up steps (p ∷ placed) =
    All-cons (λ (u : StepUnit). u.stepper ≡ oid) (unit_of clocks oid p (told_direction up (first_up steps)) (set_in up reset)) (units_on clocks oid reset (Some (first_up steps)) (drop p.triple.count steps) placed) refl
    (units_own clocks oid reset (Some (first_up steps)) (drop p.triple.count steps) placed)

front-of : (P : StepUnit → Type 0) (xs ys : List StepUnit) → All P (xs ++ ys) → All P xs
front-of P [] ys h = All-nil P
front-of P (x ∷ xs) ys h = All-cons P x xs (h 0 x (omega arith)) (front-of P xs ys (rest-of P x (xs ++ ys) h))

pub has_own : (clocks : Clocks) (oid : ℕ) (reset : Option ℕ) (first : Option Bool) (steps : List Planned) (placed : List Placed) (old new : List StepUnit) (up : Option Bool) (next i : ℕ) → HasUnits clocks oid reset first steps placed old new up next i → All (λ u. u.stepper ≡ oid) old → All (λ u. u.stepper ≡ oid) new
has_own clocks oid reset first steps placed old new up next i has own =
    let all = All-append (λ (u : StepUnit). u.stepper ≡ oid) old (units_on clocks oid reset first steps placed) own (units_own clocks oid reset first steps placed) in
    front-of (λ (u : StepUnit). u.stepper ≡ oid) new (units_on clocks oid reset up (drop next steps) (drop i placed)) (rw has.units all)
