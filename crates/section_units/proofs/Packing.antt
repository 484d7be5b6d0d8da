-- Packed triples make the units of a section.
use Rattle.std.proofs.Common.{◌≡◌, ℕ, ℤ, zero, suc, pos, negsuc, Bool, true, false, ◌+◌, ◌-◌, ◌^◌, ◌<◌, ◌≤◌, List, [], ◌∷◌, ◌++◌, length, map, take, drop, All, Option, Some, None, refl, ap, sym, ◌∙◌, subst, arith, append_assoc, length-append}
use Rattle.std.proofs.lemmas.List.{map-append, length-map, take-append-drop}
use Rattle.std.proofs.lemmas.List.Elements.{All-head, All-tail}
use Rattle.std.proofs.lemmas.List.FromFn.{length-map-range_with_len, get_or-map-range_with_len}
use Rattle.std.specs.Prelude.{slice_index}
use Rattle.std.specs.List.{range_with_len}
use Rattle.plan_types.specs.declared.plan.Planned.{Planned}
use Rattle.plan_types.specs.declared.plan.Pulse.{Pulse}
use Rattle.plan_types.specs.declared.plan.Triple.{Triple}
use Rattle.plan_types.specs.declared.plan.Window.{Window}
use Rattle.plan_types.specs.Board.{last_of, steps_of, TicksRise}
use Rattle.plan_types.specs.Lines.{Clocks}
use Rattle.plan_types.specs.Packing.{window_at, windows_of, RunOn, tick_at, ticks_of, last_tick, Covers}
use Rattle.plan_types.specs.Plan.{AreSpaced, Fits, max_error, pulse_of}
use Rattle.step_pack.specs.declared.Placed.{Placed}
use Rattle.step_pack.specs.Placing.{PacksPlaced, placed_ticks}
use Rattle.step_pack.proofs.Expanding.{triple_expands, placed_within, first_tick, last_mapped, last_counted}
use Rattle.step_pack.proofs.Fitting.{as_many, ending, fitting}
use Rattle.step_pack.proofs.Rows.{run_drop, spaced_run}
use Rattle.step_pack.proofs.Signed.{covered_rise}
use Rattle.step_feed.specs.Units.{StepUnit}
use Rattle.section_units.specs.Sections.{dir_after, steps_said, ticks_meant, IsUnit, AreChained, AreBegunBy, set_to}
use Rattle.section_units.specs.Units.{unit_of, told_direction, first_up, units_on}
use Rattle.section_units.specs.Packed.{ArePackedBy, dir_behind, end_of_plan, end_of_units, units_from, units_next}
use Rattle.step_pack.proofs.Joining.{last_appended}

tick_in : (first : ℕ) (t : Triple) (i : ℕ) → i < t.count → slice_index (ticks_of first t) i ≡ tick_at first t.interval t.add i
tick_in first t i below = get_or-map-range_with_len (tick_at first t.interval t.add) 0 t.count i i 0 below (omega arith)

-- a triple's unit
one_unit : (clocks : Clocks) (oid behind : ℕ) (p : Placed) (ws : List Window) (up : Option Bool) (reset : Option ℕ) → RunOn behind ws → Covers behind p.first p.triple.interval p.triple.count p.triple.add ws
    → p.last ≡ last_tick p.first p.triple → p.triple.interval < 2 ^ 32 → IsUnit clocks behind (unit_of clocks oid p up reset)
one_unit clocks oid behind p ws up reset run covers last small =
    let t = p.triple in
    let some = covers.some in
    let long : length (ticks_of p.first t) ≡ t.count = length-map-range_with_len (tick_at p.first t.interval t.add) 0 t.count in
    let rise : TicksRise (ticks_of p.first t) = λ i h.
    let below : i + 1 < t.count = omega (arith, h, long) in
    let r = (covered_rise behind p.first t.interval t.count t.add ws run covers i (omega (arith, below))).1 below in
    omega (arith, tick_in p.first t i (omega (arith, below)), tick_in p.first t (i + 1) below, r) in
    record {
      expands = triple_expands behind p.first t ws run covers;
      rise = rise;
      small = small;
      first = sym (tick_in p.first t 0 some ∙ first_tick p.first t.interval t.add);
      last = last ∙ sym (last_counted (tick_at p.first t.interval t.add) 0 t.count (t.count - 1) (omega (arith, some)));
      due = refl;
    }

chained : (clocks : Clocks) (oid behind : ℕ) (reset : Option ℕ) (up : Bool) (ws : List Window) (steps : List Planned) (placed : List Placed) → RunOn behind ws → PacksPlaced behind ws placed
    → All (λ p. p.triple.interval < 2 ^ 32) placed → AreChained clocks behind (units_on clocks oid reset (Some up) steps placed)
chained clocks oid behind reset up ws steps [] run packs small = tt
chained clocks oid behind reset up ws steps (p ∷ placed) run packs small =
    let P : Placed → Type 0 = λ q. q.triple.interval < 2 ^ 32 in
    let covers = packs.0 in
    let some = covers.some in
    let late : p.last ≤ (window_at ws (p.triple.count - 1)).high = rw packs.1 (covers.not_late (p.triple.count - 1) (omega (arith, some))) in (
      refl,
      one_unit clocks oid behind p ws (told_direction (Some up) (first_up steps)) None run covers packs.1 (All-head P p placed small),
      chained clocks oid p.last reset (first_up steps) (drop p.triple.count ws) (drop p.triple.count steps) placed
          (run_drop behind p.last p.triple.count ws run some covers.within late) packs.3 (All-tail P p placed small),
    )

some_up : (up : Bool) → Some up ≡ None → ⊥
some_up up e = cc

begun : (homing : Bool) (clocks : Clocks) (oid base : ℕ) (ws : List Window) (steps : List Planned) (placed : List Placed) → RunOn base ws → PacksPlaced base ws placed
    → All (λ p. p.triple.interval < 2 ^ 32) placed → AreBegunBy homing clocks base (units_from homing clocks oid base steps placed)
begun homing clocks oid base ws steps [] run packs small = tt
begun homing clocks oid base ws steps (p ∷ placed) run packs small =
    let P : Placed → Type 0 = λ q. q.triple.interval < 2 ^ 32 in
    let covers = packs.0 in
    let some = covers.some in
    let late : p.last ≤ (window_at ws (p.triple.count - 1)).high = rw packs.1 (covers.not_late (p.triple.count - 1) (omega (arith, some))) in (
      refl,
      some_up (first_up steps),
      one_unit clocks oid base p ws (Some (first_up steps)) (set_to homing base) run covers packs.1 (All-head P p placed small),
      chained clocks oid p.last (set_to homing base) (first_up steps) (drop p.triple.count ws) (drop p.triple.count steps) placed
          (run_drop base p.last p.triple.count ws run some covers.within late) packs.3 (All-tail P p placed small),
    )

-- the direction that is told
pub told_is : (up now : Bool) → dir_after up (told_direction (Some up) now) ≡ now
told_is true true = refl
told_is true false = refl
told_is false true = refl
told_is false false = refl

pub ticks_said : (oid : ℕ) (up : Bool) (ts : List ℕ) → map (λ (p : Pulse). p.tick) (map (pulse_of oid) (steps_of up ts)) ≡ ts
ticks_said oid up [] = refl
ticks_said oid up (t ∷ ts) = ap (λ x. t ∷ x) (ticks_said oid up ts)

-- steps of one direction
abbrev AreUp : Bool → List Planned → Type 0
AreUp up [] = Unit {0}
AreUp up (s ∷ steps) = (s.up ≡ up) × AreUp up steps

ups_said : (oid : ℕ) (up : Bool) (ts : List ℕ) (n : ℕ) (steps : List Planned) → length ts ≡ n → n ≤ length steps → AreUp up (take n steps)
    → map (λ (p : Pulse). p.up) (map (pulse_of oid) (steps_of up ts)) ≡ map (λ (s : Planned). s.up) (take n steps)
ups_said oid up [] zero steps e h a = refl
ups_said oid up [] (suc n) steps e h a = absurd (omega (arith, e))
ups_said oid up (t ∷ ts) zero steps e h a = absurd (omega (arith, e))
ups_said oid up (t ∷ ts) (suc n) [] e h a = absurd (omega (arith, h))
ups_said oid up (t ∷ ts) (suc n) (s ∷ steps) e h a =
    ap (λ x. x ∷ map (λ (p : Pulse). p.up) (map (pulse_of oid) (steps_of up ts))) (sym a.0)
    ∙ ap (λ x. s.up ∷ x) (ups_said oid up ts n steps (omega (arith, e)) (omega (arith, h)) a.1)

pub units_begun : (homing : Bool) (clocks : Clocks) (freq oid base : ℕ) (plan : List Planned) (placed : List Placed) → AreSpaced base plan → PacksPlaced base (windows_of (max_error freq) base plan) placed
    → All (λ p. p.triple.interval < 2 ^ 32) placed → AreBegunBy homing clocks base (units_from homing clocks oid base plan placed)
units_begun homing clocks freq oid base plan placed spaced packs small = begun homing clocks oid base (windows_of (max_error freq) base plan) plan placed (spaced_run (max_error freq) base plan spaced) packs small

-- windows with the directions of steps
abbrev SameUps : List Window → List Planned → Type 0
SameUps [] [] = Unit {0}
SameUps [] (s ∷ steps) = ⊥
SameUps (w ∷ ws) [] = ⊥
SameUps (w ∷ ws) (s ∷ steps) = (w.up ≡ s.up) × SameUps ws steps

windows_same : (e before : ℕ) (steps : List Planned) → SameUps (windows_of e before steps) steps
windows_same e before [] = tt
windows_same e before (s ∷ []) = (refl, tt)
windows_same e before (s ∷ n ∷ steps) = (refl, windows_same e s.tick (n ∷ steps))

same_drop : (n : ℕ) (ws : List Window) (steps : List Planned) → SameUps ws steps → SameUps (drop n ws) (drop n steps)
same_drop zero ws steps e = e
same_drop (suc n) [] [] e = tt
same_drop (suc n) [] (s ∷ steps) e = absurd e
same_drop (suc n) (w ∷ ws) [] e = absurd e
same_drop (suc n) (w ∷ ws) (s ∷ steps) e = same_drop n ws steps e.1

same_length : (ws : List Window) (steps : List Planned) → SameUps ws steps → length ws ≡ length steps
same_length [] [] e = refl
same_length [] (s ∷ steps) e = absurd e
same_length (w ∷ ws) [] e = absurd e
same_length (w ∷ ws) (s ∷ steps) e = ap (λ n. suc n) (same_length ws steps e.1)

are_up : (up : Bool) (n : ℕ) (ws : List Window) (steps : List Planned) → SameUps ws steps → n ≤ length ws → ((i : ℕ) → i < n → (window_at ws i).up ≡ up) → AreUp up (take n steps)
are_up up zero ws steps e h all = tt
are_up up (suc n) [] steps e h all = absurd (omega (arith, h))
are_up up (suc n) (w ∷ ws) [] e h all = absurd e
are_up up (suc n) (w ∷ ws) (s ∷ steps) e h all =
    (sym e.0 ∙ all 0 (omega arith), are_up up n ws steps e.1 (omega (arith, h)) (λ i below. all (suc i) (omega (arith, below))))

first_is : (ws : List Window) (steps : List Planned) → SameUps ws steps → 0 < length ws → (window_at ws 0).up ≡ first_up steps
first_is [] steps e some = absurd (omega (arith, some))
first_is (w ∷ ws) [] e some = absurd e
first_is (w ∷ ws) (s ∷ steps) e some = e.0

none_left : (ws : List Window) (steps : List Planned) → SameUps ws steps → ws ≡ [] → steps ≡ []
none_left ws [] e none = refl
none_left [] (s ∷ steps) e none = absurd e
none_left (w ∷ ws) (s ∷ steps) e none = absurd (no_windows none) where
  no_windows : w ∷ ws ≡ [] → ⊥
  no_windows x = cc

-- what the units mean: the ticks of the triples, and the directions of the steps
one_ticks : (clocks : Clocks) (oid : ℕ) (p : Placed) (up : Option Bool) (reset : Option ℕ) (d : Bool) (rest : List Pulse) (others : List ℕ) → map (λ (q : Pulse). q.tick) rest ≡ others
    → map (λ (q : Pulse). q.tick) (map (pulse_of oid) (steps_of d (ticks_of p.first p.triple)) ++ rest) ≡ ticks_of p.first p.triple ++ others
one_ticks clocks oid p up reset d rest others e =
    let own = map (pulse_of oid) (steps_of d (ticks_of p.first p.triple)) in
    map-append (λ (q : Pulse). q.tick) own rest ∙ ap (λ x. x ++ map (λ (q : Pulse). q.tick) rest) (ticks_said oid d (ticks_of p.first p.triple))
    ∙ ap (λ x. ticks_of p.first p.triple ++ x) e

ticks_behind : (clocks : Clocks) (oid : ℕ) (reset : Option ℕ) (up : Bool) (steps : List Planned) (placed : List Placed) → map (λ (q : Pulse). q.tick) (steps_said oid up (units_on clocks oid reset (Some up) steps placed)) ≡ placed_ticks placed
ticks_behind clocks oid reset up steps [] = refl
ticks_behind clocks oid reset up steps (p ∷ placed) =
    let now = first_up steps in
    let u = unit_of clocks oid p (told_direction (Some up) now) None in
    let later = units_on clocks oid reset (Some now) (drop p.triple.count steps) placed in
    let At : Bool → Type 0 = λ d. map (λ (q : Pulse). q.tick) (map (pulse_of oid) (steps_of d (ticks_of p.first p.triple)) ++ steps_said oid d later) ≡ ticks_of p.first p.triple ++ placed_ticks placed in
    subst At (sym (told_is up now))
    (one_ticks clocks oid p (told_direction (Some up) now) None now (steps_said oid now later) (placed_ticks placed) (ticks_behind clocks oid reset now (drop p.triple.count steps) placed))

ticks_from : (homing : Bool) (clocks : Clocks) (oid base : ℕ) (steps : List Planned) (placed : List Placed) → map (λ (q : Pulse). q.tick) (steps_said oid false (units_from homing clocks oid base steps placed)) ≡ placed_ticks placed
ticks_from homing clocks oid base steps [] = refl
ticks_from homing clocks oid base steps (p ∷ placed) =
    let now = first_up steps in
    let later = units_on clocks oid (set_to homing base) (Some now) (drop p.triple.count steps) placed in
    one_ticks clocks oid p (Some now) (set_to homing base) now (steps_said oid now later) (placed_ticks placed) (ticks_behind clocks oid (set_to homing base) now (drop p.triple.count steps) placed)

one_ups : (clocks : Clocks) (oid : ℕ) (p : Placed) (up : Option Bool) (reset : Option ℕ) (ws : List Window) (steps : List Planned) (behind : ℕ) (rest : List Pulse)
    → Covers behind p.first p.triple.interval p.triple.count p.triple.add ws → SameUps ws steps → map (λ (q : Pulse). q.up) rest ≡ map (λ (s : Planned). s.up) (drop p.triple.count steps)
    → map (λ (q : Pulse). q.up) (map (pulse_of oid) (steps_of (first_up steps) (ticks_of p.first p.triple)) ++ rest) ≡ map (λ (s : Planned). s.up) steps
one_ups clocks oid p up reset ws steps behind rest covers same e =
    let n = p.triple.count in
    let d = first_up steps in
    let ts = ticks_of p.first p.triple in
    let own = map (pulse_of oid) (steps_of d ts) in
    let some = covers.some in
    let first = first_is ws steps same (omega (arith, some, covers.within)) in
    let ups = are_up d n ws steps same covers.within (λ i below. covers.one_way i below ∙ first) in
    let long : length ts ≡ n = length-map-range_with_len (tick_at p.first p.triple.interval p.triple.add) 0 n in
    map-append (λ (q : Pulse). q.up) own rest ∙ ap (λ x. x ++ map (λ (q : Pulse). q.up) rest) (ups_said oid d ts n steps long (omega (arith, covers.within, same_length ws steps same)) ups)
    ∙ ap (λ x. map (λ (s : Planned). s.up) (take n steps) ++ x) e ∙ sym (map-append (λ (s : Planned). s.up) (take n steps) (drop n steps)) ∙ ap (map (λ (s : Planned). s.up)) (take-append-drop n steps)

ups_behind : (clocks : Clocks) (oid behind : ℕ) (reset : Option ℕ) (up : Bool) (ws : List Window) (steps : List Planned) (placed : List Placed) → PacksPlaced behind ws placed → SameUps ws steps
    → map (λ (q : Pulse). q.up) (steps_said oid up (units_on clocks oid reset (Some up) steps placed)) ≡ map (λ (s : Planned). s.up) steps
ups_behind clocks oid behind reset up ws steps [] packs same = ap (map (λ (s : Planned). s.up)) (sym (none_left ws steps same packs))
ups_behind clocks oid behind reset up ws steps (p ∷ placed) packs same =
    let now = first_up steps in
    let u = unit_of clocks oid p (told_direction (Some up) now) None in
    let later = units_on clocks oid reset (Some now) (drop p.triple.count steps) placed in
    let At : Bool → Type 0 = λ d. map (λ (q : Pulse). q.up) (map (pulse_of oid) (steps_of d (ticks_of p.first p.triple)) ++ steps_said oid d later) ≡ map (λ (s : Planned). s.up) steps in
    subst At (sym (told_is up now))
    (one_ups clocks oid p (told_direction (Some up) now) None ws steps behind (steps_said oid now later) packs.0 same
    (ups_behind clocks oid p.last reset now (drop p.triple.count ws) (drop p.triple.count steps) placed packs.3 (same_drop p.triple.count ws steps same)))

ups_from : (homing : Bool) (clocks : Clocks) (oid base : ℕ) (ws : List Window) (steps : List Planned) (placed : List Placed) → PacksPlaced base ws placed → SameUps ws steps
    → map (λ (q : Pulse). q.up) (steps_said oid false (units_from homing clocks oid base steps placed)) ≡ map (λ (s : Planned). s.up) steps
ups_from homing clocks oid base ws steps [] packs same = ap (map (λ (s : Planned). s.up)) (sym (none_left ws steps same packs))
ups_from homing clocks oid base ws steps (p ∷ placed) packs same =
    let now = first_up steps in
    let later = units_on clocks oid (set_to homing base) (Some now) (drop p.triple.count steps) placed in
    one_ups clocks oid p (Some now) (set_to homing base) ws steps base (steps_said oid now later) packs.0 same
    (ups_behind clocks oid p.last (set_to homing base) now (drop p.triple.count ws) (drop p.triple.count steps) placed packs.3 (same_drop p.triple.count ws steps same))

pub units_fit : (homing : Bool) (clocks : Clocks) (freq oid base : ℕ) (plan : List Planned) (placed : List Placed) → AreSpaced base plan → PacksPlaced base (windows_of (max_error freq) base plan) placed
    → Fits freq base (steps_said oid false (units_from homing clocks oid base plan placed)) plan
units_fit homing clocks freq oid base plan placed spaced packs =
    let ws = windows_of (max_error freq) base plan in
    fitting freq base plan (steps_said oid false (units_from homing clocks oid base plan placed)) (rw (ticks_from homing clocks oid base plan placed) (placed_within base ws placed packs))
    (ups_from homing clocks oid base ws plan placed packs (windows_same (max_error freq) base plan))

pub units_whole : (homing : Bool) (clocks : Clocks) (freq oid base : ℕ) (plan : List Planned) (placed : List Placed) → AreSpaced base plan → PacksPlaced base (windows_of (max_error freq) base plan) placed
    → length (steps_said oid false (units_from homing clocks oid base plan placed)) ≡ length plan
units_whole homing clocks freq oid base plan placed spaced packs =
    let ws = windows_of (max_error freq) base plan in
    let said = steps_said oid false (units_from homing clocks oid base plan placed) in
    sym (length-map said (λ (q : Pulse). q.tick)) ∙ ap length (ticks_from homing clocks oid base plan placed) ∙ as_many (max_error freq) base plan (placed_ticks placed) (placed_within base ws placed packs)

units_end : (clocks : Clocks) (oid behind : ℕ) (reset : Option ℕ) (up : Bool) (ws : List Window) (steps : List Planned) (placed : List Placed) → PacksPlaced behind ws placed
    → end_of_units behind (units_on clocks oid reset (Some up) steps placed) ≡ last_of behind (placed_ticks placed)
units_end clocks oid behind reset up ws steps [] packs = refl
units_end clocks oid behind reset up ws steps (p ∷ placed) packs =
    let t = p.triple in
    let some = packs.0.some in
    let here : last_of behind (ticks_of p.first t) ≡ p.last = last_counted (tick_at p.first t.interval t.add) behind t.count (t.count - 1) (omega (arith, some)) ∙ sym packs.1 in
    units_end clocks oid p.last reset (first_up steps) (drop t.count ws) (drop t.count steps) placed packs.3 ∙ ap (λ x. last_of x (placed_ticks placed)) (sym here)
    ∙ sym (last_appended behind (ticks_of p.first t) (placed_ticks placed))

from_end : (homing : Bool) (clocks : Clocks) (oid base : ℕ) (ws : List Window) (steps : List Planned) (placed : List Placed) → PacksPlaced base ws placed
    → end_of_units base (units_from homing clocks oid base steps placed) ≡ last_of base (placed_ticks placed)
from_end homing clocks oid base ws steps [] packs = refl
from_end homing clocks oid base ws steps (p ∷ placed) packs =
    let t = p.triple in
    let some = packs.0.some in
    let here : last_of base (ticks_of p.first t) ≡ p.last = last_counted (tick_at p.first t.interval t.add) base t.count (t.count - 1) (omega (arith, some)) ∙ sym packs.1 in
    units_end clocks oid p.last (set_to homing base) (first_up steps) (drop t.count ws) (drop t.count steps) placed packs.3 ∙ ap (λ x. last_of x (placed_ticks placed)) (sym here)
    ∙ sym (last_appended base (ticks_of p.first t) (placed_ticks placed))

-- so end the units of a piece
any_end : (clocks : Clocks) (oid behind : ℕ) (reset : Option ℕ) (up : Option Bool) (ws : List Window) (steps : List Planned) (placed : List Placed) → PacksPlaced behind ws placed
    → end_of_units behind (units_on clocks oid reset up steps placed) ≡ last_of behind (placed_ticks placed)
any_end clocks oid behind reset up ws steps [] packs = refl
any_end clocks oid behind reset up ws steps (p ∷ placed) packs =
    let t = p.triple in
    let some = packs.0.some in
    let here : last_of behind (ticks_of p.first t) ≡ p.last = last_counted (tick_at p.first t.interval t.add) behind t.count (t.count - 1) (omega (arith, some)) ∙ sym packs.1 in
    units_end clocks oid p.last reset (first_up steps) (drop t.count ws) (drop t.count steps) placed packs.3 ∙ ap (λ x. last_of x (placed_ticks placed)) (sym here)
    ∙ sym (last_appended behind (ticks_of p.first t) (placed_ticks placed))

pub piece_end : (clocks : Clocks) (oid e behind : ℕ) (reset : Option ℕ) (up : Option Bool) (steps : List Planned) (placed : List Placed) → PacksPlaced behind (windows_of e behind steps) placed
    → end_of_units behind (units_on clocks oid reset up steps placed) ≡ end_of_plan behind steps
piece_end clocks oid e behind reset up steps placed packs =
    let ws = windows_of e behind steps in
    any_end clocks oid behind reset up ws steps placed packs ∙ ending e behind steps (placed_ticks placed) (placed_within behind ws placed packs)

pub chains_join : (clocks : Clocks) (behind : ℕ) (us vs : List StepUnit) → AreChained clocks behind us → AreChained clocks (end_of_units behind us) vs → AreChained clocks behind (us ++ vs)
chains_join clocks behind [] vs a b = b
chains_join clocks behind (u ∷ us) vs a b = (a.0, a.1, chains_join clocks u.last us vs a.2 b)

pub said_join : (oid : ℕ) (up : Bool) (us vs : List StepUnit) → steps_said oid up (us ++ vs) ≡ steps_said oid up us ++ steps_said oid (dir_behind up us) vs
said_join oid up [] vs = refl
said_join oid up (u ∷ us) vs =
    let d = dir_after up u.up in
    let own = map (pulse_of oid) (steps_of d (ticks_meant u)) in
    ap (λ x. own ++ x) (said_join oid d us vs) ∙ sym (append_assoc own (steps_said oid d us) (steps_said oid (dir_behind d us) vs))

ends_join : (behind : ℕ) (us vs : List StepUnit) → end_of_units behind (us ++ vs) ≡ end_of_units (end_of_units behind us) vs
ends_join behind [] vs = refl
ends_join behind (u ∷ us) vs = ends_join u.last us vs

pub fits_join : (freq base : ℕ) (ps qs : List Pulse) (plan more : List Planned) → Fits freq base ps plan → length ps ≡ length plan → Fits freq (end_of_plan base plan) qs more → Fits freq base (ps ++ qs) (plan ++ more)
fits_join freq base [] qs [] more f e g = g
fits_join freq base [] qs (s ∷ plan) more f e g = absurd (omega (arith, e))
fits_join freq base (p ∷ ps) qs [] more f e g = absurd f
fits_join freq base (p ∷ ps) qs (s ∷ plan) more f e g = (f.0, fits_join freq s.tick ps qs plan more f.1 (omega (arith, e)) g)

no_plan : (plan : List Planned) → 0 ≡ length plan → plan ≡ []
no_plan [] e = refl
no_plan (s ∷ plan) e = absurd (omega (arith, e))

pub plan_ends : (base : ℕ) (plan more : List Planned) → end_of_plan base (plan ++ more) ≡ end_of_plan (end_of_plan base plan) more
plan_ends base plan more = ap (last_of base) (map-append (λ (s : Planned). s.tick) plan more) ∙ last_appended base (map (λ (s : Planned). s.tick) plan) (map (λ (s : Planned). s.tick) more)

pub none_packed : (homing : Bool) (clocks : Clocks) (freq oid base : ℕ) → ArePackedBy homing clocks freq oid base [] []
none_packed homing clocks freq oid base = record { begun = tt; fits = tt; whole = refl; ends = refl }

pub first_packed : (homing : Bool) (clocks : Clocks) (freq oid base : ℕ) (plan : List Planned) (placed : List Placed) → AreSpaced base plan → PacksPlaced base (windows_of (max_error freq) base plan) placed
    → All (λ p. p.triple.interval < 2 ^ 32) placed → ArePackedBy homing clocks freq oid base plan (units_from homing clocks oid base plan placed)
first_packed homing clocks freq oid base plan placed spaced packs small =
    let ws = windows_of (max_error freq) base plan in
    record {
      begun = units_begun homing clocks freq oid base plan placed spaced packs small;
      fits = units_fit homing clocks freq oid base plan placed spaced packs;
      whole = units_whole homing clocks freq oid base plan placed spaced packs;
      ends = from_end homing clocks oid base ws plan placed packs ∙ ending (max_error freq) base plan (placed_ticks placed) (placed_within base ws placed packs);
    }

pub next_packed : (homing : Bool) (clocks : Clocks) (freq oid base : ℕ) (plan more : List Planned) (us : List StepUnit) (placed : List Placed) → ArePackedBy homing clocks freq oid base plan us
    → AreSpaced (end_of_plan base plan) more → PacksPlaced (end_of_plan base plan) (windows_of (max_error freq) (end_of_plan base plan) more) placed
    → All (λ p. p.triple.interval < 2 ^ 32) placed → ArePackedBy homing clocks freq oid base (plan ++ more) (us ++ units_next homing clocks oid base us more placed)
next_packed homing clocks freq oid base plan more [] placed k spaced packs small =
    let none = no_plan plan k.whole in
    let At : List Planned → Type 0 = λ x. AreSpaced (end_of_plan base x) more in
    let On : List Planned → Type 0 = λ x. PacksPlaced (end_of_plan base x) (windows_of (max_error freq) (end_of_plan base x) more) placed in
    let To : List Planned → Type 0 = λ x. ArePackedBy homing clocks freq oid base (x ++ more) (units_from homing clocks oid base more placed) in
    subst To (sym none) (first_packed homing clocks freq oid base more placed (subst At none spaced) (subst On none packs) small)
next_packed homing clocks freq oid base plan more (u ∷ us) placed k spaced packs small =
    let t = end_of_plan base plan in
    let up = dir_behind false (u ∷ us) in
    let vs = units_on clocks oid (set_to homing base) (Some up) more placed in
    let ws = windows_of (max_error freq) t more in
    let said = steps_said oid up vs in
    let chain = chained clocks oid t (set_to homing base) up ws more placed (spaced_run (max_error freq) t more spaced) packs small in
    let Behind : ℕ → Type 0 = λ x. AreChained clocks x vs in
    let own = placed_within t ws placed packs in
    let later : Fits freq t said more = fitting freq t more said (rw (ticks_behind clocks oid (set_to homing base) up more placed) own)
    (ups_behind clocks oid t (set_to homing base) up ws more placed packs (windows_same (max_error freq) t more)) in
    let count : length said ≡ length more = sym (length-map said (λ (q : Pulse). q.tick)) ∙ ap length (ticks_behind clocks oid (set_to homing base) up more placed) ∙ as_many (max_error freq) t more (placed_ticks placed) own in
    let joined = said_join oid false (u ∷ us) vs in
    let first = steps_said oid false (u ∷ us) in
    record {
      begun = (k.begun.0, k.begun.1, k.begun.2, chains_join clocks u.last us vs k.begun.3 (subst Behind (sym k.ends) chain));
      fits = rw joined (fits_join freq base first said plan more k.fits k.whole later);
      whole = ap length joined ∙ omega (arith, length-append first said, length-append plan more, k.whole, count);
      ends = ends_join base (u ∷ us) vs ∙ ap (λ x. end_of_units x vs) k.ends ∙ units_end clocks oid t (set_to homing base) up ws more placed packs ∙ ending (max_error freq) t more (placed_ticks placed) own ∙ sym (plan_ends base plan more);
    }
