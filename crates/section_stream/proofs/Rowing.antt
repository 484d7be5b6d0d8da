-- Units in a row.
use Rattle.std.proofs.Common.{◌≡◌, ℕ, zero, suc, ◌+◌, ◌-◌, ◌*◌, ◌/◌, ◌<◌, ◌≤◌, Bool, false, Option, None, Some, List, [], ◌∷◌, ◌++◌, All, drop, min, arith, refl, sym, ◌∙◌, subst}
use Rattle.std.proofs.Math.Logic.{∥∥₁_map}
use Rattle.std.specs.Prelude.{IfNone, IfSome}
use Rattle.std.proofs.lemmas.List.Elements.{All-append, All-cons, All-drop, All-nil}
use Rattle.plan_types.specs.Clock.{tick_limit, turn_ns}
use Rattle.plan_types.specs.Lines.{Clocks, lines_tick}
use Rattle.clock_line.proofs.Turns.{tick_over-mono}
use Rattle.plan_types.specs.Packing.{RunOn, tick_at, window_at, windows_of}
use Rattle.plan_types.specs.Plan.{AreSpaced}
use Rattle.plan_types.specs.declared.plan.Planned.{Planned}
use Rattle.plan_types.specs.declared.plan.Window.{Window}
use Rattle.msg_code.specs.declared.unit.Unit.{Unit as StepUnit}
use Rattle.step_pack.specs.declared.Placed.{Placed}
use Rattle.step_pack.specs.Placing.{PacksPlaced}
use Rattle.step_pack.proofs.Rows.{run_drop, spaced_run}
use Rattle.step_pack.proofs.Signed.{covered_rise}
use Rattle.section_units.specs.Units.{first_up, set_in, told_direction, unit_of, units_on}
use Rattle.section_stream.specs.declared.pack.PackStream.{PackStream}
use Rattle.section_stream.specs.Packs.{last_packed, waiting_of}
use Rattle.step_ticks.specs.Streaming.{last_step_tick}
use Rattle.section_stream.specs.Rows.{AreInRow}
use Rattle.section_stream.proofs.Laying.{HasUnits, rest-of}
use Rattle.section_stream.proofs.Stretches.{last-after}
use Rattle.step_pack.proofs.Expanding.{first_tick}

pub row-none : (clocks : Clocks) (end : ℕ) (us : List StepUnit) → us ≡ [] → AreInRow clocks 0 end us
row-none clocks end us none = rw none (omega arith)

pub row-sooner : (clocks : Clocks) (a b end : ℕ) (us : List StepUnit) → a ≤ b → AreInRow clocks b end us → AreInRow clocks a end us
row-sooner clocks a b end [] h row = omega arith
row-sooner clocks a b end (u ∷ us) h row = (record { after = (let t = row.0.after in omega arith); ends = row.0.ends; small = row.0.small; due = row.0.due }, row.1)

row-order : (clocks : Clocks) (b end : ℕ) (us : List StepUnit) → AreInRow clocks b end us → b ≤ end
row-order clocks b end [] row = row
row-order clocks b end (u ∷ us) row =
    let after = row.0.after in
    let ends = row.0.ends in
    let later = row-order clocks u.last end us row.1 in
    omega arith

pub row-join : (clocks : Clocks) (b m end : ℕ) (us vs : List StepUnit) → AreInRow clocks b m us → AreInRow clocks m end vs → AreInRow clocks b end (us ++ vs)
row-join clocks b m end [] vs row more = row-sooner clocks b m end vs row more
row-join clocks b m end (u ∷ us) vs row more = (row.0, row-join clocks u.last m end us vs row.1 more)

row-front : (clocks : Clocks) (b end : ℕ) (us vs : List StepUnit) → AreInRow clocks b end (us ++ vs) → AreInRow clocks b end us
row-front clocks b end [] vs row = row-order clocks b end vs row
row-front clocks b end (u ∷ us) vs row = (row.0, row-front clocks u.last end us vs row.1)

-- the first one is taken out
pub row-behind : (clocks : Clocks) (b end : ℕ) (u : StepUnit) (us : List StepUnit) → AreInRow clocks b end (u ∷ us) → AreInRow clocks b end us
row-behind clocks b end u us row =
    let after = row.0.after in
    let ends = row.0.ends in
    row-sooner clocks b u.last end us (omega arith) row.1

pub popped-row : (clocks : Clocks) (end end' : ℕ) (r : Option StepUnit) (old new : List StepUnit) → end' ≡ end → IfSome r (λ u. old ≡ u ∷ new) → IfNone r (new ≡ old) → AreInRow clocks 0 end old → AreInRow clocks 0 end' new
popped-row clocks end end' None old new same some none row = rw (same, none) row
popped-row clocks end end' (Some u) old new same some none row = rw same (row-behind clocks 0 end u new (rw some at row))

-- all begin behind the tick
pub row-after : (clocks : Clocks) (b end : ℕ) (us : List StepUnit) → AreInRow clocks b end us → All (λ u. b < u.first) us
row-after clocks b end [] row = All-nil (λ (u : StepUnit). b < u.first)
row-after clocks b end (u ∷ us) row = All-cons (λ (v : StepUnit). b < v.first) u us row.0.after (row-after clocks b end us (row-behind clocks b end u us row))

-- a window that ends by a tick, below the limit of ticks
record IsBy (end : ℕ) (w : Window) : Type 0 where
  by : w.high ≤ end
  small : w.high < tick_limit

windows-by : (e before : ℕ) (steps : List Planned) → AreSpaced before steps → All (λ s. s.tick < tick_limit) steps → All (IsBy (last_step_tick before steps)) (windows_of e before steps)
windows-by e before [] spaced small = All-nil (IsBy before)
windows-by e before (s ∷ []) spaced small =
    let h = small 0 s (omega arith) in
    All-cons (IsBy s.tick) (record { low = s.tick; high = s.tick; up = s.up }) [] (record { by = omega arith; small = h }) (All-nil (IsBy s.tick))
windows-by e before (s ∷ n ∷ steps) spaced small =
    let h = small 0 s (omega arith) in
    let last = last-after s.tick (n ∷ steps) spaced.1 in
    All-cons (IsBy (last_step_tick s.tick (n ∷ steps))) (record { low = s.tick - min e ((s.tick - before) / 2); high = s.tick; up = s.up }) (windows_of e s.tick (n ∷ steps)) (record { by = last; small = h })
    (windows-by e s.tick (n ∷ steps) spaced.1 (rest-of (λ (q : Planned). q.tick < tick_limit) s (n ∷ steps) small))

rise-up : (f : ℕ → ℕ) (count k : ℕ) → ((i : ℕ) → i + 1 < count → f i < f (i + 1)) → k < count → f 0 ≤ f k
rise-up f count zero up h = omega arith
rise-up f count (suc k) up h =
    let before = rise-up f count k up (omega arith) in
    let next : k + 1 ≡ suc k = omega arith in
    let here : f k < f (suc k) = rw next at (up k (omega arith)) in
    omega arith

-- the units of triples
units-row : (clocks : Clocks) (oid : ℕ) (reset : Option ℕ) (up : Option Bool) (b end : ℕ) (ws : List Window) (steps : List Planned) (placed : List Placed) → RunOn b ws → PacksPlaced b ws placed → All (IsBy end) ws → b ≤ end → AreInRow clocks b end (units_on clocks oid reset up steps placed)
units-row clocks oid reset up b end ws steps [] run packs by h = h
units-row clocks oid reset up b end ws steps (p ∷ placed) run packs by h =
    let t = p.triple in
    let covers = packs.0 in
    let some = covers.some in
    let inside = covers.within in
    let late : p.last ≤ (window_at ws (t.count - 1)).high = rw packs.1 (covers.not_late (t.count - 1) (omega (arith, some))) in
    let here = by (t.count - 1) (record { low = 0; high = 0; up = false }) (omega arith) in
    let to = here.by in
    let small = here.small in
    let rise = rise-up (tick_at p.first t.interval t.add) t.count (t.count - 1) (λ i more. (covered_rise b p.first t.interval t.count t.add ws run covers i (omega arith)).1 more) (omega arith) in
    let first = first_tick p.first t.interval t.add in
    let last : p.last ≡ tick_at p.first t.interval t.add (t.count - 1) = packs.1 in (
      record { after = covers.after; ends = omega arith; small = omega arith; due = refl },
      units-row clocks oid reset (Some (first_up steps)) p.last end (drop t.count ws) (drop t.count steps) placed (run_drop b p.last t.count ws run some inside late) packs.3 (All-drop (IsBy end) t.count ws by) (omega arith),
    )

pub piece-row : (clocks : Clocks) (oid : ℕ) (reset : Option ℕ) (up : Option Bool) (e last : ℕ) (steps : List Planned) (placed : List Placed) → PacksPlaced last (windows_of e last steps) placed → AreSpaced last steps → All (λ s. s.tick < tick_limit) steps → AreInRow clocks last (last_step_tick last steps) (units_on clocks oid reset up steps placed)
piece-row clocks oid reset up e last steps placed packs spaced small = units-row clocks oid reset up last (last_step_tick last steps) (windows_of e last steps) steps placed (spaced_run e last steps spaced) packs (windows-by e last steps spaced small) (last-after last steps spaced)

-- the units begin where their windows do, or later
units-from : (clocks : Clocks) (oid : ℕ) (reset : Option ℕ) (up : Option Bool) (b t : ℕ) (ws : List Window) (steps : List Planned) (placed : List Placed) → PacksPlaced b ws placed → All (λ w. t ≤ w.low) ws → All (λ u. t ≤ u.first) (units_on clocks oid reset up steps placed)
units-from clocks oid reset up b t ws steps [] packs from = All-nil (λ (u : StepUnit). t ≤ u.first)
units-from clocks oid reset up b t ws steps (p ∷ placed) packs from =
    let covers = packs.0 in
    let some = covers.some in
    let inside = covers.within in
    let low = from 0 (record { low = 0; high = 0; up = false }) (omega arith) in
    let early = covers.not_early 0 some in
    let first = first_tick p.first p.triple.interval p.triple.add in
    All-cons (λ (u : StepUnit). t ≤ u.first) (unit_of clocks oid p (told_direction up (first_up steps)) (set_in up reset)) (units_on clocks oid reset (Some (first_up steps)) (drop p.triple.count steps) placed) (omega arith)
    (units-from clocks oid reset (Some (first_up steps)) p.last t (drop p.triple.count ws) (drop p.triple.count steps) placed packs.3 (All-drop (λ (w : Window). t ≤ w.low) p.triple.count ws from))

windows-from : (e before t : ℕ) (steps : List Planned) → All (λ s. t + e ≤ s.tick) steps → All (λ w. t ≤ w.low) (windows_of e before steps)
windows-from e before t [] late = All-nil (λ (w : Window). t ≤ w.low)
windows-from e before t (s ∷ []) late =
    let h = late 0 s (omega arith) in
    All-cons (λ (w : Window). t ≤ w.low) (record { low = s.tick; high = s.tick; up = s.up }) [] (omega arith) (All-nil (λ (w : Window). t ≤ w.low))
windows-from e before t (s ∷ n ∷ steps) late =
    let h = late 0 s (omega arith) in
    All-cons (λ (w : Window). t ≤ w.low) (record { low = s.tick - min e ((s.tick - before) / 2); high = s.tick; up = s.up }) (windows_of e s.tick (n ∷ steps)) (omega arith)
    (windows-from e s.tick t (n ∷ steps) (rest-of (λ (q : Planned). t + e ≤ q.tick) s (n ∷ steps) late))

pub piece-from : (clocks : Clocks) (oid : ℕ) (reset : Option ℕ) (up : Option Bool) (e last t : ℕ) (steps : List Planned) (placed : List Placed) → PacksPlaced last (windows_of e last steps) placed → All (λ s. t + e ≤ s.tick) steps → All (λ u. t ≤ u.first) (units_on clocks oid reset up steps placed)
piece-from clocks oid reset up e last t steps placed packs late = units-from clocks oid reset up last t (windows_of e last steps) steps placed packs (windows-from e last t steps late)

-- those of the units that are made so far
pub has-row : (clocks : Clocks) (oid : ℕ) (reset : Option ℕ) (first : Option Bool) (e last : ℕ) (steps : List Planned) (placed : List Placed) (old new : List StepUnit) (up : Option Bool) (next i : ℕ) → HasUnits clocks oid reset first steps placed old new up next i → PacksPlaced last (windows_of e last steps) placed → AreSpaced last steps → All (λ s. s.tick < tick_limit) steps
    → AreInRow clocks 0 last old → AreInRow clocks 0 (last_step_tick last steps) new
has-row clocks oid reset first e last steps placed old new up next i has packs spaced small row =
    let all = row-join clocks 0 last (last_step_tick last steps) old (units_on clocks oid reset first steps placed) row (piece-row clocks oid reset first e last steps placed packs spaced small) in
    row-front clocks 0 (last_step_tick last steps) new (units_on clocks oid reset up (drop next steps) (drop i placed)) (rw has.units all)

-- the units begin before a tick where their steps are
windows-before : (e before t : ℕ) (steps : List Planned) → All (λ s. s.tick < t) steps → All (λ w. w.high < t) (windows_of e before steps)
windows-before e before t [] early = All-nil (λ (w : Window). w.high < t)
windows-before e before t (s ∷ []) early =
    All-cons (λ (w : Window). w.high < t) (record { low = s.tick; high = s.tick; up = s.up }) [] (early 0 s (omega arith)) (All-nil (λ (w : Window). w.high < t))
windows-before e before t (s ∷ n ∷ steps) early =
    All-cons (λ (w : Window). w.high < t) (record { low = s.tick - min e ((s.tick - before) / 2); high = s.tick; up = s.up }) (windows_of e s.tick (n ∷ steps)) (early 0 s (omega arith))
    (windows-before e s.tick t (n ∷ steps) (rest-of (λ (q : Planned). q.tick < t) s (n ∷ steps) early))

placed-before : (b t : ℕ) (ws : List Window) (placed : List Placed) → PacksPlaced b ws placed → All (λ w. w.high < t) ws → All (λ p. p.first < t) placed
placed-before b t ws [] packs early = All-nil (λ (p : Placed). p.first < t)
placed-before b t ws (p ∷ placed) packs early =
    let covers = packs.0 in
    let some = covers.some in
    let inside = covers.within in
    let high = early 0 (record { low = 0; high = 0; up = false }) (omega arith) in
    let late = covers.not_late 0 some in
    let first = first_tick p.first p.triple.interval p.triple.add in
    All-cons (λ (q : Placed). q.first < t) p placed (omega arith) (placed-before p.last t (drop p.triple.count ws) placed packs.3 (All-drop (λ (w : Window). w.high < t) p.triple.count ws early))

pub piece-before : (e last t : ℕ) (steps : List Planned) (placed : List Placed) → PacksPlaced last (windows_of e last steps) placed → All (λ s. s.tick < t) steps → All (λ p. p.first < t) placed
piece-before e last t steps placed packs early = placed-before last t (windows_of e last steps) placed packs (windows-before e last t steps early)

units-before : (clocks : Clocks) (oid : ℕ) (reset : Option ℕ) (up : Option Bool) (t : ℕ) (steps : List Planned) (placed : List Placed) → All (λ p. p.first < t) placed → All (λ u. u.first < t) (units_on clocks oid reset up steps placed)
units-before clocks oid reset up t steps [] early = All-nil (λ (u : StepUnit). u.first < t)
units-before clocks oid reset up t steps (p ∷ placed) early =
    All-cons (λ (u : StepUnit). u.first < t) (unit_of clocks oid p (told_direction up (first_up steps)) (set_in up reset)) (units_on clocks oid reset (Some (first_up steps)) (drop p.triple.count steps) placed) (early 0 p (omega arith))
    (units-before clocks oid reset (Some (first_up steps)) t (drop p.triple.count steps) placed (rest-of (λ (q : Placed). q.first < t) p placed early))

all-front : (P : StepUnit → Type 0) (us vs : List StepUnit) → All P (us ++ vs) → All P us
all-front P [] vs h = All-nil P
all-front P (u ∷ us) vs h = All-cons P u us (h 0 u (omega arith)) (all-front P us vs (rest-of P u (us ++ vs) h))

pub has-early : (clocks : Clocks) (oid : ℕ) (reset : Option ℕ) (first : Option Bool) (e last : ℕ) (steps : List Planned) (placed : List Placed) (old new : List StepUnit) (up : Option Bool) (next i t : ℕ) → HasUnits clocks oid reset first steps placed old new up next i → PacksPlaced last (windows_of e last steps) placed → All (λ s. s.tick < t) steps → All (λ u. u.first < t) old → All (λ u. u.first < t) new
has-early clocks oid reset first e last steps placed old new up next i t has packs before early =
    let P : StepUnit → Type 0 = λ u. u.first < t in
    let all = All-append P old (units_on clocks oid reset first steps placed) early (units-before clocks oid reset first t steps placed (piece-before e last t steps placed packs before)) in
    all-front P new (units_on clocks oid reset up (drop next steps) (drop i placed)) (subst (All P) (sym has.units) all)

-- the rest begins before it too, where one was taken out
pub popped-before : (t : ℕ) (r : Option StepUnit) (old new : List StepUnit) → IfSome r (λ u. old ≡ u ∷ new) → IfNone r (new ≡ old) → All (λ u. u.first < t) old → All (λ u. u.first < t) new
popped-before t None old new some none early = let P : StepUnit → Type 0 = λ u. u.first < t in subst (All P) (sym none) early
popped-before t (Some u) old new some none early = let P : StepUnit → Type 0 = λ v. v.first < t in rest-of P u new (subst (All P) some early)

-- and before every later turn
pub before-later : (clocks : Clocks) (turn later : ℕ) (us : List StepUnit) → turn ≤ later → All (λ u. u.first < lines_tick clocks (turn * turn_ns)) us → All (λ u. u.first < lines_tick clocks (later * turn_ns)) us
before-later clocks turn later us order early =
    let up : lines_tick clocks (turn * turn_ns) ≤ lines_tick clocks (later * turn_ns) = tick_over-mono clocks.first 0 clocks.held (turn * turn_ns) (later * turn_ns) (omega arith) in
    λ k d l. (let e = early k d l in omega arith)

-- a packer that holds more steps, and packed some
pub planned-row : (clocks own now : Clocks) (pack held packed : PackStream) → clocks ≡ own → now ≡ own → waiting_of held ≡ waiting_of pack → last_packed held ≡ last_packed pack → (AreInRow clocks 0 (last_packed held) (waiting_of held) → AreInRow clocks 0 (last_packed packed) (waiting_of packed))
    → ∥ AreInRow own 0 (last_packed pack) (waiting_of pack) ∥₁ → ∥ AreInRow now 0 (last_packed packed) (waiting_of packed) ∥₁
planned-row clocks own now pack held packed is same units last packs row = ∥∥₁_map row (λ r. (
    let one : AreInRow clocks 0 (last_packed held) (waiting_of held) = subst (λ (k : Clocks). AreInRow k 0 (last_packed held) (waiting_of held)) (sym is) (subst (λ (us : List StepUnit). AreInRow own 0 (last_packed held) us) (sym units) (subst (λ e. AreInRow own 0 e (waiting_of pack)) (sym last) r)) in
    subst (λ (k : Clocks). AreInRow k 0 (last_packed packed) (waiting_of packed)) (is ∙ sym same) (packs one)))
