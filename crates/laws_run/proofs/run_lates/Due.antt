-- By a board's own clock the units of its sections are due in the turns of their first ticks, or one turn later where its clock is off.
use Rattle.std.proofs.Common.{◌≡◌, ℕ, suc, ◌+◌, ◌-◌, ◌*◌, ◌<◌, ◌≤◌, List, [], ◌∷◌, ◌++◌, Bool, true, false, All, length, Option, ap, sym, subst, arith, inl, inr}
use Rattle.laws_board.proofs.Names.{flat_map, eqb_tells, leb_tells, All-head, All-tail, BoardClock, board_tick, turn_ns, Clocks, lines_tick, StepUnit, Release, batch_at, units_of, BoardSection, base_of, of_stepper, section_steps, Orders}
use Rattle.plan_types.specs.Lines.{lines_turn}
use Rattle.clock_line.proofs.Turns.{turn-after, turn-below}
use Rattle.step_feed.specs.Pacing.{ArePaced}
use Rattle.section_units.specs.Sections.{IsSection}
use Rattle.link_work.specs.Held.{AllDue, AreDue, lead_of}
use Rattle.laws_board.specs.sections.Events.{AreTicks}
use Rattle.laws_board.specs.sections.Homes.{AreInTurn, AreOrdersIn, IsSectionBy, RunSection}
use Rattle.laws_board.specs.sections.Parts.{AreTracked}
use Rattle.laws_board.proofs.sections.Entering.{all_inside, begun_inside, early_fits}
use Rattle.laws_board.proofs.sections.Waiting.{AreInside, Frame}

-- units that are due by 250 turns behind that of their release
abbrev AreSoon : List Release → Type 0
AreSoon [] = Unit {0}
AreSoon (r ∷ rs) = (r.unit.due ≤ r.turn + 250) × AreSoon rs

paced_soon : (clocks : Clocks) (slots from : ℕ) (before rs : List Release) → ArePaced clocks slots from before rs → AreSoon rs
paced_soon clocks slots from before [] p = tt
paced_soon clocks slots from before (r ∷ rs) p = (p.0.room.due, paced_soon clocks slots r.turn (r ∷ before) rs p.1)

module _ (clock : BoardClock) (top turns : ℕ) (far : turns + 250 ≤ top + 1) where
  -- how many turns later a unit may be due
  abbrev Off : ℕ
  Off = 250 - lead_of clock.drift

  -- by so many turns the clock lines may be behind the board
  abbrev pub AreNearBy : Clocks → ℕ → ℕ → Type 0
  AreNearBy clocks ready until = (k : ℕ) → ready ≤ k → k ≤ until → k ≤ top → board_tick clock k ≤ lines_tick clocks ((k + Off) * turn_ns)

  abbrev AreDueIn : List Release → Type 0
  AreDueIn [] = Unit {0}
  AreDueIn (r ∷ rs) = (r.turn < turns → board_tick clock (r.unit.due - Off) ≤ r.unit.first) × AreDueIn rs

  module _ (few : Off ≤ 1) where
    due_in : (f : Frame) (rs : List Release) → AreNearBy f.clocks f.ready f.tracked.until → AreInside f rs → AreSoon rs → AreDueIn rs
    due_in f [] near i s = tt
    due_in f (r ∷ rs) near i s = (here, due_in f rs near i.1 s.1)
      where
        here : r.turn < turns → board_tick clock (r.unit.due - Off) ≤ r.unit.first
        here low =
            let due = r.unit.due in
            let is = i.0.due in
            let under = i.0.low in
            let first : r.unit.first < lines_tick f.clocks ((f.end + 1) * turn_ns) = (let up = i.0.up in let high = i.0.high in omega (arith, up, high)) in
            let last = turn-below f.clocks r.unit.first f.end first in
            let after = f.after in
            let limit = f.limit in
            let soon = s.0 in
            -- it is due in the section's first turn or later
            let start : f.start ≤ due = elim (leb_tells f.start due) [
              | inl p ↦ p.1
              | inr p ↦
                  let k = f.start - 1 in
                  let next : k + 1 ≡ f.start = omega (arith, after) in
                  let low_turn : lines_turn f.clocks r.unit.first ≤ k = (let later = p.1 in omega (arith, later, is, next)) in
                  let before = turn-after f.clocks r.unit.first k f.tracked.kept low_turn in
                  let same = ap (λ x. lines_tick f.clocks (x * turn_ns)) next in
                  absurd (omega (arith, before, same, under))
            ] in
            let k = due - Off in
            let back : k + Off ≡ due = omega (arith, few, start, after) in
            let behind = near k (omega (arith, few, start, after)) (omega (arith, is, last, limit)) (omega (arith, soon, low, far)) in
            let time = ap (λ x. lines_tick f.clocks (x * turn_ns)) back in
            elim (leb_tells (suc r.unit.first) (lines_tick f.clocks (due * turn_ns))) [
              | inl p ↦
                  let j = due - 1 in
                  let next : j + 1 ≡ due = omega (arith, start, after) in
                  let same = ap (λ x. lines_tick f.clocks (x * turn_ns)) next in
                  let early = p.1 in
                  let q = turn-below f.clocks r.unit.first j (omega (arith, early, same)) in
                  absurd (omega (arith, q, is, next))
              | inr p ↦ (let late = p.1 in omega (arith, behind, time, late))
            ]

    moves_due : (own : ℕ → ℕ) (clocks : Clocks) (freq slots ready : ℕ) (s : BoardSection) → AreTicks own → (tracked : AreTracked own clocks ready) → AreNearBy clocks ready tracked.until → IsSection clocks freq slots s → s.end < tracked.until
        → ready + 260 ≤ s.start → s.start ≤ s.end → AreDueIn s.releases
    moves_due own clocks freq slots ready s ticks tracked near i limit after order =
        let f : Frame = record { own = own; clocks = clocks; slots = slots; ready = ready; start = s.start; end = s.end; ticks = ticks; tracked = tracked; after = after; order = order; limit = limit } in
        let inside = all_inside f s.releases (λ oid.
        begun_inside f false oid false (of_stepper oid (units_of s.releases)) (i.begun oid) (early_fits freq (lines_tick clocks ((s.end + 1) * turn_ns)) (base_of clocks s) (section_steps oid s) (s.plan oid) (i.fits oid) (i.within oid))) in
        due_in f s.releases near inside (paced_soon clocks slots i.from [] s.releases i.paced)

    section_due : (own : ℕ → ℕ) (clocks : Clocks) (freq slots ready : ℕ) (stops : ℕ → Option ℕ) (homes : Bool) (s : BoardSection) → AreTicks own → (tracked : AreTracked own clocks ready) → AreNearBy clocks ready tracked.until
        → IsSectionBy homes clocks freq slots tracked.until stops s → ready + 260 ≤ s.start → s.start ≤ s.end → AreDueIn s.releases
    section_due own clocks freq slots ready stops true s ticks tracked near i after order =
        let f : Frame = record { own = own; clocks = clocks; slots = slots; ready = ready; start = s.start; end = i.last; ticks = ticks; tracked = tracked; after = after; order = i.order; limit = i.limit } in
        let inside = all_inside f s.releases (λ oid.
        begun_inside f true oid false (of_stepper oid (units_of s.releases)) (i.begun oid) (early_fits freq (lines_tick clocks ((i.last + 1) * turn_ns)) (base_of clocks s) (section_steps oid s) (s.plan oid) (i.fits oid) (i.within oid))) in
        due_in f s.releases near inside (paced_soon clocks slots i.from [] s.releases i.paced)
    section_due own clocks freq slots ready stops false s ticks tracked near i after order = moves_due own clocks freq slots ready s ticks tracked near i.is i.limit after order

    abbrev pub AllDueIn : List RunSection → Type 0
    AllDueIn [] = Unit {0}
    AllDueIn (s ∷ ss) = AreDueIn s.section.releases × AllDueIn ss

    pub sections_due : (own : ℕ → ℕ) (clocks : Clocks) (freq slots ready e : ℕ) (stops : ℕ → Option ℕ) (ss : List RunSection) → AreTicks own → (tracked : AreTracked own clocks ready) → AreNearBy clocks ready tracked.until → ready ≤ e
        → All (λ s. IsSectionBy s.homes clocks freq slots tracked.until stops s.section) ss → AreInTurn e ss → AllDueIn ss
    sections_due own clocks freq slots ready e stops [] ticks tracked near low i row = tt
    sections_due own clocks freq slots ready e stops (x ∷ ss) ticks tracked near low i row =
        let P : RunSection → Type 0 = λ y. IsSectionBy y.homes clocks freq slots tracked.until stops y.section in
        let after = row.0 in
        let order = row.1 in (
          section_due own clocks freq slots ready stops x.homes x.section ticks tracked near (All-head P x ss i) (omega (arith, low, after)) order,
          sections_due own clocks freq slots ready x.section.end stops ss ticks tracked near (omega (arith, low, after, order)) (All-tail P x ss i) row.2,
        )

    due_both : (us vs : List StepUnit) → AreDue clock us → AreDue clock vs → AreDue clock (us ++ vs)
    due_both [] vs a b = b
    due_both (u ∷ us) vs a b = (a.0, due_both us vs a.1 b)

    batch_due : (k : ℕ) (rs : List Release) → k < turns → AreDueIn rs → AreDue clock (batch_at k rs)
    batch_due k [] low a = tt
    batch_due k (r ∷ rs) low a =
        let rest = batch_due k rs low a.1 in
        elim (eqb_tells r.turn k) [
          | inl p ↦ (let at = p.1 in let here = a.0 (omega (arith, at, low)) in rw p.0 (here, rest))
          | inr p ↦ rw p.0 rest
        ]

    units_due : (k : ℕ) (ss : List RunSection) → k < turns → AllDueIn ss → AreDue clock (flat_map (λ s. batch_at k s.section.releases) ss)
    units_due k [] low a = tt
    units_due k (s ∷ ss) low a = due_both (batch_at k s.section.releases) (flat_map (λ (x : RunSection). batch_at k x.section.releases) ss) (batch_due k s.section.releases low a.0) (units_due k ss low a.1)

    pub orders_due : (clocks : Clocks) (ss : List RunSection) (turn : ℕ) (os : List Orders) → turn + length os ≤ turns → AllDueIn ss → AreOrdersIn clocks ss turn os → AllDue clock os
    orders_due clocks ss turn [] low a are = tt
    orders_due clocks ss turn (o ∷ os) low a are =
        let Due : List StepUnit → Type 0 = λ us. AreDue clock us in
        (subst Due (sym are.1) (units_due turn ss (omega (arith, low)) a), orders_due clocks ss (turn + 1) os (omega (arith, low)) a are.2)
