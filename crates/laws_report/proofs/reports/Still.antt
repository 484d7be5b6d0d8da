-- A board to which no units come makes no pulses, whatever its link does with what comes.
use Rattle.std.proofs.Common.{◌≡◌, ◌≢◌, ℕ, ◌+◌, ◌-◌, ◌≤◌, List, [], ◌∷◌, ◌++◌, All, length, map, take, refl, ap, sym, ◌∙◌, subst, arith, rules}
use Rattle.laws_board.proofs.Names.{All-nil, flat_map, Level, BoardDef, Pulse, board_tick, clock_of, Clocks, one_line, State, Entry, StepUnit, Meant, plain, units_orders, Core, Step, run_world, new_world, queued_in, first_state, LinkState, Orders, BoardSection, of_stepper, units_of}
use Rattle.plan_types.specs.Machines.{IsValidBoard}
use Rattle.section_units.specs.Sections.{IsSection}
use Rattle.laws_board.specs.sections.Events.{AreTurnsOf}
use Rattle.laws_board.specs.sections.Links.{AreTold, pulses_in, steps_of, turns_told}
use Rattle.laws_board.specs.sections.Parts.{AreOrdersOf, AreTracked, IsControl, IsBoardRun, MakesIn}
use Rattle.laws_board.specs.sections.Timely.{AreTimely, TakesSoon}
use Rattle.laws_board.proofs.sections.Unmoved as unmoved
use Rattle.laws_board.proofs.sections.Lasting.{controls_timely}
use Rattle.laws_board.proofs.sections.Linking.{first_tick, told_made, turns_are, valid_ticks}
use Rattle.laws_board.proofs.sections.Soon.{timely_append}
use Rattle.laws_board.proofs.sections.Timing.{AreLasting, lasting_timely}

-- in some turns nothing is queued but control commands
abbrev pub AreStill : List Orders → Type 0
AreStill [] = Unit {0}
AreStill (o ∷ os) = All IsControl o.control.commands × (o.batch.units ≡ []) × AreStill os

still_parts : (xs ys : List Orders) → AreStill (xs ++ ys) → AreStill xs × AreStill ys
still_parts [] ys h = (tt, h)
still_parts (x ∷ xs) ys h = let r = still_parts xs ys h.2 in ((h.0, h.1, r.0), r.1)

-- so they are the orders of no sections
still_orders : (k : ℕ) (os : List Orders) → AreStill os → AreOrdersOf [] k os
still_orders k [] h = tt
still_orders k (o ∷ os) h = (h.0, h.1, still_orders (k + 1) os h.2)

-- no unit that they queue is taken too late, since there is none
still_timely : (t : ℕ) (os : List Orders) → AreStill os → AreTimely t (flat_map queued_in os)
still_timely t [] h = tt
still_timely t (o ∷ os) h =
    let Units : List StepUnit → Type 0 = λ us. AreTimely t (units_orders us) in
    let units = subst Units (sym h.1) tt in
    timely_append t (queued_in o) (flat_map queued_in os)
    (timely_append t (map plain o.control.commands) (units_orders o.batch.units) (controls_timely t o.control.commands h.0) units)
    (still_timely t os h.2)

still_lasting : (own : ℕ → ℕ) (n : ℕ) (all : List Orders) → AreStill all → AreLasting own n all
still_lasting own n all still xs seg os top joined near =
    let parts = still_parts xs (seg ++ os) (subst AreStill joined still) in
    still_timely (own (top + 1)) seg (still_parts seg os parts.1).0

-- all that was queued as many turns before as there are was taken, since that is nothing
takes_none : (n : ℕ) (all : List Orders) (own : ℕ → ℕ) (turn : ℕ) (os : List Orders) (steps : List Step) (h : Core) (t : AreTurnsOf own turn os steps) → turn + length os ≤ n → TakesSoon n all own turn os steps h t
takes_none n all own turn [] steps h t low = tt
takes_none n all own turn (o ∷ os) steps h t low =
    let none : 0 ≡ turn - n = omega (arith, low) in
    let Took : ℕ → Type 0 = λ k. (more : List Meant) × (flat_map queued_in (take k all) ++ more ≡ h.taken) in
    (subst Took none (h.taken, refl), takes_none n all own (turn + 1) os t.1 (run_world t.0 h) t.4 (omega (arith, low)))

-- a clock line that a board may have
abbrev some_clocks : BoardDef → Clocks
some_clocks b = one_line (record { at = 0; clock = 0; freq = b.freq })

still_tracked : (b : BoardDef) (own : ℕ → ℕ) → IsValidBoard b → AreTracked own (some_clocks b) 1
still_tracked b own v =
    let freq = v.freq in
    record {
      until = 0;
      kept = record {
        valid = record { freq_low = freq.low; freq_high = freq.high; freq_whole = freq.whole; whole_turn = refl; few_turns = omega arith };
        held = tt;
      };
      behind = λ k low high. absurd (omega (arith, low, high));
      ahead = λ k low high. absurd (omega (arith, low, high));
    }

still_run : (b : BoardDef) (own : ℕ → ℕ) (os : List Orders) → IsValidBoard b → AreStill os → IsBoardRun own (some_clocks b) b.freq b.slots 1 [] os
still_run b own os v still = search (rules, still_tracked, still_orders, of_stepper, units_of)

-- such a board makes no pulses
none_made : (b : BoardDef) (pins : List (List Level)) (os : List Orders) (steps : List Step) → IsValidBoard b → AreStill os → AreTurnsOf (board_tick (clock_of b)) 0 os steps → (run_world steps (new_world b pins)).made ≡ (new_world b pins).made
none_made b pins os steps v still turns =
    let own = board_tick (clock_of b) in
    let ticks = valid_ticks b v in
    let timely = lasting_timely b pins own (length os) os steps turns ticks (first_tick b) (still_lasting own (length os) os still) (takes_none (length os) os own 0 os steps (new_world b pins) turns (omega arith)) in
    unmoved.none_made b pins own (some_clocks b) 1 os steps ticks (first_tick b) (still_run b own os v still) turns timely

no_pulses : (ps : List Pulse) (states : List State) → ps ++ pulses_in states ≡ [] → (ps ≡ []) × (pulses_in states ≡ [])
no_pulses [] states e = (refl, e)
no_pulses (p ∷ ps) states e = cc

-- none of some states tells a pulse
abbrev pub NonePulse : List State → Type 0
NonePulse [] = Unit {0}
NonePulse (s ∷ states) = (s.pulses ≡ []) × NonePulse states

none_each : (states : List State) → pulses_in states ≡ [] → NonePulse states
none_each [] e = tt
none_each (s ∷ states) e = let r = no_pulses s.pulses states e in (r.0, none_each states r.1)

-- and its link tells none
pub still_states : (b : BoardDef) (pins : List (List Level)) (board : ℕ) (entries : List Entry) (os : List Orders) (states : List State) (l : LinkState) → IsValidBoard b → AreStill os
    → AreTold (clock_of b) 0 os states (first_state b pins board entries) l → NonePulse states
still_states b pins board entries os states l v still told =
    let clock = clock_of b in
    let first = first_state b pins board entries in
    let turns = turns_told clock 0 os states first l told in
    let is = turns_are clock 0 os first l turns in
    let none : l.core.made ≡ [] = ap (λ (h : Core). h.made) is.0 ∙ none_made b pins os (steps_of clock 0 os first l turns) v still is.1 in
    none_each states (told_made clock 0 os states first l told ∙ none)
