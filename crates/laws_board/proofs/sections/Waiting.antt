-- The units of one stepper that wait in a section, and what is known of it so far.
use Rattle.std.proofs.Common.{◌≡◌, ◌≢◌, ℕ, suc, true, ◌+◌, ◌*◌, ◌%◌, ◌^◌, ◌<◌, ◌≤◌, ◌⊎◌, List, [], ◌∷◌, ◌++◌, length, map, Option, Some, None, refl, ap, sym, ◌∙◌, subst, arith, inl, inr, append_assoc, rules}
use Rattle.laws_board.proofs.Names.{leb_tells, eqb_tells, Pulse, turn_ns, Clocks, lines_tick, StepUnit, Release}
use Rattle.std.specs.Prelude.{◌==◌, if◌then◌else◌}
use Rattle.plan_types.specs.Board.{last_of, steps_of, Continues}
use Rattle.plan_types.specs.Lines.{lines_turn}
use Rattle.plan_types.specs.Plan.{pulse_of}
use Rattle.clock_line.proofs.Turns.{turn-below}
use Rattle.step_feed.specs.Rings.{one_from, count_from}
use Rattle.step_feed.specs.Pacing.{over_turn, one_pending, pending}
use Rattle.laws_board.specs.sections.Events.{AreTicks}
use Rattle.laws_board.specs.sections.Known.{Known, AreBelow, IsGoodReset}
use Rattle.section_units.specs.Sections.{AreBegun, AreChained, IsUnit, dir_after, steps_said, ticks_meant}
use Rattle.laws_board.specs.sections.Parts.{AreTracked}
use Rattle.laws_board.proofs.sections.Counts.{none_from}
use Rattle.laws_board.proofs.sections.Clocks.{over_made, near_tick}
use Rattle.laws_board.proofs.sections.Units.{clock_after, behind_unit, IsGoodClock, IsGoodUnit}
use Rattle.step_feed.proofs.Rings.{count-append, one-behind, one-before}
use Rattle.board_sim.proofs.Steps.{last_any}

-- the numbers of a board with a section of it: its ticks, lines and slots, and the turn from which the section's units are
-- released
pub record Frame : Type 0 where
  pub own : ℕ → ℕ
  pub clocks : Clocks
  pub slots : ℕ
  pub ready : ℕ
  pub start : ℕ
  pub end : ℕ
  pub ticks : AreTicks own
  pub tracked : AreTracked own clocks ready
  pub after : ready + 260 ≤ start
  pub order : start ≤ end
  pub limit : end < tracked.until

abbrev pub base : Frame → ℕ
base f = lines_tick f.clocks (f.start * turn_ns)

-- a unit within a section
pub record IsInside (f : Frame) (u : StepUnit) : Type 0 where
  pub low : base f < u.first
  pub up : u.first ≤ u.last
  pub high : u.last < lines_tick f.clocks ((f.end + 1) * turn_ns)
  pub due : u.due ≡ lines_turn f.clocks u.first

abbrev pub AreInside : Frame → List Release → Type 0
AreInside f [] = Unit {0}
AreInside f (r ∷ rs) = IsInside f r.unit × AreInside f rs

-- the last ticks of a stepper's units
abbrev pub lasts : ℕ → List Release → List ℕ
lasts oid [] = []
lasts oid (r ∷ rs) = if r.unit.stepper == oid then r.unit.last ∷ lasts oid rs else lasts oid rs

-- a tick inside lies in a turn in which the lines are near
soon : (f : Frame) (t : ℕ) → t < lines_tick f.clocks ((f.end + 1) * turn_ns) → lines_turn f.clocks t < f.tracked.until
soon f t h = omega (arith, turn-below f.clocks t f.end h, f.limit)

-- fewer of them have steps at or after the board's tick of a turn than aren't over in it
one_over : (f : Frame) (turn : ℕ) (u : StepUnit) → IsInside f u → one_from (f.own turn) u.last ≤ one_pending f.clocks turn u.last
one_over f turn u i =
    elim (leb_tells (suc turn) (over_turn f.clocks u.last)) [
      | inl p ↦ rw p.0 (elim (leb_tells (f.own turn) u.last) [ inl q ↦ omega (arith, one-behind (f.own turn) u.last q.1) | inr q ↦ omega (arith, one-before (f.own turn) u.last (omega (arith, q.1))) ])
      | inr p ↦
          let made = over_made f.own f.clocks f.ready f.start turn u.last f.ticks f.tracked (omega (arith, f.after)) (omega (arith, i.low, i.up)) (soon f u.last i.high) (omega (arith, p.1)) in
          omega (arith, one-before (f.own turn) u.last made)
    ]

pub few_pend : (f : Frame) (turn oid : ℕ) (before : List Release) → AreInside f before → count_from (f.own turn) (lasts oid before) ≤ pending f.clocks oid turn before
few_pend f turn oid [] i = omega arith
few_pend f turn oid (r ∷ before) i =
    elim (eqb_tells r.unit.stepper oid) [
      | inl p ↦ rw p.0 (omega (arith, one_over f turn r.unit i.0, few_pend f turn oid before i.1))
      | inr p ↦ rw p.0 (omega (arith, few_pend f turn oid before i.1))
    ]

-- what is known of a stepper of which these units wait, and these last ticks were released in the section: none yet, or
-- the units that wait go on behind them
pub record Waits (f : Frame) (oid : ℕ) (total : List Pulse) (k : Known) (ls : List ℕ) (us : List StepUnit) : Type 0 where
  pub made : us ≢ [] → k.made ≡ true
  pub chain : (AreBegun f.clocks (base f) us × (ls ≡ [])) ⊎ AreChained f.clocks k.clock us
  pub old : List ℕ
  pub ends : k.ends ≡ ls ++ old
  pub below : (n : ℕ) → f.start ≤ n + 250 → AreBelow (f.own n) old
  pub said : k.steps ++ steps_said oid k.up us ≡ total

some_units : (u : StepUnit) (us : List StepUnit) → u ∷ us ≢ []
some_units u us e = cc

wrapped : (b interval first : ℕ) → Continues b interval first → Continues (b % 2 ^ 32) interval first
wrapped b interval first e = omega (arith, e)

-- the next unit of a stepper is good
abbrev UnitGoes : Frame → ℕ → List Pulse → ℕ → Known → List ℕ → StepUnit → List StepUnit → Type 0
UnitGoes f oid total turn k ls u us = IsGoodUnit f.own f.slots turn k u × Waits f oid total (behind_unit oid k u) (u.last ∷ ls) us

room_for : (f : Frame) (oid turn : ℕ) (total : List Pulse) (k : Known) (ls : List ℕ) (us : List StepUnit) → Waits f oid total k ls us → f.start ≤ turn + 250
    → count_from (f.own turn) ls < f.slots → count_from (f.own turn) k.ends < f.slots
room_for f oid turn total k ls us w soon room =
    rw w.ends (omega (arith, count-append (f.own turn) ls w.old, none_from (f.own turn) (f.own turn) w.old (omega arith) (w.below turn soon), room))

goes_behind : (f : Frame) (oid : ℕ) (total : List Pulse) (behind : ℕ) (k : Known) (ls : List ℕ) (u : StepUnit) (us : List StepUnit) → IsUnit f.clocks behind u → AreChained f.clocks u.last us
    → Waits f oid total k ls (u ∷ us) → Waits f oid total (behind_unit oid k u) (u.last ∷ ls) us
goes_behind f oid total behind k ls u us unit chain w = search (rules, last_any, some_units, append_assoc)

unit_good : (f : Frame) (turn behind clock : ℕ) (k : Known) (u : StepUnit) → IsInside f u → IsUnit f.clocks behind u → u.due ≤ turn + 250 → k.made ≡ true → count_from (f.own turn) k.ends < f.slots
    → IsGoodClock f.own turn k u.reset → clock_after k.clock u.reset ≡ clock → Continues clock u.triple.interval u.first → clock < u.first → IsGoodUnit f.own f.slots turn k u
unit_good f turn behind clock k u i unit due made room good is continues before = record {
  made = made;
  clock = good;
  triple = record {
    made = made;
    small = unit.small;
    ticks_of = unit.expands.ticks_of;
    rise = unit.rise;
    continues = rw (is, ← unit.first) continues;
    near = rw (← unit.first) (near_tick f.own f.clocks f.ready f.start turn u.first f.ticks f.tracked (omega (arith, f.after)) (omega (arith, i.low)) (soon f u.first (omega (arith, i.up, i.high))) (omega (arith, i.due, due)));
    behind = rw (is, ← unit.first) before;
    room = room;
  };
}

with_clock : (f : Frame) (turn : ℕ) (k : Known) (o : Option ℕ) (tick : ℕ) → o ≡ Some tick → IsGoodReset f.own turn k → IsGoodClock f.own turn k o × (clock_after k.clock o ≡ tick % 2 ^ 32)
with_clock f turn k o tick e g = rw e (g, refl)

no_clock : (f : Frame) (turn : ℕ) (k : Known) (o : Option ℕ) → o ≡ None → IsGoodClock f.own turn k o × (clock_after k.clock o ≡ k.clock)
no_clock f turn k o e = rw e (tt, refl)

pub unit_goes : (f : Frame) (oid : ℕ) (total : List Pulse) (turn : ℕ) (k : Known) (ls : List ℕ) (u : StepUnit) (us : List StepUnit) → Waits f oid total k ls (u ∷ us) → IsInside f u
    → f.start ≤ turn + 250 → u.due ≤ turn + 250 → count_from (f.own turn) ls < f.slots → UnitGoes f oid total turn k ls u us
unit_goes f oid total turn k ls u us w i soon due room =
    let made = w.made (some_units u us) in
    let few = room_for f oid turn total k ls (u ∷ us) w soon room in
    elim w.chain [
      | inl c ↦
          let (begun, none) = c in
          let (reset, told, unit, chain) = begun in
          let At : List ℕ → Type 0 = λ x. AreBelow (f.own turn) x in
          let ends : k.ends ≡ w.old = w.ends ∙ ap (λ x. x ++ w.old) none in
          let g = with_clock f turn k u.reset (base f) reset (record { made = made; before = subst At (sym ends) (w.below turn soon) }) in (
            unit_good f turn (base f) (base f % 2 ^ 32) k u i unit due made few g.0 g.1
                (wrapped (base f) u.triple.interval u.first (rw unit.first unit.expands.continues)) (omega (arith, i.low)),
            goes_behind f oid total (base f) k ls u us unit chain w,
          )
      | inr c ↦
          let (reset, unit, chain) = c in
          let g = no_clock f turn k u.reset reset in (
            unit_good f turn k.clock k.clock k u i unit due made few g.0 g.1 (rw unit.first unit.expands.continues) (rw unit.first unit.expands.behind),
            goes_behind f oid total k.clock k ls u us unit chain w,
          )
    ]
