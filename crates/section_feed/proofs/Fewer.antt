-- Of the clock lines of a board the first ones plan as all do, up to the turn from which on the others hold.
use Rattle.std.proofs.Common.{◌≡◌, ℕ, suc, ◌+◌, ◌*◌, ◌<◌, ◌≤◌, Bool, false, cond, max, List, [], ◌∷◌, ◌++◌, All, length, map, arith, ap, sym, ◌∙◌, refl, subst, inl, inr}
use Rattle.std.specs.Prelude.{◌⊎◌, nat_le}
use Rattle.std.proofs.lemmas.Bool.{cases_lt}
use Rattle.std.proofs.lemmas.Bool.Decides.{eqb_tells, leb_tells, nat_tests}
use Rattle.std.proofs.lemmas.List.Elements.{All-append, All-cons, All-head, All-nil, All-tail}
use Rattle.std.proofs.lemmas.List.FromFn.{length-map-range_with_len}
use Rattle.plan_types.specs.declared.machine.Machine.{Machine}
use Rattle.plan_types.specs.declared.plan.Held.{Held}
use Rattle.plan_types.specs.declared.plan.Line.{Line}
use Rattle.plan_types.specs.declared.plan.Move.{Move}
use Rattle.plan_types.specs.declared.plan.Planned.{Planned}
use Rattle.plan_types.specs.declared.plan.Pulse.{Pulse}
use Rattle.plan_types.specs.Board.{TicksRise, last_of, steps_of}
use Rattle.plan_types.specs.Clock.{tick, turn_ns}
use Rattle.plan_types.specs.Lines.{AreHeld, Clocks, board_over, come, lines_board, lines_tick, lines_turn, tick_over}
use Rattle.plan_types.specs.Machines.{board_at, stepper_at}
use Rattle.plan_types.specs.Plan.{AreSpaced, Fits, IsPulseOf, cancel_reach, filtered, max_error, on_board, spaced, pulse_of}
use Rattle.plan_types.specs.Sections.{clocks_at, section_parts, section_plans, segment_of, stepper_plan}
use Rattle.plan_types.specs.Steps.{raw_steps}
use Rattle.clock_line.specs.Kept.{AreKept, clocks_of}
use Rattle.clock_line.proofs.Holding.{passed, tick-mono}
use Rattle.clock_line.proofs.Turns.{tick_over-mono, turn-after, turn-below}
use Rattle.step_feed.specs.Pacing.{ArePaced, Release, units_of}
use Rattle.step_feed.specs.Units.{StepUnit}
use Rattle.section_units.specs.Merged.{plan_at}
use Rattle.section_units.specs.Plans.{IsFrontOnBy, plans_on}
use Rattle.section_units.specs.Sections.{AreBegunBy, AreChained, IsUnit, dir_after, of_stepper, steps_said, ticks_meant}
use Rattle.section_units.specs.Units.{as_sent, sent}
use Rattle.section_stream.proofs.Adding.{board-from}
use Rattle.section_feed.specs.Fewer.{AreFirstLines, AreSameTo, HoldBehind, PlansAgree}
use Rattle.section_feed.specs.Kinds.{board_kinds, steppers_on}
use Rattle.section_feed.specs.Wholes.{sent_plan}
use Rattle.section_feed.proofs.Ends.{has-number, plan-is}
use Rattle.section_feed.proofs.Following.{one-plan, other-plan, plan-spaced}
use Rattle.section_feed.proofs.Opening.{by-place}
use Rattle.section_feed.proofs.Staying.{AreAlike, IsEarly, IsReleaseEarly, begun-alike, begun-early, of-each, paced-alike, releases-early}

-- the ticks up to the time from which the others hold
tick-first : (line : Line) (most turn : ℕ) (held rest : List Held) (time : ℕ) → HoldBehind turn rest → time ≤ turn * turn_ns → tick_over line most (held ++ rest) time ≡ tick_over line most held time
tick-first line most turn [] [] time behind early = refl
tick-first line most turn [] (h ∷ rest) time behind early =
    let from = behind.0 in
    let late : time < h.from = omega (arith, from, early) in
    passed (nat_le h.from time) _ _ (grind (arith, nat_tests))
tick-first line most turn (g ∷ held) rest time behind early = ap (λ n. cond (nat_le g.from time) n (max most (tick line time))) (tick-first g.line (max most (tick line g.from)) turn held rest time behind early)

-- and the board's ticks of the plan ticks before it
board-first : (first line : Line) (from most turn : ℕ) (held rest : List Held) (n : ℕ) → HoldBehind turn rest → n < tick first (turn * turn_ns) → board_over first line from most (held ++ rest) n ≡ board_over first line from most held n
board-first first line from most turn [] [] n behind before = refl
board-first first line from most turn [] (h ∷ rest) n behind before =
    let begin = behind.0 in
    let up = tick-mono first (turn * turn_ns) h.from (omega (arith, begin)) in
    let late : n < tick first h.from = omega (arith, up, before) in
    passed (nat_le (tick first h.from) n) _ _ (grind (arith, nat_tests))
board-first first line from most turn (g ∷ held) rest n behind before =
    ap (λ x. cond (nat_le (tick first g.from) n) x (max most (come first line from n))) (board-first first g.line g.from (max most (come first line from (tick first g.from))) turn held rest n behind before)

held-first : (first line : Line) (from most : ℕ) (held rest : List Held) → AreHeld first line from most (held ++ rest) → AreHeld first line from most held
held-first first line from most [] rest are = tt
held-first first line from most (h ∷ held) rest are = (are.0, are.1, are.2, are.3, held-first first h.line h.from h.most held rest are.4, are.5)

-- the first ones of some lines, as far as they are all the same: up to the turn
pub record AreAlikeTo (short long : Clocks) (turn : ℕ) : Type 0 where
  pub first : short.first ≡ long.first
  pub kept : AreKept short
  pub ticks : (time : ℕ) → time ≤ turn * turn_ns → lines_tick short time ≡ lines_tick long time
  pub board : (n : ℕ) → n < tick long.first (turn * turn_ns) → lines_board short n ≡ lines_board long n

alike-first : (first : Line) (turn : ℕ) (held rest : List Held) → AreKept (clocks_of first (held ++ rest)) → HoldBehind turn rest → AreAlikeTo (clocks_of first held) (clocks_of first (held ++ rest)) turn
alike-first first turn held rest kept behind = record {
  first = refl;
  kept = record { valid = kept.valid; held = held-first first first 0 0 held rest kept.held };
  ticks = λ time early. sym (tick-first first 0 turn held rest time behind early);
  board = λ n before. sym (board-first first first 0 0 turn held rest n behind before);
}

pub alike-lines : (short long : Clocks) (turn : ℕ) → AreKept long → AreFirstLines short long turn → AreAlikeTo short long turn
alike-lines short long turn kept are =
    let is_long : long ≡ clocks_of long.first (short.held ++ are.rest) = ap (λ (h : List Held). clocks_of long.first h) are.are in
    let is_short : short ≡ clocks_of long.first short.held = ap (λ (l : Line). clocks_of l short.held) are.first in
    let same = alike-first long.first turn short.held are.rest (subst (λ (c : Clocks). AreKept c) is_long kept) are.behind in
    subst (λ (c : Clocks). AreAlikeTo c long turn) (sym is_short) (subst (λ (c : Clocks). AreAlikeTo (clocks_of long.first short.held) c turn) (sym is_long) same)

-- ticks before it stay in their turns
pub turns-alike : (short long : Clocks) (turn : ℕ) → AreKept long → AreAlikeTo short long turn → AreAlike short long (lines_tick long (turn * turn_ns))
turns-alike short long turn kept alike = λ t before. (
    let a = lines_turn long t in
    let b = lines_turn short t in
    let was = turn-after long t a kept (omega arith) in
    let is = turn-after short t b alike.kept (omega arith) in
    let end = alike.ticks (turn * turn_ns) (omega arith) in
    let up : t < lines_tick short ((a + 1) * turn_ns) = elim (cases_lt (turn * turn_ns) ((a + 1) * turn_ns)) as (λ _. t < lines_tick short ((a + 1) * turn_ns)) [
      | inl less ↦ (let m = tick_over-mono short.first 0 short.held (turn * turn_ns) ((a + 1) * turn_ns) (omega (arith, less)) in omega (arith, m, end, before))
      | inr more ↦ (let e = alike.ticks ((a + 1) * turn_ns) more in omega (arith, e, was))
    ] in
    let down : t < lines_tick long ((b + 1) * turn_ns) = elim (cases_lt (turn * turn_ns) ((b + 1) * turn_ns)) as (λ _. t < lines_tick long ((b + 1) * turn_ns)) [
      | inl less ↦ (let m = tick_over-mono long.first 0 long.held (turn * turn_ns) ((b + 1) * turn_ns) (omega (arith, less)) in omega (arith, m, before))
      | inr more ↦ (let e = alike.ticks ((b + 1) * turn_ns) more in omega (arith, e, is))
    ] in
    let one = turn-below short t a up in
    let two = turn-below long t b down in
    omega (arith, one, two))

-- two ticks are the same, or both at a tick or behind it
abbrev AreTicksTo : ℕ → ℕ → ℕ → Type 0
AreTicksTo bound t u = (t ≡ u) ⊎ ((bound ≤ t) × (bound ≤ u))

-- so are the planned steps, one by one
steps-same : (short long : Clocks) (turn from other : ℕ) (qs : List Planned) → AreKept long → AreAlikeTo short long turn → AreTicksTo (lines_tick long (turn * turn_ns)) from other → AreSameTo (lines_tick long (turn * turn_ns)) (spaced from (map (on_board short) qs)) (spaced other (map (on_board long) qs))
steps-same short long turn from other [] kept alike since = tt
steps-same short long turn from other (x ∷ xs) kept alike since =
    let bound = lines_tick long (turn * turn_ns) in
    let t = max (lines_board short x.tick) (from + 4) in
    let u = max (lines_board long x.tick) (other + 4) in
    let here : AreTicksTo bound t u = elim (cases_lt x.tick (tick long.first (turn * turn_ns))) as (λ _. AreTicksTo bound t u) [
      | inl less ↦ (let e = alike.board x.tick less in elim since as (λ _. AreTicksTo bound t u) [ inl same ↦ inl (omega (arith, e, same)) | inr late ↦ (let a = late.0 in let b = late.1 in inr (omega (arith, a), omega (arith, b))) ])
      | inr over ↦ (
          let a = board-from long (turn * turn_ns) x.tick kept over in
          let b = board-from short (turn * turn_ns) x.tick alike.kept (subst (λ (l : Line). tick l (turn * turn_ns) ≤ x.tick) (sym alike.first) over) in
          let e = alike.ticks (turn * turn_ns) (omega arith) in
          inr (omega (arith, b, e), omega (arith, a)))
    ] in
    let one : Planned = record { tick = t; up = x.up } in
    let two : Planned = record { tick = u; up = x.up } in
    (elim here as (λ _. (one ≡ two) ⊎ ((bound ≤ t) × (bound ≤ u))) [ inl e ↦ inl (ap (λ n. record { tick = n; up = x.up }) e) | inr late ↦ inr late ], steps-same short long turn t u xs kept alike here)

same-count : (bound : ℕ) (ps qs : List Planned) → AreSameTo bound ps qs → length ps ≡ length qs
same-count bound [] [] same = refl
same-count bound [] (q ∷ qs) same = absurd same
same-count bound (p ∷ ps) [] same = absurd same
same-count bound (p ∷ ps) (q ∷ qs) same = let later = same-count bound ps qs same.1 in omega (arith, later)

same-turned : (bound : ℕ) (ps qs : List Planned) → AreSameTo bound ps qs → AreSameTo bound qs ps
same-turned bound [] [] same = tt
same-turned bound [] (q ∷ qs) same = same
same-turned bound (p ∷ ps) [] same = same
same-turned bound (p ∷ ps) (q ∷ qs) same = (elim same.0 as (λ _. (q ≡ p) ⊎ ((bound ≤ q.tick) × (bound ≤ p.tick))) [ inl e ↦ inl (sym e) | inr late ↦ inr (late.1, late.0) ], same-turned bound ps qs same.1)

-- in the directions that are sent too
same-sent : (inverted : Bool) (bound : ℕ) (ps qs : List Planned) → AreSameTo bound ps qs → AreSameTo bound (as_sent inverted ps) (as_sent inverted qs)
same-sent inverted bound [] [] same = tt
same-sent inverted bound [] (q ∷ qs) same = same
same-sent inverted bound (p ∷ ps) [] same = same
same-sent inverted bound (p ∷ ps) (q ∷ qs) same =
    let one : Planned = record { tick = p.tick; up = sent inverted p.up } in
    let two : Planned = record { tick = q.tick; up = sent inverted q.up } in
    (elim same.0 as (λ _. (one ≡ two) ⊎ ((bound ≤ p.tick) × (bound ≤ q.tick))) [ inl e ↦ inl (ap (λ (s : Planned). record { tick = s.tick; up = sent inverted s.up }) e) | inr late ↦ inr late ], same-sent inverted bound ps qs same.1)

-- the plan ticks of a stepper's steps, by the first line of its board
kept-of : Machine → List Move → ℕ → ℕ → Line → List Planned
kept-of m moves start s line = filtered (cancel_reach line.freq) (raw_steps (stepper_at m s).gear line.freq (map (segment_of m.corexy (stepper_at m s).drive line) (section_parts m moves start)))

pub plans-agree : (m : Machine) (short long : List Clocks) (moves : List Move) (start turn s : ℕ) → AreKept (clocks_at long (stepper_at m s).board) → AreFirstLines (clocks_at short (stepper_at m s).board) (clocks_at long (stepper_at m s).board) turn → start ≤ turn
    → PlansAgree m short long moves start s (lines_tick (clocks_at long (stepper_at m s).board) (turn * turn_ns))
unfolding kept-of
plans-agree m short long moves start turn s kept are order =
    let one = clocks_at short (stepper_at m s).board in
    let all = clocks_at long (stepper_at m s).board in
    let bound = lines_tick all (turn * turn_ns) in
    let alike = alike-lines one all turn kept are in
    let base : lines_tick one (start * turn_ns) ≡ lines_tick all (start * turn_ns) = alike.ticks (start * turn_ns) (omega (arith, order)) in
    let plan : Line → List Planned = λ l. spaced (lines_tick one (start * turn_ns)) (map (on_board one) (kept-of m moves start s l)) in
    let same : AreSameTo bound (stepper_plan m short moves start s) (stepper_plan m long moves start s) = subst (λ (l : Line). AreSameTo bound (plan l) (stepper_plan m long moves start s)) (sym alike.first) (steps-same one all turn (lines_tick one (start * turn_ns)) (lines_tick all (start * turn_ns)) (kept-of m moves start s all.first) kept alike (inl base)) in
    record { freq = ap (λ (l : Line). l.freq) alike.first; base = base; same = same; count = same-count bound (stepper_plan m short moves start s) (stepper_plan m long moves start s) same }

-- what fits one plan, and is before the tick by more than a step may be early, fits the other
fits-same : (freq bound base : ℕ) (ps : List Pulse) (ones others : List Planned) → AreSameTo bound ones others → All (λ (p : Pulse). p.tick + max_error freq < bound) ps → Fits freq base ps ones → Fits freq base ps others
fits-same freq bound base [] ones others same early fits = tt
fits-same freq bound base (p ∷ ps) [] others same early fits = absurd fits
fits-same freq bound base (p ∷ ps) (s ∷ ones) [] same early fits = absurd same
fits-same freq bound base (p ∷ ps) (s ∷ ones) (q ∷ others) same early fits =
    let P : Pulse → Type 0 = λ x. x.tick + max_error freq < bound in
    let later = fits-same freq bound s.tick ps ones others same.1 (All-tail P p ps early) fits.1 in
    elim same.0 as (λ _. IsPulseOf freq base q p × Fits freq q.tick ps others) [
      | inl e ↦ (subst (λ (x : Planned). IsPulseOf freq base x p) e fits.0, subst (λ (x : Planned). Fits freq x.tick ps others) e later)
      | inr late ↦ absurd (let at = late.0 in let own = All-head P p ps early in let from = fits.0.not_early in omega (arith, at, own, from))
    ]

pub fits-agree : (m : Machine) (short long : List Clocks) (moves : List Move) (start s bound : ℕ) (ps : List Pulse) → PlansAgree m short long moves start s bound → All (λ p. p.tick + max_error (clocks_at long (stepper_at m s).board).first.freq < bound) ps
    → Fits (clocks_at long (stepper_at m s).board).first.freq (lines_tick (clocks_at long (stepper_at m s).board) (start * turn_ns)) ps (stepper_plan m long moves start s) → Fits (clocks_at short (stepper_at m s).board).first.freq (lines_tick (clocks_at short (stepper_at m s).board) (start * turn_ns)) ps (stepper_plan m short moves start s)
fits-agree m short long moves start s bound ps agree early fits =
    let freq = (clocks_at long (stepper_at m s).board).first.freq in
    let plan = stepper_plan m short moves start s in
    let here = fits-same freq bound (lines_tick (clocks_at long (stepper_at m s).board) (start * turn_ns)) ps (stepper_plan m long moves start s) plan (same-turned bound plan (stepper_plan m long moves start s) agree.same) early fits in
    subst (λ f. Fits f (lines_tick (clocks_at short (stepper_at m s).board) (start * turn_ns)) ps plan) (sym agree.freq) (subst (λ t. Fits freq t ps plan) (sym agree.base) here)

-- a step that units mean is before a tick where they end before it
abbrev pub IsPulseEarly : ℕ → ℕ → Pulse → Type 0
IsPulseEarly e bound p = p.tick + e < bound

abbrev pub IsLastEarly : ℕ → ℕ → StepUnit → Type 0
IsLastEarly e bound u = u.last + e < bound

ticks-early : (e bound oid : ℕ) (d : Bool) (x : ℕ) (ts : List ℕ) → TicksRise (x ∷ ts) → last_of x ts + e < bound → All (IsPulseEarly e bound) (map (pulse_of oid) (steps_of d (x ∷ ts)))
ticks-early e bound oid d x [] rise end = All-cons (IsPulseEarly e bound) (record { tick = x; stepper = oid; up = d }) [] end (All-nil (IsPulseEarly e bound))
ticks-early e bound oid d x (t ∷ ts) rise end =
    let P = IsPulseEarly e bound in
    let here : x < t = rise 0 (omega arith) in
    let tail : TicksRise (t ∷ ts) = λ i h. let same : suc i + 1 ≡ suc (i + 1) = omega arith in rw same at (rise (suc i) (omega (arith, h))) in
    let later = ticks-early e bound oid d t ts tail end in
    let own : t + e < bound = All-head P (record { tick = t; stepper = oid; up = d }) (map (pulse_of oid) (steps_of d ts)) later in
    All-cons P (record { tick = x; stepper = oid; up = d }) (map (pulse_of oid) (steps_of d (t ∷ ts))) (omega (arith, here, own)) later

unit-pulses : (clocks : Clocks) (b e bound oid : ℕ) (d : Bool) (u : StepUnit) (ts : List ℕ) → ts ≡ ticks_meant u → IsUnit clocks b u → u.last + e < bound → All (IsPulseEarly e bound) (map (pulse_of oid) (steps_of d ts))
unit-pulses clocks b e bound oid d u [] is unit end = All-nil (IsPulseEarly e bound)
unit-pulses clocks b e bound oid d u (x ∷ ts) is unit end =
    let last : u.last ≡ last_of x ts = unit.last ∙ ap (last_of 0) (sym is) in
    ticks-early e bound oid d x ts (subst (λ (ys : List ℕ). TicksRise ys) (sym is) unit.rise) (omega (arith, last, end))

chain-pulses : (clocks : Clocks) (b e bound oid : ℕ) (up : Bool) (us : List StepUnit) → AreChained clocks b us → All (IsLastEarly e bound) us → All (IsPulseEarly e bound) (steps_said oid up us)
chain-pulses clocks b e bound oid up [] chain ends = All-nil (IsPulseEarly e bound)
chain-pulses clocks b e bound oid up (u ∷ us) chain ends =
    let d = dir_after up u.up in
    All-append (IsPulseEarly e bound) (map (pulse_of oid) (steps_of d (ticks_meant u))) (steps_said oid d us) (unit-pulses clocks b e bound oid d u (ticks_meant u) refl chain.1 (All-head (IsLastEarly e bound) u us ends)) (chain-pulses clocks u.last e bound oid d us chain.2 (All-tail (IsLastEarly e bound) u us ends))

pub begun-pulses : (homing : Bool) (clocks : Clocks) (b e bound oid : ℕ) (us : List StepUnit) → AreBegunBy homing clocks b us → All (IsLastEarly e bound) us → All (IsPulseEarly e bound) (steps_said oid false us)
begun-pulses homing clocks b e bound oid [] begun ends = All-nil (IsPulseEarly e bound)
begun-pulses homing clocks b e bound oid (u ∷ us) begun ends =
    let d = dir_after false u.up in
    All-append (IsPulseEarly e bound) (map (pulse_of oid) (steps_of d (ticks_meant u))) (steps_said oid d us) (unit-pulses clocks b e bound oid d u (ticks_meant u) refl begun.2 (All-head (IsLastEarly e bound) u us ends)) (chain-pulses clocks u.last e bound oid d us begun.3 (All-tail (IsLastEarly e bound) u us ends))

-- what holds of all releases, holds of the units of a stepper
pub of-all : (P : StepUnit → Type 0) (oid : ℕ) (rs : List Release) → All (λ (r : Release). P r.unit) rs → All P (of_stepper oid (units_of rs))
of-all P oid [] all = All-nil P
of-all P oid (r ∷ rs) all =
    let Q : Release → Type 0 = λ x. P x.unit in
    let later = of-all P oid rs (All-tail Q r rs all) in
    elim (eqb_tells r.unit.stepper oid) [ inl p ↦ rw p.0 (All-cons P r.unit (of_stepper oid (units_of rs)) (All-head Q r rs all) later) | inr p ↦ rw p.0 later ]

-- the plans of a board
plans-same : (m : Machine) (short long : List Clocks) (moves : List Move) (start turn b oid : ℕ) → AreKept (clocks_at long b) → AreFirstLines (clocks_at short b) (clocks_at long b) turn → start ≤ turn → AreSameTo (lines_tick (clocks_at long b) (turn * turn_ns)) (plan_at (plans_on m short moves start b) oid) (plan_at (plans_on m long moves start b) oid)
plans-same m short long moves start turn b oid kept are order =
    let bound = lines_tick (clocks_at long b) (turn * turn_ns) in
    elim (leb_tells (length (steppers_on b m.steppers)) oid) as (λ _. AreSameTo bound (plan_at (plans_on m short moves start b) oid) (plan_at (plans_on m long moves start b) oid)) [
      | inl p ↦ subst (λ (ps : List Planned). AreSameTo bound ps (plan_at (plans_on m long moves start b) oid)) (sym (other-plan m short moves start b oid p.1)) (subst (AreSameTo bound []) (sym (other-plan m long moves start b oid p.1)) tt)
      | inr p ↦
          let h = p.1 in
          let inside : oid < length (steppers_on b m.steppers) = omega (arith, h) in
          let n = has-number b m.steppers (section_plans m long moves start) oid (length-map-range_with_len (stepper_plan m long moves start) 0 (length m.steppers)) inside in
          let inverted = (stepper_at m n.number).inverted in
          let one = one-plan m short moves start b oid inside ∙ plan-is m short moves start b oid n.number false n.same n.board in
          let all = one-plan m long moves start b oid inside ∙ plan-is m long moves start b oid n.number false n.same n.board in
          let agree = plans-agree m short long moves start turn n.number (subst (λ k. AreKept (clocks_at long k)) (sym n.board) kept) (subst (λ k. AreFirstLines (clocks_at short k) (clocks_at long k) turn) (sym n.board) are) order in
          let same : AreSameTo bound (stepper_plan m short moves start n.number) (stepper_plan m long moves start n.number) = subst (λ k. AreSameTo (lines_tick (clocks_at long k) (turn * turn_ns)) (stepper_plan m short moves start n.number) (stepper_plan m long moves start n.number)) n.board agree.same in
          subst (λ (ps : List Planned). AreSameTo bound ps (plan_at (plans_on m long moves start b) oid)) (sym one) (subst (AreSameTo bound (as_sent inverted (stepper_plan m short moves start n.number))) (sym all) (same-sent inverted bound _ _ same))
    ]

-- the first units of a section by the first lines are those by all, as far as they end before
pub front-agrees : (homing : Bool) (m : Machine) (short long : List Clocks) (moves : List Move) (start turn b : ℕ) (rs : List Release) → AreKept (clocks_at long b) → AreFirstLines (clocks_at short b) (clocks_at long b) turn → start ≤ turn
    → All (λ r. r.unit.last + max_error (board_at m b).freq < lines_tick (clocks_at long b) (turn * turn_ns)) rs → IsFrontOnBy homing m short moves start b rs → IsFrontOnBy homing m long moves start b rs
front-agrees homing m short long moves start turn b rs kept are order ends front =
    let one = clocks_at short b in
    let all = clocks_at long b in
    let freq = (board_at m b).freq in
    let e = max_error freq in
    let bound = lines_tick all (turn * turn_ns) in
    let alike = alike-lines one all turn kept are in
    let base = lines_tick one (start * turn_ns) in
    let same : base ≡ lines_tick all (start * turn_ns) = alike.ticks (start * turn_ns) (omega (arith, order)) in
    let turns = turns-alike one all turn kept alike in
    let us = λ (oid : ℕ). of_stepper oid (units_of rs) in
    let pulses : (oid : ℕ) → All (IsPulseEarly e bound) (steps_said oid false (us oid)) = λ oid. begun-pulses homing one base e bound oid (us oid) (front.begun oid) (of-all (IsLastEarly e bound) oid rs ends) in
    let early : (oid : ℕ) → All (IsEarly bound) (us oid) = λ oid. begun-early homing one base bound oid (us oid) (front.begun oid) (λ k d l. (let p = pulses oid k d l in omega (arith, p))) in
    record {
      spaced = λ oid. by-place m long moves start b oid (AreSpaced (lines_tick all (start * turn_ns))) (λ n. tt) (λ n. plan-spaced m long moves start b oid);
      begun = λ oid. subst (λ t. AreBegunBy homing all t (us oid)) same (begun-alike homing one all base bound (us oid) turns (early oid) (front.begun oid));
      fits = λ oid. subst (λ t. Fits freq t (steps_said oid false (us oid)) (plan_at (plans_on m long moves start b) oid)) same (fits-same freq bound base (steps_said oid false (us oid)) _ _ (plans-same m short long moves start turn b oid kept are order) (pulses oid) (front.fits oid));
      from = front.from;
      exact = front.exact;
      paced = paced-alike one all bound (board_at m b).slots front.from [] rs turns (All-nil (IsReleaseEarly bound)) (releases-early bound rs (of-each (IsEarly bound) (units_of rs) early)) front.paced;
    }

-- a section's first units on a board are told by the lines of that board alone
pub front-here : (homing : Bool) (m : Machine) (one other : List Clocks) (moves : List Move) (start b : ℕ) (rs : List Release) → clocks_at one b ≡ clocks_at other b → IsFrontOnBy homing m one moves start b rs → IsFrontOnBy homing m other moves start b rs
front-here homing m one other moves start b rs same front =
    let freq = (board_at m b).freq in
    let us = λ (oid : ℕ). of_stepper oid (units_of rs) in
    let base : Clocks → ℕ = λ c. lines_tick c (start * turn_ns) in
    let plan : Clocks → ℕ → List Planned = λ c oid. sent_plan (board_kinds m c b start false oid) c (base c) (section_parts m moves start) in
    let plans : (oid : ℕ) → plan_at (plans_on m one moves start b) oid ≡ plan_at (plans_on m other moves start b) oid = λ oid. by-place m one moves start b oid (λ ps. ps ≡ plan_at (plans_on m other moves start b) oid) (λ n. sym (other-plan m other moves start b oid n)) (λ h. ap (λ (c : Clocks). plan c oid) same ∙ sym (one-plan m other moves start b oid h)) in
    record {
      spaced = λ oid. by-place m other moves start b oid (AreSpaced (base (clocks_at other b))) (λ n. tt) (λ n. plan-spaced m other moves start b oid);
      begun = λ oid. subst (λ (c : Clocks). AreBegunBy homing c (base c) (us oid)) same (front.begun oid);
      fits = λ oid. subst (λ ps. Fits freq (base (clocks_at other b)) (steps_said oid false (us oid)) ps) (plans oid) (subst (λ (c : Clocks). Fits freq (base c) (steps_said oid false (us oid)) (plan_at (plans_on m one moves start b) oid)) same (front.fits oid));
      from = front.from;
      exact = front.exact;
      paced = subst (λ (c : Clocks). ArePaced c (board_at m b).slots front.from [] rs) same front.paced;
    }
