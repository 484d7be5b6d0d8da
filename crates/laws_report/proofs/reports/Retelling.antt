-- The plan of a section does not depend on the turn at which a clock line is told.
use Rattle.std.proofs.Common.{◌≡◌, ◌∙◌, ℕ, zero, suc, ◌+◌, ◌-◌, ◌*◌, ◌/◌, ◌<◌, ◌≤◌, ◌^◌, Bool, true, false, List, [], ◌∷◌, ◌++◌, length, map, max, get_or, All, ap, sym, refl, arith, inl, inr, rules}
use Rattle.std.specs.Prelude.{◌==◌, nat_le, if◌then◌else◌}
use Rattle.std.specs.List.{range_with_len}
use Rattle.std.proofs.Math.Nat.{div-add-mod, mul-mod_left}
use Rattle.std.proofs.lemmas.Bool.{cases_lt}
use Rattle.std.proofs.lemmas.List.{get_or-map}
use Rattle.std.proofs.lemmas.List.{get_or_past}
use Rattle.laws_board.proofs.Names.{All-nil, Machine, Held, Line, Move, Planned, tick, turn_ns, Clocks, lines_tick, IsValidMachine, stepper_at, clocks_at, AreKept}
use Rattle.std.proofs.lemmas.List.Elements.{All-append}
use Rattle.plan_types.specs.declared.plan.Gear.{Gear}
use Rattle.plan_types.specs.declared.plan.Part.{Part}
use Rattle.plan_types.specs.declared.plan.Segment.{Segment}
use Rattle.plan_types.specs.Lines.{AreHeld, IsFit, board_over, come, lines_board, lines_turn, no_held, tick_over}
use Rattle.plan_types.specs.Machines.{no_stepper}
use Rattle.plan_types.specs.Parts.{parts}
use Rattle.plan_types.specs.Plan.{cancel_reach, filtered, on_board, planned_steps, spaced}
use Rattle.plan_types.specs.Sections.{TimedPart, duration, end_time, for_each_stepper, last_turn, latest, section_parts, segment_of, stepper_end, timed, timed_moves}
use Rattle.plan_types.specs.Speeds.{greatest_speeds}
use Rattle.plan_types.specs.Steps.{counts_passed, raw_steps, segment_steps}
use Rattle.plan_types.specs.Valid.{IsValidLine}
use Rattle.clock_line.proofs.Holding.{advanced, come-first, tick-mono, tick-none}
use Rattle.clock_line.proofs.Turns.{turn-after, turn-below, clock-least}
use Rattle.step_ticks.proofs.Lists.{filtered-All}
use Rattle.step_ticks.proofs.Within.{steps-within}
use Rattle.laws_report.specs.reports.Retold.{HaveLines, PlanAlike, all_retold, retold}
use Rattle.laws_board.specs.orders.Renewed.{NoneBefore}

-- the lines of one board
pub record AreTold (c : Clocks) (turn : ℕ) : Type 0 where
  pub kept : AreKept c
  pub behind : NoneBefore turn c.held
  pub before : c.first.at ≤ turn * turn_ns
  pub soon : turn < 2 ^ 62

ticks-by : (line : Line) (a q k t : ℕ) → line.at ≡ a * 1_000_000 → line.freq ≡ q * 1_000 → line.at ≤ k * turn_ns → k * turn_ns ≤ t → tick (record { at = k * turn_ns; clock = tick line (k * turn_ns); freq = line.freq }) t ≡ tick line t
ticks-by line a q k t at freq before after =
    let told : Line = record { at = k * turn_ns; clock = tick line (k * turn_ns); freq = line.freq } in
    let one = advanced line a q (k * turn_ns) at freq before in
    let two = advanced line a q t at freq (omega arith) in
    let three = advanced told k q t refl freq after in
    let four = advanced told k q (k * turn_ns) refl freq (omega arith) in
    let same : k * turn_ns - k * turn_ns ≡ 0 = omega arith in
    let here : tick told (k * turn_ns) ≡ tick line (k * turn_ns) = rw same (omega arith) in
    omega arith

-- from its turn on the first one has the same ticks
pub tick-retold : (c : Clocks) (turn t : ℕ) → AreTold c turn → turn * turn_ns ≤ t → tick (retold turn c).first t ≡ tick c.first t
tick-retold c turn t one after =
    let a = div-add-mod c.first.at 1_000_000 in
    let q = div-add-mod c.first.freq 1_000 in
    let wa = one.kept.valid.whole_turn in
    let wq = one.kept.valid.freq_whole in
    ticks-by c.first (c.first.at / 1_000_000) (c.first.freq / 1_000) turn t (omega arith) (omega arith) one.before after

clock-retold : (c : Clocks) (turn : ℕ) → c.first.clock ≤ (retold turn c).first.clock
clock-retold c turn = omega arith

-- lines that hold from a time on, or later
abbrev pub AreFrom : ℕ → List Held → Type 0
AreFrom time [] = Unit {0}
AreFrom time (h ∷ held) = (time ≤ h.from) × AreFrom time held

from-each : (time : ℕ) (held : List Held) → AreFrom time held → (i : ℕ) → i < length held → time ≤ (get_or held i no_held).from
from-each time [] all i inside = absurd (omega (arith, inside))
from-each time (h ∷ held) all zero inside = all.0
from-each time (h ∷ held) all (suc i) inside = from-each time held all.1 i (omega (arith, inside))

from-rising : (first line : Line) (from most time : ℕ) (held : List Held) → AreHeld first line from most held → time ≤ from → AreFrom time held
from-rising first line from most time [] are low = tt
from-rising first line from most time (h ∷ held) are low =
    let up = are.0 in
    let next : time ≤ h.from = omega (arith, up, low) in
    (next, from-rising first h.line h.from h.most time held are.4 next)

held-from : (first : Line) (turn : ℕ) (held : List Held) → AreHeld first first 0 0 held → NoneBefore turn held → AreFrom (turn * turn_ns) held
held-from first turn [] are low = tt
held-from first turn (h ∷ held) are low = (low, from-rising first h.line h.from h.most (turn * turn_ns) held are.4 low)

pub all-from : (c : Clocks) (turn : ℕ) → AreTold c turn → AreFrom (turn * turn_ns) c.held
all-from c turn one = held-from c.first turn c.held one.kept.held one.behind

-- the lines behind it are kept as before
fit-retold : (c : Clocks) (turn : ℕ) (line : Line) (from : ℕ) → turn * turn_ns ≤ from → IsFit c.first line from → IsFit (retold turn c).first line from
fit-retold c turn line from after fit =
    record { same_freq = fit.same_freq; whole_freq = fit.whole_freq; whole_turn = fit.whole_turn; whole_start = mul-mod_left turn 1_000_000; before = fit.before; first_before = after }

held-retold : (c : Clocks) (turn : ℕ) (line : Line) (from most : ℕ) (held : List Held) → AreTold c turn → AreFrom (turn * turn_ns) held → AreHeld c.first line from most held → AreHeld (retold turn c).first line from most held
held-retold c turn line from most [] one all are = tt
held-retold c turn line from most (h ∷ held) one all are =
    (are.0, are.1, are.2, are.3 ∙ sym (tick-retold c turn h.from one all.0), held-retold c turn h.line h.from h.most held one all.1 are.4, fit-retold c turn h.line h.from all.0 are.5)

first-retold : (c : Clocks) (turn : ℕ) (held : List Held) → AreTold c turn → AreFrom (turn * turn_ns) held → AreHeld c.first c.first 0 0 held → AreHeld (retold turn c).first (retold turn c).first 0 0 held
first-retold c turn [] one all are = tt
first-retold c turn (h ∷ held) one all are =
    let same = tick-retold c turn h.from one all.0 in
    (are.0, are.1 ∙ ap (max 0) (sym same), are.2, are.3 ∙ sym same, held-retold c turn h.line h.from h.most held one all.1 are.4, fit-retold c turn h.line h.from all.0 are.5)

retold-valid : (c : Clocks) (turn : ℕ) → AreTold c turn → IsValidLine (retold turn c).first
retold-valid c turn one = search (rules, mul-mod_left)

pub retold-kept : (c : Clocks) (turn : ℕ) → AreTold c turn → AreKept (retold turn c)
retold-kept c turn one = record { valid = retold-valid c turn one; held = first-retold c turn c.held one (all-from c turn one) one.kept.held }

-- and the ticks by all of them are the same
ticks-same : (first told : Line) (bound : ℕ) (held : List Held) (t : ℕ) → ((u : ℕ) → bound ≤ u → tick told u ≡ tick first u) → AreFrom bound held → bound ≤ t → tick_over told 0 held t ≡ tick_over first 0 held t
ticks-same first told bound [] t same all after = ap (max 0) (same t after)
ticks-same first told bound (h ∷ held) t same all after =
    ap (λ x. if nat_le h.from t then tick_over h.line (max 0 x) held t else max 0 (tick told t)) (same h.from all.0)
    ∙ ap (λ x. if nat_le h.from t then tick_over h.line (max 0 (tick first h.from)) held t else max 0 x) (same t after)

pub lines-retold : (c : Clocks) (turn t : ℕ) → AreTold c turn → turn * turn_ns ≤ t → lines_tick (retold turn c) t ≡ lines_tick c t
lines-retold c turn t one after = ticks-same c.first (retold turn c).first (turn * turn_ns) c.held t (λ u o. tick-retold c turn u one o) (all-from c turn one) after

-- before its turn the ticks are no greater than then
early-ticks : (c : Clocks) (turn t : ℕ) → AreTold c turn → t < turn * turn_ns → lines_tick c t ≤ (retold turn c).first.clock
early-ticks c turn t one early =
    let each = from-each (turn * turn_ns) c.held (all-from c turn one) in
    let e = tick-none c.first c.first 0 0 c.held t (λ i low inside. (let f = each i inside in omega (arith, f, early))) in
    let m = tick-mono c.first t (turn * turn_ns) (omega (arith, early)) in
    omega (arith, e, m)

early-retold : (c : Clocks) (turn t : ℕ) → AreTold c turn → t < turn * turn_ns → lines_tick (retold turn c) t ≤ (retold turn c).first.clock
early-retold c turn t one early = search (rules, from-each, turn_ns, all-from, tick-none, tick-mono, tick-retold)

-- and the same turns
turn-retold : (c : Clocks) (turn t : ℕ) → AreTold c turn → (retold turn c).first.clock ≤ t → lines_turn (retold turn c) t ≡ lines_turn c t
turn-retold c turn t one from =
    let r = retold turn c in
    let k = lines_turn c t in
    let j = lines_turn r t in
    let after = turn-after c t k one.kept (omega arith) in
    let after' = turn-after r t j (retold-kept c turn one) (omega arith) in
    let below : j ≤ k = elim (cases_lt ((k + 1) * turn_ns) (turn * turn_ns)) [
      | inl less ↦ (let e = early-ticks c turn ((k + 1) * turn_ns) one less in absurd (omega (arith, e, after, from)))
      | inr more ↦ (let e = lines-retold c turn ((k + 1) * turn_ns) one more in turn-below r t k (omega (arith, e, after)))
    ] in
    let above : k ≤ j = elim (cases_lt ((j + 1) * turn_ns) (turn * turn_ns)) [
      | inl less ↦ (let e = early-retold c turn ((j + 1) * turn_ns) one less in absurd (omega (arith, e, after', from)))
      | inr more ↦ (let e = lines-retold c turn ((j + 1) * turn_ns) one more in turn-below c t j (omega (arith, e, after')))
    ] in
    omega (arith, below, above)

-- plan ticks from the turn on have the same ticks on the board
board-same : (first told line : Line) (from most bound : ℕ) (held : List Held) (n : ℕ) → ((u : ℕ) → bound ≤ u → tick told u ≡ tick first u) → bound ≤ from → AreFrom bound held → board_over told line from most held n ≡ board_over first line from most held n
board-same first told line from most bound [] n same begun all = ap (λ x. max most (tick line from + (n - x))) (same from begun)
board-same first told line from most bound (h ∷ held) n same begun all =
    ap (λ x. if nat_le (tick told h.from) n then board_over told h.line h.from (max most (tick line from + (tick told h.from - x))) held n else max most (tick line from + (n - x))) (same from begun)
    ∙ ap (λ x. if nat_le x n then board_over told h.line h.from (max most (tick line from + (x - tick first from))) held n else max most (tick line from + (n - tick first from))) (same h.from all.0)
    ∙ ap (λ x. if nat_le (tick first h.from) n then x else max most (tick line from + (n - tick first from))) (board-same first told h.line h.from (max most (tick line from + (tick first h.from - tick first from))) bound held n same all.0 all.1)

board-first : (first told : Line) (bound : ℕ) (held : List Held) (n : ℕ) → ((u : ℕ) → bound ≤ u → tick told u ≡ tick first u) → AreFrom bound held → first.clock ≤ n → told.clock ≤ n → board_over told told 0 0 held n ≡ board_over first first 0 0 held n
board-first first told bound [] n same all low late = ap (max 0) (come-first told n late ∙ sym (come-first first n low))
board-first first told bound (h ∷ held) n same all low late =
    let p = same h.from all.0 in
    let one : come told told 0 (tick told h.from) ≡ come first first 0 (tick first h.from) = come-first told (tick told h.from) (omega arith) ∙ p ∙ sym (come-first first (tick first h.from) (omega arith)) in
    let two : come told told 0 n ≡ come first first 0 n = come-first told n late ∙ sym (come-first first n low) in
    ap (λ x. if nat_le (tick told h.from) n then board_over told h.line h.from (max 0 x) held n else max 0 (come told told 0 n)) one
    ∙ ap (λ x. if nat_le (tick told h.from) n then board_over told h.line h.from (max 0 (come first first 0 (tick first h.from))) held n else max 0 x) two
    ∙ ap (λ x. if nat_le x n then board_over told h.line h.from (max 0 (come first first 0 (tick first h.from))) held n else max 0 (come first first 0 n)) p
    ∙ ap (λ x. if nat_le (tick first h.from) n then x else max 0 (come first first 0 n)) (board-same first told h.line h.from (max 0 (come first first 0 (tick first h.from))) bound held n same all.0 all.1)

board-retold : (c : Clocks) (turn n : ℕ) → AreTold c turn → (retold turn c).first.clock ≤ n → lines_board (retold turn c) n ≡ lines_board c n
board-retold c turn n one from =
    let low = clock-retold c turn in
    board-first c.first (retold turn c).first (turn * turn_ns) c.held n (λ u o. tick-retold c turn u one o) (all-from c turn one) (omega (arith, low, from)) from

-- parts that begin at a time or later
abbrev AreLate : ℕ → List TimedPart → Type 0
AreLate from [] = Unit {0}
AreLate from (p ∷ ps) = (from ≤ p.begin) × AreLate from ps

late-append : (from : ℕ) (xs ys : List TimedPart) → AreLate from xs → AreLate from ys → AreLate from (xs ++ ys)
late-append from [] ys late and = and
late-append from (x ∷ xs) ys late and = (late.0, late-append from xs ys late.1 and)

late-timed : (m : Move) (from before begin : ℕ) (ps : List Part) → from ≤ begin → AreLate from (timed m before begin ps)
late-timed m from before begin [] after = tt
late-timed m from before begin (p ∷ ps) after = by (p.d == 0) (late-timed m from (before + p.d) (begin + p.ns) ps (omega (arith, after))) where
  by : (b : Bool) → AreLate from (timed m (before + p.d) (begin + p.ns) ps)
      → AreLate from (if b then timed m (before + p.d) (begin + p.ns) ps else record { move = m; part = p; before = before; begin = begin } ∷ timed m (before + p.d) (begin + p.ns) ps)
  by true later = later
  by false later = (after, later)

late-moves : (cruise from : ℕ) (ms : List Move) (speeds : List ℕ) (begin : ℕ) → from ≤ begin → AreLate from (timed_moves cruise ms speeds begin)
late-moves cruise from [] speeds begin after = tt
late-moves cruise from (m ∷ ms) [] begin after = tt
late-moves cruise from (m ∷ ms) (g ∷ []) begin after = tt
late-moves cruise from (m ∷ ms) (g ∷ h ∷ speeds) begin after =
    late-append from (timed m 0 begin (parts m g h cruise)) (timed_moves cruise ms (h ∷ speeds) (begin + duration (parts m g h cruise))) (late-timed m from 0 begin (parts m g h cruise) after)
    (late-moves cruise from ms (h ∷ speeds) (begin + duration (parts m g h cruise)) (omega (arith, after)))

-- their segments are the same
segments-retold : (corexy : Bool) (drive : ℕ) (c : Clocks) (turn : ℕ) (ps : List TimedPart) → AreTold c turn → AreLate (turn * turn_ns) ps → map (segment_of corexy drive (retold turn c).first) ps ≡ map (segment_of corexy drive c.first) ps
segments-retold corexy drive c turn [] one late = refl
segments-retold corexy drive c turn (p ∷ ps) one late =
    let start = tick-retold c turn p.begin one late.0 in
    let after = late.0 in
    let end = tick-retold c turn (p.begin + p.part.ns) one (omega (arith, after)) in
    let rest = segments-retold corexy drive c turn ps one late.1 in
    rw (start, end, rest) refl

-- segments that start at a tick or later
abbrev StartLate : ℕ → List Segment → Type 0
StartLate from [] = Unit {0}
StartLate from (s ∷ ss) = (from ≤ s.start) × StartLate from ss

start-late : (corexy : Bool) (drive : ℕ) (line : Line) (from : ℕ) (ps : List TimedPart) → AreLate from ps → StartLate (tick line from) (map (segment_of corexy drive line) ps)
start-late corexy drive line from [] late = tt
start-late corexy drive line from (p ∷ ps) late = (tick-mono line from p.begin late.0, start-late corexy drive line from ps late.1)

abbrev IsLate : ℕ → Planned → Type 0
IsLate from q = from ≤ q.tick

raw-late : (g : Gear) (f from : ℕ) (segments : List Segment) → StartLate from segments → All (IsLate from) (raw_steps g f segments)
raw-late g f from [] late = All-nil (IsLate from)
raw-late g f from (s ∷ ss) late =
    let own = steps-within g f s (range_with_len 1 (counts_passed g s s.before (s.before + s.d))) in
    let after = late.0 in
    All-append (IsLate from) (segment_steps g f s) (raw_steps g f ss) (λ k d h. (let w = (own k d h).after in omega (arith, after))) (raw-late g f from ss late.1)

-- on the board they stand where they are planned
board-alike : (c : Clocks) (turn : ℕ) (qs : List Planned) → AreTold c turn → All (IsLate (retold turn c).first.clock) qs → map (on_board (retold turn c)) qs ≡ map (on_board c) qs
board-alike c turn [] one late = refl
board-alike c turn (q ∷ qs) one late =
    let same = board-retold c turn q.tick one (late 0 q (omega arith)) in
    let rest = board-alike c turn qs one (λ k d h. late (suc k) d (omega (arith, h))) in
    let on : ℕ → Planned = λ x. record { tick = x; up = q.up } in
    ap (λ x. on x ∷ map (on_board (retold turn c)) qs) same ∙ ap (λ (l : List Planned). on (lines_board c q.tick) ∷ l) rest

planned-alike : (gear : Gear) (c : Clocks) (turn : ℕ) (segments : List Segment) (base : ℕ) → AreTold c turn → StartLate (retold turn c).first.clock segments → planned_steps gear (retold turn c) segments base ≡ planned_steps gear c segments base
planned-alike gear c turn segments base one late = search (rules, board-alike, filtered-All, raw-late)

-- spaced steps are behind their base
abbrev AllLate : ℕ → List Planned → Type 0
AllLate from [] = Unit {0}
AllLate from (q ∷ qs) = (from ≤ q.tick) × AllLate from qs

spaced-late : (from last : ℕ) (qs : List Planned) → from ≤ last → AllLate from (spaced last qs)
spaced-late from last [] after = tt
spaced-late from last (q ∷ qs) after = (omega (arith, after), spaced-late from (max q.tick (last + 4)) qs (omega (arith, after)))

end-alike : (c : Clocks) (turn : ℕ) (qs : List Planned) → AreTold c turn → AllLate (retold turn c).first.clock qs → last_turn (retold turn c) qs ≡ last_turn c qs
end-alike c turn [] one late = refl
end-alike c turn (q ∷ []) one late = turn-retold c turn q.tick one late.0
end-alike c turn (q ∷ p ∷ qs) one late = end-alike c turn (p ∷ qs) one late.1

-- a stepper's plan, and the turn in which it ends, by one board's clocks
abbrev pub plan_of : Machine → Clocks → List Move → ℕ → ℕ → List Planned
plan_of m c moves turn s = planned_steps (stepper_at m s).gear c (map (segment_of m.corexy (stepper_at m s).drive c.first) (section_parts m moves turn)) (lines_tick c (turn * turn_ns))

stepper-alike : (m : Machine) (c : Clocks) (moves : List Move) (ready turn s : ℕ) → AreTold c ready → ready ≤ turn → plan_of m (retold ready c) moves turn s ≡ plan_of m c moves turn s
stepper-alike m c moves ready turn s one order =
    let ps = section_parts m moves turn in
    let drive = (stepper_at m s).drive in
    let gear = (stepper_at m s).gear in
    let late = late-moves m.cruise (ready * turn_ns) moves (greatest_speeds moves m.scv) (turn * turn_ns) (omega (arith, order)) in
    let segments = segments-retold m.corexy drive c ready ps one late in
    let base = lines-retold c ready (turn * turn_ns) one (omega (arith, order)) in
    ap (λ ss. planned_steps gear (retold ready c) ss (lines_tick (retold ready c) (turn * turn_ns))) segments
    ∙ (ap (λ b. planned_steps gear (retold ready c) (map (segment_of m.corexy drive c.first) ps) b) base
    ∙ planned-alike gear c ready (map (segment_of m.corexy drive c.first) ps) (lines_tick c (turn * turn_ns)) one (start-late m.corexy drive c.first (ready * turn_ns) ps late))

stepper-ends : (m : Machine) (c : Clocks) (moves : List Move) (ready turn s : ℕ) → AreTold c ready → ready ≤ turn → last_turn (retold ready c) (plan_of m (retold ready c) moves turn s) ≡ last_turn c (plan_of m c moves turn s)
stepper-ends m c moves ready turn s one order =
    let e = lines-retold c ready (turn * turn_ns) one (omega (arith, order)) in
    let low = clock-least (retold ready c).first 0 c.held (turn * turn_ns) in
    ap (last_turn (retold ready c)) (stepper-alike m c moves ready turn s one order) ∙ end-alike c ready (plan_of m c moves turn s) one (spaced-late (retold ready c).first.clock (lines_tick c (turn * turn_ns)) _ (omega (arith, e, low)))

-- the clocks of a stepper's board
pub board-of : (m : Machine) (s : ℕ) → IsValidMachine m → (stepper_at m s).board < length m.boards
board-of m s valid = search (rules, cases_lt, stepper_at, get_or_past)

pub one-of : (m : Machine) (clocks : List Clocks) (ready b : ℕ) → HaveLines m clocks ready → b < length m.boards → AreTold (clocks_at clocks b) ready
one-of m clocks ready b have inside = record { kept = have.kept b inside; behind = have.behind b inside; before = have.before b inside; soon = have.soon }

pub retold-at : (m : Machine) (clocks : List Clocks) (ready b : ℕ) → HaveLines m clocks ready → b < length m.boards → clocks_at (all_retold ready clocks) b ≡ retold ready (clocks_at clocks b)
retold-at m clocks ready b have inside = (let count = have.boards in get_or-map (retold ready) clocks b _ _ (omega (arith, count, inside)))

pub alike : (m : Machine) (clocks : List Clocks) (moves : List Move) (ready turn : ℕ) → IsValidMachine m → HaveLines m clocks ready → ready ≤ turn → PlanAlike m (all_retold ready clocks) clocks moves turn
alike m clocks moves ready turn valid have order =
    let at = λ (s : ℕ). retold-at m clocks ready (stepper_at m s).board have (board-of m s valid) in
    let one = λ (s : ℕ). one-of m clocks ready (stepper_at m s).board have (board-of m s valid) in
    let ends : (s : ℕ) → stepper_end m (all_retold ready clocks) moves turn s ≡ stepper_end m clocks moves turn s = λ s.
    ap (λ (c : Clocks). last_turn c (plan_of m c moves turn s)) (at s) ∙ stepper-ends m (clocks_at clocks (stepper_at m s).board) moves ready turn s (one s) order in
    record {
      freq = λ s. ap (λ (c : Clocks). c.first.freq) (at s);
      base = λ s. ap (λ (c : Clocks). lines_tick c (turn * turn_ns)) (at s) ∙ lines-retold (clocks_at clocks (stepper_at m s).board) ready (turn * turn_ns) (one s) (omega (arith, order));
      steps = λ s. ap (λ (c : Clocks). plan_of m c moves turn s) (at s) ∙ stepper-alike m (clocks_at clocks (stepper_at m s).board) moves ready turn s (one s) order;
      end = ap (λ (f : ℕ → ℕ). max (end_time m.cruise moves (greatest_speeds moves m.scv) (turn * turn_ns) / turn_ns) (latest (for_each_stepper m f))) (λ i s. ends s i);
    }
