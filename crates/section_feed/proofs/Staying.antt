-- A planned section stays planned where a board takes up a line behind all its steps.
use Rattle.std.proofs.Common.{◌≡◌, ℕ, zero, suc, ◌+◌, ◌*◌, ◌/◌, ◌<◌, ◌≤◌, Bool, false, max, List, [], ◌∷◌, ◌++◌, All, length, drop, map, get_or, arith, ap, sym, ◌∙◌, refl, subst, inl, inr}
use Rattle.std.specs.List.{range_with_len}
use Rattle.std.specs.Prelude.{◌==◌, if◌then◌else◌, nat_lt, slice_index}
use Rattle.std.proofs.lemmas.Bool.{cases_eq, cases_lt}
use Rattle.std.proofs.lemmas.Bool.Decides.{eqb_tells}
use Rattle.std.proofs.lemmas.List.{get_or-set_other, get_or-set_same}
use Rattle.std.proofs.lemmas.List.Elements.{All-cons, All-drop, All-head, All-nil, All-tail}
use Rattle.std.proofs.lemmas.List.FromFn.{length-map-range_with_len}
use Rattle.plan_types.specs.declared.machine.Machine.{Machine}
use Rattle.plan_types.specs.declared.plan.Gear.{Gear}
use Rattle.plan_types.specs.declared.plan.Line.{Line}
use Rattle.plan_types.specs.declared.plan.Move.{Move}
use Rattle.plan_types.specs.declared.plan.Planned.{Planned}
use Rattle.plan_types.specs.declared.plan.Pulse.{Pulse}
use Rattle.plan_types.specs.declared.plan.Segment.{Segment}
use Rattle.plan_types.specs.Board.{last_of, steps_of}
use Rattle.plan_types.specs.Clock.{tick, turn_ns}
use Rattle.plan_types.specs.Lines.{Clocks, lines_board, lines_tick, lines_turn}
use Rattle.plan_types.specs.Machines.{board_at, stepper_at}
use Rattle.plan_types.specs.Plan.{AreSpaced, Fits, cancel_reach, filtered, max_error, on_board, planned_steps, spaced, pulse_of}
use Rattle.plan_types.specs.Sections.{clocks_at, end_time, for_each_stepper, last_turn, latest, section_end, section_parts, section_plans, segment_of, stepper_end, stepper_plan}
use Rattle.plan_types.specs.Speeds.{greatest_speeds}
use Rattle.plan_types.specs.Steps.{raw_steps}
use Rattle.clock_line.specs.Kept.{AreKept, added}
use Rattle.clock_line.proofs.Boards.{board-added}
use Rattle.clock_line.proofs.Turns.{tick_over-mono}
use Rattle.step_feed.specs.Pacing.{ArePaced, HasRoom, Release, one_pending, pending, units_of}
use Rattle.step_feed.specs.Units.{StepUnit}
use Rattle.section_units.specs.Merged.{plan_at, section_of}
use Rattle.section_units.specs.Sent.{AreLongest, AreSent, step_at}
use Rattle.plan_types.specs.declared.plan.Window.{Window}
use Rattle.plan_types.specs.Packing.{open_windows}
use Rattle.section_units.specs.Plans.{AreSentOn, AreSentToOn, AreOnBoardsBy, board_plans, plans_on}
use Rattle.section_units.specs.Sections.{AreBegunBy, AreChained, BoardSection, IsUnit, IsWholeBy, dir_after, of_stepper, section_steps, steps_said, ticks_meant}
use Rattle.section_stream.proofs.Adding.{added-before, added-least, board-from, turn-added}
use Rattle.section_stream.proofs.Later.{sent-all}
use Rattle.section_feed.specs.Boards.{IsLasting, MayTake}
use Rattle.section_feed.specs.Lined.{ArePlannedBefore, line_at}
use Rattle.section_feed.proofs.Ends.{has-number, plan-is}
use Rattle.section_feed.proofs.Lasts.{kept-lasting}
use Rattle.section_feed.proofs.Opening.{by-place}

-- steps before the turn from which on the line holds are planned as before
spaced-same : (clocks : Clocks) (turn : ℕ) (line : Line) (last : ℕ) (kept : List Planned) → AreKept clocks → All (λ (q : Planned). q.tick < lines_tick clocks (turn * turn_ns)) (spaced last (map (on_board clocks) kept)) → spaced last (map (on_board (added clocks (turn * turn_ns) line)) kept) ≡ spaced last (map (on_board clocks) kept)
spaced-same clocks turn line last [] ok h = refl
spaced-same clocks turn line last (x ∷ xs) ok h =
    let from = turn * turn_ns in
    let t = max (lines_board clocks x.tick) (last + 4) in
    let one : Planned = record { tick = t; up = x.up } in
    let rest = spaced t (map (on_board clocks) xs) in
    let P : Planned → Type 0 = λ q. q.tick < lines_tick clocks (turn * turn_ns) in
    let first : t < lines_tick clocks from = All-head P one rest h in
    let before : x.tick < tick clocks.first from = elim (cases_lt x.tick (tick clocks.first from)) as (λ _. x.tick < tick clocks.first from) [ inl less ↦ less | inr over ↦ absurd (let u = board-from clocks from x.tick ok over in omega (arith, first, u)) ] in
    let e = board-added clocks from line x.tick before in
    ap (λ n. record { tick = max n (last + 4); up = x.up } ∷ spaced (max n (last + 4)) (map (on_board (added clocks from line)) xs)) e ∙ ap (λ ks. one ∷ ks) (spaced-same clocks turn line t xs ok (All-tail P one rest h))

plan-same : (gear : Gear) (clocks : Clocks) (turn : ℕ) (line : Line) (segments : List Segment) (base : ℕ) → AreKept clocks → All (λ (q : Planned). q.tick < lines_tick clocks (turn * turn_ns)) (planned_steps gear clocks segments base) → planned_steps gear (added clocks (turn * turn_ns) line) segments base ≡ planned_steps gear clocks segments base
plan-same gear clocks turn line segments base ok h = spaced-same clocks turn line base (filtered (cancel_reach clocks.first.freq) (raw_steps gear clocks.first.freq segments)) ok h

last-same : (clocks : Clocks) (turn : ℕ) (line : Line) (steps : List Planned) → AreKept clocks → MayTake clocks turn line → All (λ (q : Planned). q.tick < lines_tick clocks (turn * turn_ns)) steps → last_turn (added clocks (turn * turn_ns) line) steps ≡ last_turn clocks steps
last-same clocks turn line [] ok may h = refl
last-same clocks turn line (s ∷ []) ok may h = turn-added clocks (turn * turn_ns) line turn s.tick ok may.after may.fit (omega arith) (h 0 s (omega arith))
last-same clocks turn line (s ∷ t ∷ steps) ok may h = last-same clocks turn line (t ∷ steps) ok may (All-tail (λ (q : Planned). q.tick < lines_tick clocks (turn * turn_ns)) s (t ∷ steps) h)

-- the plan of one stepper by the lines of its board
unfoldable pub plan-by : Machine → List Move → ℕ → ℕ → Clocks → List Planned
plan-by m moves start s c = planned_steps (stepper_at m s).gear c (map (segment_of m.corexy (stepper_at m s).drive c.first) (section_parts m moves start)) (lines_tick c (start * turn_ns))

by-same : (m : Machine) (moves : List Move) (start s : ℕ) (clocks : Clocks) (turn : ℕ) (line : Line) → start < turn → AreKept clocks → All (λ (q : Planned). q.tick < lines_tick clocks (turn * turn_ns)) (plan-by m moves start s clocks) → plan-by m moves start s (added clocks (turn * turn_ns) line) ≡ plan-by m moves start s clocks
unfolding plan-by
by-same m moves start s clocks turn line before ok h =
    let gear = (stepper_at m s).gear in
    let segments = map (segment_of m.corexy (stepper_at m s).drive clocks.first) (section_parts m moves start) in
    let e = added-before clocks (turn * turn_ns) line (start * turn_ns) (omega arith) in
    ap (planned_steps gear (added clocks (turn * turn_ns) line) segments) e ∙ plan-same gear clocks turn line segments (lines_tick clocks (start * turn_ns)) ok h

-- the lines of the boards
pub here-line : (clocks : List Clocks) (b turn : ℕ) (line : Line) → b < length clocks → clocks_at (line_at clocks b turn line) b ≡ added (clocks_at clocks b) (turn * turn_ns) line
here-line clocks b turn line inside = get_or-set_same clocks b (added (clocks_at clocks b) (turn * turn_ns) line) _ inside

pub other-line : (clocks : List Clocks) (b k turn : ℕ) (line : Line) → (k ≡ b → ⊥) → clocks_at (line_at clocks b turn line) k ≡ clocks_at clocks k
other-line clocks b k turn line other = get_or-set_other clocks b k (added (clocks_at clocks b) (turn * turn_ns) line) _ other

-- before the turn from which on the line holds their ticks stay
pub tick-line : (clocks : List Clocks) (b k turn time : ℕ) (line : Line) → b < length clocks → time < turn * turn_ns → lines_tick (clocks_at (line_at clocks b turn line) k) time ≡ lines_tick (clocks_at clocks k) time
tick-line clocks b k turn time line inside before =
    let new = line_at clocks b turn line in
    elim (cases_eq k b) as (λ _. lines_tick (clocks_at new k) time ≡ lines_tick (clocks_at clocks k) time) [
      | inl same ↦ ap (λ n. lines_tick (clocks_at new n) time) same ∙ ap (λ (c : Clocks). lines_tick c time) (here-line clocks b turn line inside) ∙ added-before (clocks_at clocks b) (turn * turn_ns) line time before ∙ ap (λ n. lines_tick (clocks_at clocks n) time) (sym same)
      | inr other ↦ ap (λ (c : Clocks). lines_tick c time) (other-line clocks b k turn line other)
    ]

stepper-same : (m : Machine) (clocks : List Clocks) (moves : List Move) (start b turn s : ℕ) (line : Line) → b < length clocks → start < turn → AreKept (clocks_at clocks b) → s < length m.steppers → ArePlannedBefore m clocks moves start b turn → stepper_plan m (line_at clocks b turn line) moves start s ≡ stepper_plan m clocks moves start s
unfolding plan-by
stepper-same m clocks moves start b turn s line inside before ok there all =
    let board = (stepper_at m s).board in
    let own = clocks_at clocks b in
    elim (cases_eq board b) as (λ _. stepper_plan m (line_at clocks b turn line) moves start s ≡ stepper_plan m clocks moves start s) [
      | inl same ↦ (
          let one : stepper_plan m (line_at clocks b turn line) moves start s ≡ plan-by m moves start s (added own (turn * turn_ns) line) = ap (λ n. plan-by m moves start s (clocks_at (line_at clocks b turn line) n)) same ∙ ap (plan-by m moves start s) (here-line clocks b turn line inside) in
          let two : plan-by m moves start s own ≡ stepper_plan m clocks moves start s = ap (λ n. plan-by m moves start s (clocks_at clocks n)) (sym same) in
          one ∙ by-same m moves start s own turn line before ok (subst (All (λ (q : Planned). q.tick < lines_tick own (turn * turn_ns))) (sym two) (all s there same)) ∙ two)
      | inr other ↦ ap (plan-by m moves start s) (other-line clocks b board turn line other)
    ]

stepper-end-same : (m : Machine) (clocks : List Clocks) (moves : List Move) (start b turn s : ℕ) (line : Line) → b < length clocks → start < turn → AreKept (clocks_at clocks b) → MayTake (clocks_at clocks b) turn line → s < length m.steppers → ArePlannedBefore m clocks moves start b turn → stepper_end m (line_at clocks b turn line) moves start s ≡ stepper_end m clocks moves start s
stepper-end-same m clocks moves start b turn s line inside before ok may there all =
    let board = (stepper_at m s).board in
    let own = clocks_at clocks b in
    let plan = stepper_plan m clocks moves start s in
    let now = clocks_at (line_at clocks b turn line) board in
    let one : stepper_end m (line_at clocks b turn line) moves start s ≡ last_turn now plan = ap (last_turn now) (stepper-same m clocks moves start b turn s line inside before ok there all) in
    elim (cases_eq board b) as (λ _. stepper_end m (line_at clocks b turn line) moves start s ≡ stepper_end m clocks moves start s) [
      | inl same ↦ one ∙ ap (λ n. last_turn (clocks_at (line_at clocks b turn line) n) plan) same ∙ ap (λ (c : Clocks). last_turn c plan) (here-line clocks b turn line inside) ∙ last-same own turn line plan ok may (all s there same) ∙ ap (λ n. last_turn (clocks_at clocks n) plan) (sym same)
      | inr other ↦ one ∙ ap (λ (c : Clocks). last_turn c plan) (other-line clocks b board turn line other)
    ]

pub map-on : {A : Type 0} (f g : ℕ → A) (a n : ℕ) → ((i : ℕ) → a ≤ i → i < a + n → f i ≡ g i) → map f (range_with_len a n) ≡ map g (range_with_len a n)
map-on f g a zero same = refl
map-on f g a (suc n) same = ap (λ x. x ∷ map f (range_with_len (a + 1) n)) (same a (omega arith) (omega arith)) ∙ ap (λ xs. g a ∷ xs) (map-on f g (a + 1) n (λ i low high. same i (omega (arith, low)) (omega (arith, high))))

-- the turn of the last planned step stays
pub last-stays : (m : Machine) (clocks : List Clocks) (moves : List Move) (start b turn : ℕ) (line : Line) → b < length clocks → start < turn → IsLasting (clocks_at clocks b) → MayTake (clocks_at clocks b) turn line → ArePlannedBefore m clocks moves start b turn
    → latest (for_each_stepper m (stepper_end m (line_at clocks b turn line) moves start)) ≡ latest (for_each_stepper m (stepper_end m clocks moves start))
last-stays m clocks moves start b turn line inside before lasting may all =
    let ok = kept-lasting (clocks_at clocks b) lasting in
    ap latest (map-on (stepper_end m (line_at clocks b turn line) moves start) (stepper_end m clocks moves start) 0 (length m.steppers) (λ i low high. stepper-end-same m clocks moves start b turn i line inside before ok may (omega (arith, high)) all))

pub end-stays : (m : Machine) (clocks : List Clocks) (moves : List Move) (start b turn : ℕ) (line : Line) → b < length clocks → start < turn → IsLasting (clocks_at clocks b) → MayTake (clocks_at clocks b) turn line → ArePlannedBefore m clocks moves start b turn → section_end m (line_at clocks b turn line) moves start ≡ section_end m clocks moves start
end-stays m clocks moves start b turn line inside before lasting may all =
    ap (max (end_time m.cruise moves (greatest_speeds moves m.scv) (start * turn_ns) / turn_ns)) (last-stays m clocks moves start b turn line inside before lasting may all)

plans-same : (m : Machine) (clocks : List Clocks) (moves : List Move) (start b turn k : ℕ) (line : Line) → b < length clocks → start < turn → AreKept (clocks_at clocks b) → ArePlannedBefore m clocks moves start b turn → plans_on m (line_at clocks b turn line) moves start k ≡ plans_on m clocks moves start k
plans-same m clocks moves start b turn k line inside before ok all =
    ap (board_plans k m.steppers) (map-on (stepper_plan m (line_at clocks b turn line) moves start) (stepper_plan m clocks moves start) 0 (length m.steppers) (λ i low high. stepper-same m clocks moves start b turn i line inside before ok (omega (arith, high)) all))

-- units whose ticks are before a tick
abbrev pub IsEarly : ℕ → StepUnit → Type 0
IsEarly bound u = (u.first < bound) × (u.last < bound)

pub fits-before : (freq b bound : ℕ) (ps : List Pulse) (plan : List Planned) → Fits freq b ps plan → All (λ (q : Planned). q.tick < bound) plan → All (λ (p : Pulse). p.tick < bound) ps
fits-before freq b bound [] plan fits h = All-nil (λ (p : Pulse). p.tick < bound)
fits-before freq b bound (p ∷ ps) [] fits h = absurd fits
fits-before freq b bound (p ∷ ps) (s ∷ plan) fits h =
    let P : Planned → Type 0 = λ q. q.tick < bound in
    let own : s.tick < bound = All-head P s plan h in
    let le = fits.0.not_late in
    All-cons (λ (p : Pulse). p.tick < bound) p ps (omega (arith, own, le)) (fits-before freq s.tick bound ps plan fits.1 (All-tail P s plan h))

all-front : {A : Type 0} (P : A → Type 0) (xs ys : List A) → All P (xs ++ ys) → All P xs
all-front P [] ys h = All-nil P
all-front P (x ∷ xs) ys h = All-cons P x xs (All-head P x (xs ++ ys) h) (all-front P xs ys (All-tail P x (xs ++ ys) h))

all-back : {A : Type 0} (P : A → Type 0) (xs ys : List A) → All P (xs ++ ys) → All P ys
all-back P [] ys h = h
all-back P (x ∷ xs) ys h = all-back P xs ys (All-tail P x (xs ++ ys) h)

ticks-of : (bound oid : ℕ) (d : Bool) (ts : List ℕ) → All (λ (p : Pulse). p.tick < bound) (map (pulse_of oid) (steps_of d ts)) → All (λ (t : ℕ). t < bound) ts
ticks-of bound oid d [] h = All-nil (λ (t : ℕ). t < bound)
ticks-of bound oid d (t ∷ ts) h =
    let P : Pulse → Type 0 = λ p. p.tick < bound in
    All-cons (λ (t : ℕ). t < bound) t ts (All-head P (record { tick = t; stepper = oid; up = d }) (map (pulse_of oid) (steps_of d ts)) h) (ticks-of bound oid d ts (All-tail P (record { tick = t; stepper = oid; up = d }) (map (pulse_of oid) (steps_of d ts)) h))

last-below : (bound x : ℕ) (ts : List ℕ) → x < bound → All (λ (t : ℕ). t < bound) ts → last_of x ts < bound
last-below bound x [] h all = h
last-below bound x (t ∷ ts) h all = let P : ℕ → Type 0 = λ y. y < bound in last-below bound t ts (All-head P t ts all) (All-tail P t ts all)

unit-early : (clocks : Clocks) (b bound : ℕ) (u : StepUnit) (ts : List ℕ) → ts ≡ ticks_meant u → IsUnit clocks b u → All (λ (t : ℕ). t < bound) ts → IsEarly bound u
unit-early clocks b bound u [] is unit all = absurd (let n = unit.expands.ticks_of.number in let some = unit.expands.ticks_of.some in let e = ap (λ (ys : List ℕ). length ys) is in omega (arith, n, some, e))
unit-early clocks b bound u (x ∷ ts) is unit all =
    let P : ℕ → Type 0 = λ y. y < bound in
    let first : u.first ≡ x = unit.first ∙ ap (λ (ys : List ℕ). slice_index ys 0) (sym is) in
    let last : u.last ≡ last_of x ts = unit.last ∙ ap (last_of 0) (sym is) in
    let own : x < bound = All-head P x ts all in
    let end = last-below bound x ts own (All-tail P x ts all) in
    (omega (arith, first, own), omega (arith, last, end))

chain-early : (clocks : Clocks) (b bound oid : ℕ) (up : Bool) (us : List StepUnit) → AreChained clocks b us → All (λ (p : Pulse). p.tick < bound) (steps_said oid up us) → All (IsEarly bound) us
chain-early clocks b bound oid up [] chain h = All-nil (IsEarly bound)
chain-early clocks b bound oid up (u ∷ us) chain h =
    let d = dir_after up u.up in
    let P : Pulse → Type 0 = λ p. p.tick < bound in
    let own = map (pulse_of oid) (steps_of d (ticks_meant u)) in
    All-cons (IsEarly bound) u us (unit-early clocks b bound u (ticks_meant u) refl chain.1 (ticks-of bound oid d (ticks_meant u) (all-front P own (steps_said oid d us) h))) (chain-early clocks u.last bound oid d us chain.2 (all-back P own (steps_said oid d us) h))

pub begun-early : (homing : Bool) (clocks : Clocks) (b bound oid : ℕ) (us : List StepUnit) → AreBegunBy homing clocks b us → All (λ (p : Pulse). p.tick < bound) (steps_said oid false us) → All (IsEarly bound) us
begun-early homing clocks b bound oid [] begun h = All-nil (IsEarly bound)
begun-early homing clocks b bound oid (u ∷ us) begun h =
    let d = dir_after false u.up in
    let P : Pulse → Type 0 = λ p. p.tick < bound in
    let own = map (pulse_of oid) (steps_of d (ticks_meant u)) in
    All-cons (IsEarly bound) u us (unit-early clocks b bound u (ticks_meant u) refl begun.2 (ticks-of bound oid d (ticks_meant u) (all-front P own (steps_said oid d us) h))) (chain-early clocks u.last bound oid d us begun.3 (all-back P own (steps_said oid d us) h))

-- what holds of the units of each stepper, holds of all
pub of-each : (P : StepUnit → Type 0) (us : List StepUnit) → ((oid : ℕ) → All P (of_stepper oid us)) → All P us
of-each P [] each = All-nil P
of-each P (u ∷ us) each =
    let own : P u = elim (eqb_tells u.stepper u.stepper) as (λ _. P u) [ inl p ↦ All-head P u (of_stepper u.stepper us) (rw p.0 at (each u.stepper)) | inr p ↦ absurd (p.1 refl) ] in
    All-cons P u us own (of-each P us (λ oid. elim (eqb_tells u.stepper oid) as (λ _. All P (of_stepper oid us)) [ inl p ↦ All-tail P u (of_stepper oid us) (rw p.0 at (each oid)) | inr p ↦ rw p.0 at (each oid) ]))

-- units by lines that have the same turns up to a tick
abbrev pub AreAlike : Clocks → Clocks → ℕ → Type 0
AreAlike clocks new bound = (t : ℕ) → t < bound → lines_turn new t ≡ lines_turn clocks t

unit-alike : (clocks new : Clocks) (b bound : ℕ) (u : StepUnit) → AreAlike clocks new bound → IsEarly bound u → IsUnit clocks b u → IsUnit new b u
unit-alike clocks new b bound u alike early unit = record { expands = unit.expands; rise = unit.rise; small = unit.small; first = unit.first; last = unit.last; due = unit.due ∙ sym (alike u.first early.0) }

chain-alike : (clocks new : Clocks) (b bound : ℕ) (us : List StepUnit) → AreAlike clocks new bound → All (IsEarly bound) us → AreChained clocks b us → AreChained new b us
chain-alike clocks new b bound [] alike early chain = tt
chain-alike clocks new b bound (u ∷ us) alike early chain = (chain.0, unit-alike clocks new b bound u alike (All-head (IsEarly bound) u us early) chain.1, chain-alike clocks new u.last bound us alike (All-tail (IsEarly bound) u us early) chain.2)

pub begun-alike : (homing : Bool) (clocks new : Clocks) (b bound : ℕ) (us : List StepUnit) → AreAlike clocks new bound → All (IsEarly bound) us → AreBegunBy homing clocks b us → AreBegunBy homing new b us
begun-alike homing clocks new b bound [] alike early begun = tt
begun-alike homing clocks new b bound (u ∷ us) alike early begun = (begun.0, begun.1, unit-alike clocks new b bound u alike (All-head (IsEarly bound) u us early) begun.2, chain-alike clocks new u.last bound us alike (All-tail (IsEarly bound) u us early) begun.3)

-- and their releases
abbrev pub IsReleaseEarly : ℕ → Release → Type 0
IsReleaseEarly bound r = IsEarly bound r.unit

pub releases-early : (bound : ℕ) (rs : List Release) → All (IsEarly bound) (units_of rs) → All (IsReleaseEarly bound) rs
releases-early bound [] h = All-nil (IsReleaseEarly bound)
releases-early bound (r ∷ rs) h = All-cons (IsReleaseEarly bound) r rs (All-head (IsEarly bound) r.unit (units_of rs) h) (releases-early bound rs (All-tail (IsEarly bound) r.unit (units_of rs) h))

pending-alike : (clocks new : Clocks) (bound s k : ℕ) (rs : List Release) → AreAlike clocks new bound → All (IsReleaseEarly bound) rs → pending new s k rs ≡ pending clocks s k rs
pending-alike clocks new bound s k [] alike early = refl
pending-alike clocks new bound s k (r ∷ rs) alike early =
    let e = alike r.unit.last (All-head (IsReleaseEarly bound) r rs early).1 in
    ap (λ n. (if r.unit.stepper == s then (if nat_lt k (n + 5) then 1 else 0) else 0) + pending new s k rs) e ∙ ap (λ n. (if r.unit.stepper == s then one_pending clocks k r.unit.last else 0) + n) (pending-alike clocks new bound s k rs alike (All-tail (IsReleaseEarly bound) r rs early))

room-from : (one two : Clocks) (slots : ℕ) (before : List Release) (u : StepUnit) (k : ℕ) → pending two u.stepper k before ≡ pending one u.stepper k before → HasRoom one slots before u k → HasRoom two slots before u k
room-from one two slots before u k same room = record { due = room.due; bytes = room.bytes; steps = subst (λ n. n < slots) (sym same) room.steps }

pub paced-alike : (clocks new : Clocks) (bound slots from : ℕ) (before rs : List Release) → AreAlike clocks new bound → All (IsReleaseEarly bound) before → All (IsReleaseEarly bound) rs → ArePaced clocks slots from before rs → ArePaced new slots from before rs
paced-alike clocks new bound slots from before [] alike was early paced = tt
paced-alike clocks new bound slots from before (r ∷ rs) alike was early paced =
    let same : (k : ℕ) → pending new r.unit.stepper k before ≡ pending clocks r.unit.stepper k before = λ k. pending-alike clocks new bound r.unit.stepper k before alike was in
    let own = All-head (IsReleaseEarly bound) r rs early in (
      record {
        after = paced.0.after;
        room = room-from clocks new slots before r.unit r.turn (same r.turn) paced.0.room;
        first = λ k low room. paced.0.first k low (room-from new clocks slots before r.unit k (sym (same k)) room);
      },
      paced-alike clocks new bound slots r.turn (r ∷ before) rs alike (All-cons (IsReleaseEarly bound) r before own was) (All-tail (IsReleaseEarly bound) r rs early) paced.1,
    )

-- the turns are the same
pub turns-alike : (clocks : Clocks) (turn : ℕ) (line : Line) → AreKept clocks → MayTake clocks turn line → AreAlike clocks (added clocks (turn * turn_ns) line) (lines_tick clocks (turn * turn_ns))
turns-alike clocks turn line ok may = λ t lt. turn-added clocks (turn * turn_ns) line turn t ok may.after may.fit (omega arith) lt

-- the steps are within the section as before
pub within-stays : (clocks : Clocks) (turn end : ℕ) (line : Line) (plan : List Planned) → AreKept clocks → MayTake clocks turn line → All (λ (q : Planned). q.tick < lines_tick clocks (turn * turn_ns)) plan → All (λ (q : Planned). q.tick < lines_tick clocks ((end + 1) * turn_ns)) plan → All (λ (q : Planned). q.tick < lines_tick (added clocks (turn * turn_ns) line) ((end + 1) * turn_ns)) plan
within-stays clocks turn end line plan ok may before within = λ k d l. (
    let from = turn * turn_ns in
    let new = added clocks from line in
    let up = added-least clocks from line from ok may.after (omega arith) in
    let p = before k d l in
    let w = within k d l in
    elim (cases_lt end turn) as (λ _. (get_or plan k d).tick < lines_tick new ((end + 1) * turn_ns)) [
      | inl less ↦ (let m = added-least clocks from line ((end + 1) * turn_ns) ok may.after (omega (arith, less)) in omega (arith, w, m))
      | inr over ↦ (let m = tick_over-mono new.first 0 new.held from ((end + 1) * turn_ns) (omega (arith, over)) in omega (arith, p, up, m))
    ])

-- a section on the board
section-stays : (homing : Bool) (clocks : Clocks) (turn : ℕ) (line : Line) (freq slots : ℕ) (s : BoardSection) → s.start < turn → AreKept clocks → MayTake clocks turn line → ((oid : ℕ) → All (λ (q : Planned). q.tick < lines_tick clocks (turn * turn_ns)) (s.plan oid)) → IsWholeBy homing clocks freq slots s → IsWholeBy homing (added clocks (turn * turn_ns) line) freq slots s
section-stays homing clocks turn line freq slots s before ok may plan i =
    let from = turn * turn_ns in
    let bound = lines_tick clocks from in
    let new = added clocks from line in
    let e : lines_tick new (s.start * turn_ns) ≡ lines_tick clocks (s.start * turn_ns) = added-before clocks from line (s.start * turn_ns) (omega arith) in
    let alike : AreAlike clocks new bound = turns-alike clocks turn line ok may in
    let each : (oid : ℕ) → All (IsEarly bound) (of_stepper oid (units_of s.releases)) = λ oid. begun-early homing clocks (lines_tick clocks (s.start * turn_ns)) bound oid (of_stepper oid (units_of s.releases)) (i.begun oid) (fits-before freq (lines_tick clocks (s.start * turn_ns)) bound (section_steps oid s) (s.plan oid) (i.fits oid) (plan oid)) in
    let all = releases-early bound s.releases (of-each (IsEarly bound) (units_of s.releases) each) in
    record {
      spaced = λ oid. subst (λ t. AreSpaced t (s.plan oid)) (sym e) (i.spaced oid);
      within = λ oid. within-stays clocks turn s.end line (s.plan oid) ok may (plan oid) (i.within oid);
      begun = λ oid. subst (λ t. AreBegunBy homing new t (of_stepper oid (units_of s.releases))) (sym e) (begun-alike homing clocks new (lines_tick clocks (s.start * turn_ns)) bound (of_stepper oid (units_of s.releases)) alike (each oid) (i.begun oid));
      fits = λ oid. subst (λ t. Fits freq t (section_steps oid s) (s.plan oid)) (sym e) (i.fits oid);
      whole = i.whole;
      from = i.from;
      exact = i.exact;
      paced = paced-alike clocks new bound slots i.from [] s.releases alike (All-nil (IsReleaseEarly bound)) all i.paced;
    }

-- the plans of the board's steppers are before the turn
pub plan-before : (m : Machine) (clocks : List Clocks) (moves : List Move) (start b turn oid : ℕ) → ArePlannedBefore m clocks moves start b turn → All (λ (q : Planned). q.tick < lines_tick (clocks_at clocks b) (turn * turn_ns)) (plan_at (plans_on m clocks moves start b) oid)
plan-before m clocks moves start b turn oid all =
    let bound = lines_tick (clocks_at clocks b) (turn * turn_ns) in
    let P : List Planned → Type 0 = λ steps. All (λ (q : Planned). q.tick < bound) steps in
    by-place m clocks moves start b oid P (λ h. All-nil (λ (q : Planned). q.tick < bound)) (λ h. (
    let n = has-number b m.steppers (section_plans m clocks moves start) oid (length-map-range_with_len (stepper_plan m clocks moves start) 0 (length m.steppers)) h in
    let is = plan-is m clocks moves start b oid n.number false n.same n.board in
    subst P (sym is) (sent-all (λ (t : ℕ). t < bound) (stepper_at m n.number).inverted (stepper_plan m clocks moves start n.number) (all n.number n.inside n.board))))

-- what holds of a board by its lines, its section's end and plans, holds by the lines with one more, where it does on the board that took it up
pub board-by : (m : Machine) (clocks : List Clocks) (moves : List Move) (start b turn k : ℕ) (line : Line) (By : Clocks → ℕ → List (List Planned) → Type 0) → b < length clocks → start < turn → IsLasting (clocks_at clocks b) → MayTake (clocks_at clocks b) turn line → ArePlannedBefore m clocks moves start b turn
    → ((end : ℕ) (plans : List (List Planned)) → ((oid : ℕ) → All (λ (q : Planned). q.tick < lines_tick (clocks_at clocks b) (turn * turn_ns)) (plan_at plans oid)) → By (clocks_at clocks b) end plans → By (added (clocks_at clocks b) (turn * turn_ns) line) end plans)
    → By (clocks_at clocks k) (section_end m clocks moves start) (plans_on m clocks moves start k) → By (clocks_at (line_at clocks b turn line) k) (section_end m (line_at clocks b turn line) moves start) (plans_on m (line_at clocks b turn line) moves start k)
board-by m clocks moves start b turn k line By inside before lasting may all stays is =
    let own = clocks_at clocks b in
    let now = line_at clocks b turn line in
    let end = section_end m clocks moves start in
    let plans = plans_on m clocks moves start k in
    let Early : List (List Planned) → Type 0 = λ ps. (oid : ℕ) → All (λ (q : Planned). q.tick < lines_tick own (turn * turn_ns)) (plan_at ps oid) in
    let here : By (clocks_at now k) end plans = elim (cases_eq k b) as (λ _. By (clocks_at now k) end plans) [
      | inl same ↦
          let early : Early plans = subst (λ n. Early (plans_on m clocks moves start n)) (sym same) (λ oid. plan-before m clocks moves start b turn oid all) in
          let at : clocks_at now k ≡ added own (turn * turn_ns) line = ap (clocks_at now) same ∙ here-line clocks b turn line inside in
          subst (λ (c : Clocks). By c end plans) (sym at) (stays end plans early (subst (λ n. By (clocks_at clocks n) end plans) same is))
      | inr other ↦ subst (λ (c : Clocks). By c end plans) (sym (other-line clocks b k turn line other)) is
    ] in
    subst (λ n. By (clocks_at now k) n (plans_on m now moves start k)) (sym (end-stays m clocks moves start b turn line inside before lasting may all)) (subst (By (clocks_at now k) end) (sym (plans-same m clocks moves start b turn k line inside before (kept-lasting own lasting) all)) here)

pub boards-stay : (homing : Bool) (m : Machine) (clocks : List Clocks) (moves : List Move) (start b turn : ℕ) (line : Line) (boards : List (List Release)) → b < length clocks → start < turn → IsLasting (clocks_at clocks b) → MayTake (clocks_at clocks b) turn line → ArePlannedBefore m clocks moves start b turn → AreOnBoardsBy homing m clocks moves start boards → AreOnBoardsBy homing m (line_at clocks b turn line) moves start boards
boards-stay homing m clocks moves start b turn line boards inside before lasting may all are = record {
  count = are.count;
  each = λ k l.
      let rs = get_or boards k [] in
      let freq = (board_at m k).freq in
      let slots = (board_at m k).slots in
      board-by m clocks moves start b turn k line (λ c end plans. IsWholeBy homing c freq slots (section_of start end plans rs)) inside before lasting may all
      (λ end plans early is. section-stays homing (clocks_at clocks b) turn line freq slots (section_of start end plans rs) before (kept-lasting (clocks_at clocks b) lasting) may early is) (are.each k l);
}

-- what is sent of it
longest-alike : (clocks new : Clocks) (bound behind : ℕ) (windows : List Window) (plan : List Planned) (us : List StepUnit) → AreAlike clocks new bound → All (λ (q : Planned). q.tick < bound) plan → AreLongest clocks behind windows plan us → AreLongest new behind windows plan us
longest-alike clocks new bound behind windows plan [] alike all h = tt
longest-alike clocks new bound behind windows plan (u ∷ us) alike all h =
    let none : Planned = record { tick = 0; up = false } in (
      λ interval other add compared ends. h.0 interval other add compared (
          let more = ends.more in
          let same = ends.same in
          let one = alike (step_at plan other).tick (all other none more) in
          let two = alike (step_at plan 0).tick (all 0 none (omega (arith, more))) in
          record { more = more; same = omega (arith, one, two, same) }),
      longest-alike clocks new bound u.last (drop u.triple.count windows) (drop u.triple.count plan) us alike (All-drop (λ (q : Planned). q.tick < bound) u.triple.count plan all) h.1,
    )

-- so it is of a section on the board
pub sent-alike : (clocks : Clocks) (turn : ℕ) (line : Line) (freq : ℕ) (s : BoardSection) → s.start < turn → AreKept clocks → MayTake clocks turn line → ((oid : ℕ) → All (λ (q : Planned). q.tick < lines_tick clocks (turn * turn_ns)) (s.plan oid)) → AreSent clocks freq s → AreSent (added clocks (turn * turn_ns) line) freq s
sent-alike clocks turn line freq s before ok may plan h =
    let from = turn * turn_ns in
    let bound = lines_tick clocks from in
    let new = added clocks from line in
    let base = lines_tick clocks (s.start * turn_ns) in
    let alike = turns-alike clocks turn line ok may in
    let e : lines_tick new (s.start * turn_ns) ≡ base = added-before clocks from line (s.start * turn_ns) (omega arith) in
    record {
      in_order = h.in_order;
      longest = λ oid.
          let us = of_stepper oid (units_of s.releases) in
          subst (λ t. AreLongest new t (open_windows (max_error freq) t (s.plan oid)) (s.plan oid) us) (sym e) (longest-alike clocks new bound base (open_windows (max_error freq) base (s.plan oid)) (s.plan oid) us alike (plan oid) (h.longest oid));
    }

pub all-sent-stays : (m : Machine) (clocks : List Clocks) (moves : List Move) (start b turn k : ℕ) (line : Line) (rs : List Release) → b < length clocks → start < turn → IsLasting (clocks_at clocks b) → MayTake (clocks_at clocks b) turn line → ArePlannedBefore m clocks moves start b turn → AreSentOn m clocks moves start k rs → AreSentOn m (line_at clocks b turn line) moves start k rs
all-sent-stays m clocks moves start b turn k line rs inside before lasting may all is =
    let freq = (board_at m k).freq in
    let own = clocks_at clocks b in
    board-by m clocks moves start b turn k line (λ c end plans. AreSent c freq (section_of start end plans rs)) inside before lasting may all
    (λ end plans early h. sent-alike own turn line freq (section_of start end plans rs) before (kept-lasting own lasting) may early h) is

pub sent-stays : (m : Machine) (clocks : List Clocks) (moves : List Move) (start b turn k next : ℕ) (line : Line) (rs : List Release) → b < length clocks → start < turn → IsLasting (clocks_at clocks b) → MayTake (clocks_at clocks b) turn line → ArePlannedBefore m clocks moves start b turn → AreSentToOn m clocks moves start k next rs → AreSentToOn m (line_at clocks b turn line) moves start k next rs
sent-stays m clocks moves start b turn k next line rs inside before lasting may all h =
    record { sent = h.sent; later = h.later; are = h.are; behind = h.behind; is = all-sent-stays m clocks moves start b turn k line h.sent inside before lasting may all h.is }
