-- What a stepper has not given is later.
use Rattle.std.proofs.Common.{◌≡◌, ℕ, zero, suc, ◌+◌, ◌*◌, ◌<◌, ◌≤◌, Bool, false, None, inl, inr, List, [], ◌∷◌, ◌++◌, All, length, map, drop, length-append, arith, refl, ap, sym, ◌∙◌, append_assoc, subst}
use Rattle.std.specs.Prelude.{slice_index}
use Rattle.std.proofs.lemmas.List.{append-nil}
use Rattle.std.proofs.lemmas.List.Elements.{All-append, All-cons, All-head, All-nil, All-tail}
use Rattle.plan_types.specs.Board.{TicksRise, last_of, steps_of}
use Rattle.plan_types.specs.Clock.{tick, turn_ns}
use Rattle.plan_types.specs.declared.plan.Planned.{Planned}
use Rattle.plan_types.specs.declared.plan.Pulse.{Pulse}
use Rattle.plan_types.specs.Lines.{Clocks, lines_tick, lines_turn}
use Rattle.plan_types.specs.declared.plan.Segment.{Segment}
use Rattle.plan_types.specs.Plan.{AreSpaced, Fits, max_error, planned_steps, pulse_of}
use Rattle.step_ticks.specs.Streaming.{left_steps, last_step_tick}
use Rattle.plan_types.specs.Sections.{TimedPart, last_turn}
use Rattle.clock_line.specs.Kept.{AreKept}
use Rattle.std.proofs.lemmas.Bool.{cases_lt}
use Rattle.clock_line.proofs.Turns.{tick_over-mono, turn-after, turn-mono}
use Rattle.msg_code.specs.declared.unit.Unit.{Unit as StepUnit}
use Rattle.section_units.specs.Packed.{ArePackedBy, dir_behind}
use Rattle.section_units.specs.Sections.{AreBegunBy, AreChained, IsUnit, dir_after, set_to, steps_said, ticks_meant}
use Rattle.section_units.specs.Units.{as_sent, sent, units_on}
use Rattle.section_units.proofs.Packing.{said_join}
use Rattle.section_stream.specs.declared.stepper.StepperStream.{StepperStream}
use Rattle.section_stream.specs.Fronts.{HasMore, HasStepsLeft, plan_of}
use Rattle.section_stream.specs.Packs.{held_of, is_inverted, waiting_of}
use Rattle.section_stream.specs.Pieces.{ArePieces, Piece, placed_in, steps_in}
use Rattle.section_stream.specs.Plans.{stream_lines, segments_for}
use Rattle.section_stream.specs.Steppers.{IsCaughtUp, IsStepperOf, StartFrom, stepper_clocks, kind_of, known_of, packed_to, units_of}
use Rattle.section_stream.proofs.Adding.{board-from}
use Rattle.section_stream.proofs.Making.{pieces-make, sent-append}
use Rattle.section_stream.proofs.Leaving.{behind-alike}
use Rattle.section_stream.proofs.Staying.{AreBehind, held-left, held-some, parts-front, steps-front, steps-left, steps-whole}
use Rattle.section_stream.proofs.Stretches.{last-after, spaced-above, spaced-sent, spaced-split}
use Rattle.step_ticks.proofs.Lists.{spaced-AreSpaced}
use Rattle.lookahead.proofs.Pushes.{drop-before}
use Rattle.section_units.proofs.Lateness.{turn_from}

-- ticks that rise are at least the first one
rise-above : (x : ℕ) (ts : List ℕ) → TicksRise (x ∷ ts) → All (λ t. x ≤ t) (x ∷ ts)
rise-above x [] rise = All-cons (λ (t : ℕ). x ≤ t) x [] (omega arith) (All-nil (λ (t : ℕ). x ≤ t))
rise-above x (t ∷ ts) rise =
    let up : x < t = rise 0 (omega arith) in
    let later = rise-above t ts (λ i h. (let e : suc i + 1 ≡ suc (i + 1) = omega arith in rw e at (rise (suc i) (omega arith)))) in
    All-cons (λ (t : ℕ). x ≤ t) x (t ∷ ts) (omega arith) (λ k d l. (let a = later k d l in omega arith))

-- a unit's ticks are in its turn or later
unit-later : (clocks : Clocks) (b low : ℕ) (u : StepUnit) (ts : List ℕ) → AreKept clocks → ts ≡ ticks_meant u → IsUnit clocks b u → low ≤ u.due → All (λ t. low ≤ lines_turn clocks t) ts
unit-later clocks b low u [] kept is unit late = All-nil (λ (t : ℕ). low ≤ lines_turn clocks t)
unit-later clocks b low u (x ∷ ts) kept is unit late =
    let rise : TicksRise (x ∷ ts) = subst (λ (ys : List ℕ). TicksRise ys) (sym is) unit.rise in
    let first : u.first ≡ x = unit.first ∙ ap (λ (ys : List ℕ). slice_index ys 0) (sym is) in
    let due : u.due ≡ lines_turn clocks x = unit.due ∙ ap (lines_turn clocks) first in
    let above = rise-above x ts rise in
    λ k d l. (let a = above k d l in let m = turn-mono clocks x _ kept a in omega (arith, m, due, late))

-- the steps of units
AreOf : Clocks → List StepUnit → Type 0
AreOf clocks [] = Unit {0}
AreOf clocks (u ∷ us) = ((b : ℕ) × IsUnit clocks b u) × AreOf clocks us

of-chain : (clocks : Clocks) (b : ℕ) (us : List StepUnit) → AreChained clocks b us → AreOf clocks us
unfolding AreOf
of-chain clocks b [] h = tt
of-chain clocks b (u ∷ us) h = ((b, h.1), of-chain clocks u.last us h.2)

of-begun : (homing : Bool) (clocks : Clocks) (b : ℕ) (us : List StepUnit) → AreBegunBy homing clocks b us → AreOf clocks us
unfolding AreOf
of-begun homing clocks b [] h = tt
of-begun homing clocks b (u ∷ us) h = ((b, h.2), of-chain clocks u.last us h.3)

of-behind : (clocks : Clocks) (us vs : List StepUnit) → AreOf clocks (us ++ vs) → AreOf clocks vs
unfolding AreOf
of-behind clocks [] vs h = h
of-behind clocks (u ∷ us) vs h = of-behind clocks us vs h.1

ticks-later : (P : ℕ → Type 0) (oid : ℕ) (d : Bool) (ts : List ℕ) → All P ts → All (λ (p : Pulse). P p.tick) (map (pulse_of oid) (steps_of d ts))
ticks-later P oid d [] h = All-nil (λ (p : Pulse). P p.tick)
ticks-later P oid d (t ∷ ts) h = All-cons (λ (p : Pulse). P p.tick) (record { tick = t; stepper = oid; up = d }) (map (pulse_of oid) (steps_of d ts)) (All-head P t ts h) (ticks-later P oid d ts (All-tail P t ts h))

said-later : (clocks : Clocks) (low oid : ℕ) (up : Bool) (us : List StepUnit) → AreKept clocks → AreOf clocks us → All (λ u. low ≤ u.due) us → All (λ (p : Pulse). low ≤ lines_turn clocks p.tick) (steps_said oid up us)
unfolding AreOf
said-later clocks low oid up [] kept units late = All-nil (λ (p : Pulse). low ≤ lines_turn clocks p.tick)
said-later clocks low oid up (u ∷ us) kept units late =
    let Q : StepUnit → Type 0 = λ v. low ≤ v.due in
    let P : ℕ → Type 0 = λ t. low ≤ lines_turn clocks t in
    let d = dir_after up u.up in
    let here = unit-later clocks units.0.0 low u (ticks_meant u) kept refl units.0.1 (All-head Q u us late) in
    All-append (λ (p : Pulse). P p.tick) (map (pulse_of oid) (steps_of d (ticks_meant u))) (steps_said oid d us) (ticks-later P oid d (ticks_meant u) here) (said-later clocks low oid d us kept units.1 (All-tail Q u us late))

-- units one behind the other are due in the turn of the first one or later
last-late : (x : ℕ) (d : ℕ) (ts : List ℕ) → All (λ t. x ≤ t) (x ∷ ts) → x ≤ last_of d (x ∷ ts)
last-late x d [] h = omega arith
last-late x d (t ∷ ts) h =
    let P : ℕ → Type 0 = λ y. x ≤ y in
    let here : x ≤ t = h 1 t (omega arith) in
    last-late-from x t ts here (All-tail P t ts (All-tail P x (t ∷ ts) h))
  where
    last-late-from : (x t : ℕ) (ts : List ℕ) → x ≤ t → All (λ y. x ≤ y) ts → x ≤ last_of t ts
    last-late-from x t [] h all = h
    last-late-from x t (y ∷ ts) h all = let P : ℕ → Type 0 = λ z. x ≤ z in last-late-from x y ts (All-head P y ts all) (All-tail P y ts all)

unit-ends : (clocks : Clocks) (b : ℕ) (u : StepUnit) (ts : List ℕ) → ts ≡ ticks_meant u → IsUnit clocks b u → (b < u.first) × (u.first ≤ u.last)
unit-ends clocks b u [] is unit = absurd (let n = unit.expands.ticks_of.number in let some = unit.expands.ticks_of.some in let e = ap (λ (ys : List ℕ). length ys) is in omega arith)
unit-ends clocks b u (x ∷ ts) is unit =
    let rise : TicksRise (x ∷ ts) = subst (λ (ys : List ℕ). TicksRise ys) (sym is) unit.rise in
    let first : u.first ≡ x = unit.first ∙ ap (λ (ys : List ℕ). slice_index ys 0) (sym is) in
    let last : u.last ≡ last_of 0 (x ∷ ts) = unit.last ∙ ap (last_of 0) (sym is) in
    let late = last-late x 0 ts (rise-above x ts rise) in
    let behind = unit.expands.behind in
    let start = unit.first in
    (omega arith, omega arith)

chain-dues : (clocks : Clocks) (b low : ℕ) (us : List StepUnit) → AreKept clocks → AreChained clocks b us → low ≤ lines_turn clocks b → All (λ u. low ≤ u.due) us
chain-dues clocks b low [] kept chain h = All-nil (λ (u : StepUnit). low ≤ u.due)
chain-dues clocks b low (u ∷ us) kept chain h =
    let ends = unit-ends clocks b u (ticks_meant u) refl chain.1 in
    let one = turn-mono clocks b u.first kept (let e = ends.0 in omega arith) in
    let two = turn-mono clocks b u.last kept (let e = ends.0 in let f = ends.1 in omega arith) in
    let due = chain.1.due in
    All-cons (λ (v : StepUnit). low ≤ v.due) u us (omega arith) (chain-dues clocks u.last low us kept chain.2 (omega arith))

first-dues : (clocks : Clocks) (b low : ℕ) (u : StepUnit) (us : List StepUnit) → AreKept clocks → IsUnit clocks b u → AreChained clocks u.last us → low ≤ u.due → All (λ v. low ≤ v.due) (u ∷ us)
first-dues clocks b low u us kept unit chain h =
    let ends = unit-ends clocks b u (ticks_meant u) refl unit in
    let due = unit.due in
    let m = turn-mono clocks u.first u.last kept ends.1 in
    All-cons (λ (v : StepUnit). low ≤ v.due) u us h (chain-dues clocks u.last low us kept chain (omega arith))

chain-starts : (clocks : Clocks) (b low : ℕ) (us vs : List StepUnit) → AreKept clocks → AreChained clocks b (us ++ vs) → StartFrom low vs → All (λ u. low ≤ u.due) vs
chain-starts clocks b low [] [] kept chain start = All-nil (λ (u : StepUnit). low ≤ u.due)
chain-starts clocks b low [] (v ∷ vs) kept chain start = first-dues clocks b low v vs kept chain.1 chain.2 start
chain-starts clocks b low (u ∷ us) vs kept chain start = chain-starts clocks u.last low us vs kept chain.2 start

begun-starts : (homing : Bool) (clocks : Clocks) (b low : ℕ) (us vs : List StepUnit) → AreKept clocks → AreBegunBy homing clocks b (us ++ vs) → StartFrom low vs → All (λ u. low ≤ u.due) vs
begun-starts homing clocks b low [] [] kept begun start = All-nil (λ (u : StepUnit). low ≤ u.due)
begun-starts homing clocks b low [] (v ∷ vs) kept begun start = first-dues clocks b low v vs kept begun.2 begun.3 start
begun-starts homing clocks b low (u ∷ us) vs kept begun start = chain-starts clocks u.last low us vs kept begun.3 start

-- the planned steps behind those that are said
fits-later : (freq b : ℕ) (P : ℕ → Type 0) (ps qs : List Pulse) (plan : List Planned) → ((s t : ℕ) → s ≤ t → P s → P t) → Fits freq b (ps ++ qs) plan → length (ps ++ qs) ≡ length plan → All (λ (q : Pulse). P q.tick) qs → All (λ (s : Planned). P s.tick) (drop (length ps) plan)
fits-later freq b P (p ∷ ps) qs [] up fits whole late = absurd fits
fits-later freq b P (p ∷ ps) qs (s ∷ plan) up fits whole late = fits-later freq s.tick P ps qs plan up fits.1 (omega arith) late
fits-later freq b P [] [] [] up fits whole late = All-nil (λ (s : Planned). P s.tick)
fits-later freq b P [] [] (s ∷ plan) up fits whole late = absurd (omega arith)
fits-later freq b P [] (q ∷ qs) [] up fits whole late = absurd fits
fits-later freq b P [] (q ∷ qs) (s ∷ plan) up fits whole late =
    let R : Pulse → Type 0 = λ p. P p.tick in
    All-cons (λ (t : Planned). P t.tick) s plan (up q.tick s.tick fits.0.not_late (All-head R q qs late)) (fits-later freq s.tick P [] qs plan up fits.1 (omega arith) (All-tail R q qs late))

pub sent-all : (P : ℕ → Type 0) (inverted : Bool) (steps : List Planned) → All (λ (s : Planned). P s.tick) steps → All (λ (s : Planned). P s.tick) (as_sent inverted steps)
sent-all P inverted [] h = All-nil (λ (s : Planned). P s.tick)
sent-all P inverted (s ∷ steps) h =
    let Q : Planned → Type 0 = λ q. P q.tick in
    All-cons Q (record { tick = s.tick; up = sent inverted s.up }) (as_sent inverted steps) (All-head Q s steps h) (sent-all P inverted steps (All-tail Q s steps h))

-- The steps of a stepper's plan that its units do not say yet are due in a turn or later, where those are that it still has,
-- and it has caught up with a later turn.
pub rest-later : (homing : Bool) (s : StepperStream) (freq base turn low : ℕ) (parts more : List TimedPart) (out : List Planned) (pieces : List Piece) (given : List StepUnit) → (kind_of s).reset ≡ set_to homing base → (kind_of s).early ≡ max_error freq → IsStepperOf s base parts out pieces given
    → All (λ t. known_of s ≤ tick (stepper_clocks s).first t.begin) more → AreKept (stepper_clocks s) → IsCaughtUp turn s → low ≤ turn → StartFrom low (units_of s)
    → All (λ q. low ≤ lines_turn (stepper_clocks s) q.tick) (drop (length (steps_said (kind_of s).oid false given)) (as_sent (kind_of s).inverted (plan_of s base (parts ++ more))))
rest-later homing s freq base turn low parts more out pieces given reset early are later kept caught order late =
    let clocks = stream_lines s.steps in
    let oid = s.pack.oid in
    let inverted = is_inverted s.pack in
    let waiting = waiting_of s.pack in
    let packed = are.packed in
    let r = parts-front s.steps.gear s.steps.lines s.drive s.steps.reach s.steps.end s.steps.last_end s.steps.last (drop s.steps.next s.steps.raw.items) base parts more are.asked out s.line are.steps_are later in
    let P : ℕ → Type 0 = λ t. low ≤ lines_turn clocks t in
    let up : (a b : ℕ) → a ≤ b → P a → P b = λ a b le h. (let m = turn-mono clocks a b kept le in omega arith) in
    let cut = lines_tick clocks (turn * turn_ns) in
    let cut-late : (t : ℕ) → cut ≤ t → P t = λ t le. (let f = turn_from clocks turn t kept le in omega arith) in
    let steps = steps_in pieces in
    let one : ArePieces (max_error freq) base pieces = subst (λ x. ArePieces x base pieces) early packed.packed in
    let two : AreSpaced base steps = (spaced-split base steps (held_of s.pack) (subst (AreSpaced base) packed.split packed.spaced)).0 in
    let own : units_on clocks oid (set_to homing base) None steps (placed_in pieces) ≡ given ++ waiting = ap (λ x. units_on clocks oid x None steps (placed_in pieces)) (sym reset) ∙ sym packed.units_are in
    let made : ArePackedBy homing clocks freq oid base steps (given ++ waiting) = subst (λ u. ArePackedBy homing clocks freq oid base steps u) own (pieces-make homing clocks freq oid base pieces one two) in
    let said = steps_said oid false given in
    let left = steps_said oid (dir_behind false given) waiting in
    let joined = said_join oid false given waiting in
    let whole : length (said ++ left) ≡ length steps = sym (ap length joined) ∙ made.whole in
    let fits : Fits freq base (said ++ left) steps = subst (λ ps. Fits freq base ps steps) joined made.fits in
    let behind = said-later clocks low oid (dir_behind false given) waiting kept (of-behind clocks given waiting (of-begun homing clocks base (given ++ waiting) made.begun)) (begun-starts homing clocks base low given waiting kept made.begun late) in
    let first = fits-later freq base P said left steps up fits whole behind in
    let held : All (λ (q : Planned). P q.tick) (held_of s.pack) = λ k d l. cut-late _ (caught.held_are k d l) in
    let rest : All (λ (q : Planned). cut ≤ q.tick) r.rest = r.later (tick clocks.first (turn * turn_ns)) cut caught.steps_are.left (λ n le. board-from clocks (turn * turn_ns) n kept le) in
    let rests : All (λ (q : Planned). P q.tick) (as_sent inverted r.rest) = sent-all P inverted r.rest (λ k d l. cut-late _ (rest k d l)) in
    let plan : as_sent inverted (plan_of s base (parts ++ more)) ≡ steps ++ (held_of s.pack ++ as_sent inverted r.rest) = ap (as_sent inverted) r.whole ∙ sent-append inverted out r.rest ∙ ap (λ xs. xs ++ as_sent inverted r.rest) packed.split ∙ append_assoc steps (held_of s.pack) (as_sent inverted r.rest) in
    let n = length-append said left in
    let split : drop (length said) (as_sent inverted (plan_of s base (parts ++ more))) ≡ drop (length said) steps ++ (held_of s.pack ++ as_sent inverted r.rest) = ap (drop (length said)) plan ∙ drop-before (length said) steps (held_of s.pack ++ as_sent inverted r.rest) (omega arith) in
    let Q : Planned → Type 0 = λ q. P q.tick in
    subst (All Q) (sym split) (All-append Q (drop (length said) steps) (held_of s.pack ++ as_sent inverted r.rest) first (All-append Q (held_of s.pack) (as_sent inverted r.rest) held rests))

-- a stepper of whose parts a step is left to plan, or to pack
sent-behind : (inverted : Bool) (plan out : List Planned) → AreBehind plan out → AreBehind (as_sent inverted plan) (as_sent inverted out)
sent-behind inverted plan out h = record {
  step = record { tick = h.step.tick; up = sent inverted h.step.up };
  rest = as_sent inverted h.rest;
  are = ap (as_sent inverted) h.are ∙ sent-append inverted out (h.step ∷ h.rest);
}

more-behind : (s : StepperStream) (base : ℕ) (parts : List TimedPart) (pieces : List Piece) → AreBehind (as_sent (is_inverted s.pack) (plan_of s base parts)) (steps_in pieces) → HasMore s base parts pieces
more-behind s base parts pieces h = record { step = h.step; rest = h.rest; are = h.are }

pub left-planned : (s : StepperStream) → 0 < length (left_steps s.steps) → HasStepsLeft s
left-planned s some base parts out pieces given h =
    let inverted = is_inverted s.pack in
    let behind = steps-left s.steps.gear s.steps.lines s.steps.reach s.steps.end s.steps.last_end s.steps.last (drop s.steps.next s.steps.raw.items) base (segments_for s.drive parts) h.asked out h.steps_are some in
    more-behind s base parts pieces (held-left (as_sent inverted (plan_of s base parts)) (as_sent inverted out) (steps_in pieces) (held_of s.pack) (sent-behind inverted (plan_of s base parts) out behind) h.packed.split)

pub left-packed : (s : StepperStream) → left_steps s.steps ≡ [] → (held_of s.pack ≡ [] → ⊥) → HasStepsLeft s
left-packed s none some base parts out pieces given h =
    let inverted = is_inverted s.pack in
    let whole : out ≡ plan_of s base parts = steps-whole s.steps.gear s.steps.lines s.steps.reach s.steps.end s.steps.last_end s.steps.last (drop s.steps.next s.steps.raw.items) base (segments_for s.drive parts) h.asked out h.steps_are none in
    more-behind s base parts pieces (held-some (as_sent inverted (plan_of s base parts)) (as_sent inverted out) (steps_in pieces) (held_of s.pack) (ap (as_sent inverted) (sym whole)) h.packed.split some)

-- the last of some steps is in a turn or later, where those from one on are
last-from-late : (clocks : Clocks) (low : ℕ) (xs : List Planned) (q : Planned) (rest : List Planned) → All (λ (s : Planned). low ≤ lines_turn clocks s.tick) (q ∷ rest) → low ≤ last_turn clocks (xs ++ q ∷ rest)
last-from-late clocks low [] q [] h = h 0 q (omega arith)
last-from-late clocks low [] q (r ∷ rest) h = last-from-late clocks low [] r rest (All-tail (λ (s : Planned). low ≤ lines_turn clocks s.tick) q (r ∷ rest) h)
last-from-late clocks low (x ∷ []) q rest h = last-from-late clocks low [] q rest h
last-from-late clocks low (x ∷ y ∷ xs) q rest h = last-from-late clocks low (y ∷ xs) q rest h

-- where a step is left to a stepper that has caught up with a turn, its plan ends in that turn or later
pub left-late : (s : StepperStream) (base turn : ℕ) (parts : List TimedPart) (out : List Planned) (pieces : List Piece) (given : List StepUnit) → IsStepperOf s base parts out pieces given → AreKept (stepper_clocks s) → IsCaughtUp turn s → HasStepsLeft s
    → turn ≤ last_turn (stepper_clocks s) (as_sent (kind_of s).inverted (plan_of s base parts))
left-late s base turn parts out pieces given are kept caught left =
    let clocks = stream_lines s.steps in
    let inverted = is_inverted s.pack in
    let held = held_of s.pack in
    let steps = steps_in pieces in
    let cut = lines_tick clocks (turn * turn_ns) in
    let l = left base parts out pieces given are in
    let r = steps-front s.steps.gear s.steps.lines s.steps.reach s.steps.end s.steps.last_end s.steps.last (drop s.steps.next s.steps.raw.items) base (segments_for s.drive parts) [] are.asked out are.steps_are (All-nil (λ (g : Segment). s.steps.end ≤ g.start)) in
    let whole : plan_of s base parts ≡ out ++ r.rest = ap (λ (gs : List Segment). planned_steps s.steps.gear s.steps.lines gs base) (sym (append-nil (segments_for s.drive parts))) ∙ r.whole in
    let plan : as_sent inverted (plan_of s base parts) ≡ steps ++ (held ++ as_sent inverted r.rest) = ap (as_sent inverted) whole ∙ sent-append inverted out r.rest ∙ ap (λ xs. xs ++ as_sent inverted r.rest) are.packed.split ∙ append_assoc steps held (as_sent inverted r.rest) in
    let same : l.step ∷ l.rest ≡ held ++ as_sent inverted r.rest = behind-alike steps steps (l.step ∷ l.rest) (held ++ as_sent inverted r.rest) refl (sym l.are ∙ plan) in
    let rest : All (λ (q : Planned). cut ≤ q.tick) r.rest = r.later (tick clocks.first (turn * turn_ns)) cut caught.steps_are.left (λ n le. board-from clocks (turn * turn_ns) n kept le) in
    let P : Planned → Type 0 = λ q. cut ≤ q.tick in
    let all : All P (held ++ as_sent inverted r.rest) = All-append P held (as_sent inverted r.rest) caught.held_are (sent-all (λ (t : ℕ). cut ≤ t) inverted r.rest rest) in
    let here : All P (l.step ∷ l.rest) = subst (λ (xs : List Planned). All P xs) (sym same) all in
    subst (λ (ks : List Planned). turn ≤ last_turn clocks ks) (sym l.are) (last-from-late clocks turn steps l.step l.rest (λ k d lt. turn_from clocks turn _ kept (here k d lt)))

-- steps of which the last one of a front is in a turn or later, and behind a tick, end in that turn or later
last-from-front : (clocks : Clocks) (low b : ℕ) (xs ys : List Planned) → AreKept clocks → AreSpaced b (xs ++ ys) → b < last_step_tick b xs → low ≤ lines_turn clocks (last_step_tick b xs) → low ≤ last_turn clocks (xs ++ ys)
last-from-front clocks low b [] ys kept spaced some late = absurd (omega arith)
last-from-front clocks low b (x ∷ []) ys kept spaced some late =
    let above = spaced-above x.tick x.tick ys (omega arith) spaced.1 in
    last-from-late clocks low [] x ys (All-cons (λ (q : Planned). low ≤ lines_turn clocks q.tick) x ys late (λ k d l. (let m = turn-mono clocks x.tick _ kept (above k d l) in omega (arith, m, late))))
last-from-front clocks low b (x ∷ y ∷ xs) ys kept spaced some late =
    let rest : AreSpaced x.tick (y ∷ (xs ++ ys)) = spaced.1 in
    let next = rest.0 in
    let after = last-after y.tick xs (spaced-split y.tick xs ys rest.1).0 in
    last-from-front clocks low x.tick (y ∷ xs) ys kept rest (omega (arith, next, after)) late

-- where a stepper packed a step at a tick of a turn or later, its plan ends in that turn or later
pub packed-late : (s : StepperStream) (base turn : ℕ) (parts : List TimedPart) (out : List Planned) (pieces : List Piece) (given : List StepUnit) → IsStepperOf s base parts out pieces given → AreKept (stepper_clocks s) → base < packed_to s → lines_tick (stepper_clocks s) (turn * turn_ns) ≤ packed_to s
    → turn ≤ last_turn (stepper_clocks s) (as_sent (kind_of s).inverted (plan_of s base parts))
packed-late s base turn parts out pieces given are kept some late =
    let clocks = stream_lines s.steps in
    let inverted = is_inverted s.pack in
    let held = held_of s.pack in
    let steps = steps_in pieces in
    let r = steps-front s.steps.gear s.steps.lines s.steps.reach s.steps.end s.steps.last_end s.steps.last (drop s.steps.next s.steps.raw.items) base (segments_for s.drive parts) [] are.asked out are.steps_are (All-nil (λ (g : Segment). s.steps.end ≤ g.start)) in
    let whole : plan_of s base parts ≡ out ++ r.rest = ap (λ (gs : List Segment). planned_steps s.steps.gear s.steps.lines gs base) (sym (append-nil (segments_for s.drive parts))) ∙ r.whole in
    let plan : as_sent inverted (plan_of s base parts) ≡ steps ++ (held ++ as_sent inverted r.rest) = ap (as_sent inverted) whole ∙ sent-append inverted out r.rest ∙ ap (λ xs. xs ++ as_sent inverted r.rest) are.packed.split ∙ append_assoc steps held (as_sent inverted r.rest) in
    let spaced = subst (AreSpaced base) plan (spaced-sent inverted base (plan_of s base parts) (spaced-AreSpaced base _)) in
    let last : packed_to s ≡ last_step_tick base steps = are.packed.last_is in
    let at = turn_from clocks turn (packed_to s) kept late in
    subst (λ (ks : List Planned). turn ≤ last_turn clocks ks) (sym plan) (last-from-front clocks turn base steps (held ++ as_sent inverted r.rest) kept spaced (omega (arith, some, last)) (subst (λ t. turn ≤ lines_turn clocks t) last at))
