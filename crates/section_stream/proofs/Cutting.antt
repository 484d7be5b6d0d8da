-- The triples of a stepper that is planned turn by turn cover as many steps as one can.
use Rattle.std.proofs.Common.{◌≡◌, ℕ, ◌+◌, ◌*◌, ◌<◌, ◌≤◌, zero, suc, Bool, Option, Some, None, List, [], ◌∷◌, ◌++◌, All, length, drop, get_or, arith, refl, ap, sym, ◌∙◌, append_assoc, length-append, subst}
use Rattle.std.proofs.lemmas.List.{append-nil, length-drop}
use Rattle.std.proofs.lemmas.List.Elements.{All-append, All-nil}
use Rattle.step_ticks.specs.Streaming.{last_step_tick}
use Rattle.plan_types.specs.Clock.{tick, turn_ns}
use Rattle.plan_types.specs.declared.plan.Line.{Line}
use Rattle.plan_types.specs.declared.plan.Planned.{Planned}
use Rattle.plan_types.specs.declared.plan.Window.{Window}
use Rattle.plan_types.specs.Lines.{Clocks, lines_tick, lines_turn}
use Rattle.plan_types.specs.Packing.{open_windows, windows_of}
use Rattle.plan_types.specs.Plan.{max_error}
use Rattle.plan_types.specs.Sections.{TimedPart}
use Rattle.clock_line.specs.Kept.{AreKept, added}
use Rattle.clock_line.proofs.Turns.{tick_over-mono, turn-below}
use Rattle.step_pack.specs.declared.Placed.{Placed}
use Rattle.step_pack.specs.Placing.{PacksPlaced}
use Rattle.step_pack.proofs.Piecewise.{length-windows, piece_of}
use Rattle.msg_code.specs.declared.unit.Unit.{Unit as StepUnit}
use Rattle.section_units.specs.Packed.{end_of_units}
use Rattle.section_units.specs.Sent.{AreLongest, AreLongestOf}
use Rattle.section_units.specs.Units.{as_sent, first_up, units_on, up_after}
use Rattle.section_units.proofs.Longest.{count_in, longest_front, longest_join, piece_longest}
use Rattle.section_units.proofs.Packing.{piece_end}
use Rattle.section_stream.specs.declared.stepper.StepperStream.{StepperStream}
use Rattle.section_stream.specs.Fronts.{plan_of}
use Rattle.section_stream.specs.Packs.{held_of, is_inverted, waiting_of}
use Rattle.section_stream.specs.Pieces.{AreInTurns, ArePieces, Piece, pieces_turn, placed_in, steps_in}
use Rattle.section_stream.specs.Plans.{stream_lines, segments_for}
use Rattle.section_stream.specs.Steppers.{IsCaughtUp, IsStepperOf, StepperKind, stepper_clocks, kind_of, known_of}
use Rattle.section_stream.proofs.Adding.{added-before, board-from}
use Rattle.section_stream.proofs.Later.{sent-all}
use Rattle.section_stream.proofs.Leaving.{behind-alike}
use Rattle.section_stream.proofs.Making.{end-is, sent-append}
use Rattle.section_stream.proofs.Packed.{pieces-on, steps-more, units-more}
use Rattle.section_stream.proofs.Staying.{parts-front}
use Rattle.section_units.proofs.Completing.{drop-done}
use Rattle.section_units.proofs.Lateness.{turn_from}

ticks-up : (clocks : Clocks) (j k : ℕ) → j ≤ k → lines_tick clocks (j * turn_ns) ≤ lines_tick clocks (k * turn_ns)
ticks-up clocks j k h = tick_over-mono clocks.first 0 clocks.held (j * turn_ns) (k * turn_ns) (omega arith)

-- a tick of a turn before one, from another on
turn-before : (clocks : Clocks) (from turn t : ℕ) → lines_tick clocks (from * turn_ns) ≤ t → t < lines_tick clocks (turn * turn_ns) → lines_turn clocks t < turn
turn-before clocks from zero t low high = absurd (let up = ticks-up clocks zero from (omega arith) in omega arith)
turn-before clocks from (suc k) t low high = (
    let e : suc k * turn_ns ≡ (k + 1) * turn_ns = omega arith in
    let b = turn-below clocks t k (rw e at high) in
    omega arith)

-- the turn before which all steps of some pieces are planned is not before the one from which on they are
past-from : (clocks : Clocks) (from : ℕ) (ps : List Piece) → AreInTurns clocks from ps → from ≤ pieces_turn from ps
past-from clocks from [] h = omega arith
past-from clocks from (p ∷ ps) h = (let low = h.0 in let later = past-from clocks p.turn ps h.3 in omega arith)

-- the steps of pieces are from a turn on
pieces-from : (clocks : Clocks) (from : ℕ) (ps : List Piece) → AreInTurns clocks from ps → All (λ (s : Planned). lines_tick clocks (from * turn_ns) ≤ s.tick) (steps_in ps)
pieces-from clocks from [] h = All-nil (λ (s : Planned). lines_tick clocks (from * turn_ns) ≤ s.tick)
pieces-from clocks from (p ∷ ps) h =
    let P : Planned → Type 0 = λ s. lines_tick clocks (from * turn_ns) ≤ s.tick in
    let up = ticks-up clocks from p.turn h.0 in
    let rest = pieces-from clocks p.turn ps h.3 in
    All-append P p.steps (steps_in ps) h.1 (λ k d l. (let low = rest k d l in omega arith))

-- one more piece
pub turns-more : (clocks : Clocks) (from before : ℕ) (ps : List Piece) (p : Piece) → AreInTurns clocks from ps → pieces_turn from ps ≤ before → before ≤ p.turn → All (λ (s : Planned). lines_tick clocks (before * turn_ns) ≤ s.tick) p.steps
    → All (λ (s : Planned). s.tick < lines_tick clocks (p.turn * turn_ns)) p.steps → AreInTurns clocks from (ps ++ p ∷ [])
turns-more clocks from before [] p h past order low high = (let up = ticks-up clocks from before past in (omega arith, λ k d l. (let a = low k d l in omega arith), high, tt))
turns-more clocks from before (q ∷ ps) p h past order low high = (h.0, h.1, h.2, turns-more clocks q.turn before ps p h.3 past order low high)

pub past-more : (from : ℕ) (ps : List Piece) (p : Piece) → pieces_turn from (ps ++ p ∷ []) ≡ p.turn
past-more from [] p = refl
past-more from (q ∷ ps) p = past-more q.turn ps p

-- a line that holds from a later time on changes nothing of them
pub turns-lined : (clocks : Clocks) (from turn time : ℕ) (line : Line) (ps : List Piece) → AreInTurns clocks from ps → pieces_turn from ps ≤ turn → turn * turn_ns < time → AreInTurns (added clocks time line) from ps
turns-lined clocks from turn time line [] h past before = tt
turns-lined clocks from turn time line (p ∷ ps) h past before =
    let low = h.0 in
    let last = past-from clocks p.turn ps h.3 in
    let one = added-before clocks time line (from * turn_ns) (omega arith) in
    let two = added-before clocks time line (p.turn * turn_ns) (omega arith) in
    (h.0, subst (λ t. All (λ (s : Planned). t ≤ s.tick) p.steps) (sym one) h.1, subst (λ t. All (λ (s : Planned). s.tick < t) p.steps) (sym two) h.2, turns-lined clocks p.turn turn time line ps h.3 past before)

-- as many steps as a piece has
counts : (clocks : Clocks) (oid behind : ℕ) (reset : Option ℕ) (up : Option Bool) (ws : List Window) (steps : List Planned) (placed : List Placed) → PacksPlaced behind ws placed → count_in (units_on clocks oid reset up steps placed) ≡ length ws
counts clocks oid behind reset up ws steps [] packs = sym (ap (λ (xs : List Window). length xs) packs)
counts clocks oid behind reset up ws steps (p ∷ placed) packs =
    let n = p.triple.count in
    let covers = packs.0 in
    let inside = covers.within in
    let l = length-drop n ws in
    let rest = counts clocks oid p.last reset (Some (first_up steps)) (drop n ws) (drop n steps) placed packs.3 in
    omega (arith, inside, l, rest)

windows-behind : (e b : ℕ) (xs ys : List Planned) → drop (length xs) (open_windows e b (xs ++ ys)) ≡ open_windows e (last_step_tick b xs) ys
windows-behind e b [] ys = refl
windows-behind e b (x ∷ xs) ys = windows-behind e x.tick xs ys

-- the triples of pieces of a plan, of which the rest is in later turns
pub pieces-longest : (clocks : Clocks) (oid : ℕ) (reset : Option ℕ) (up : Option Bool) (e behind from turn : ℕ) (ps : List Piece) (rest : List Planned) → AreKept clocks → ArePieces e behind ps → AreInTurns clocks from ps → pieces_turn from ps ≤ turn
    → All (λ (q : Planned). lines_tick clocks (turn * turn_ns) ≤ q.tick) rest → AreLongest clocks behind (open_windows e behind (steps_in ps ++ rest)) (steps_in ps ++ rest) (units_on clocks oid reset up (steps_in ps) (placed_in ps))
pieces-longest clocks oid reset up e behind from turn [] rest kept are turns past late = tt
pieces-longest clocks oid reset up e behind from turn (p ∷ ps) rest kept are turns past late =
    let more = steps_in ps ++ rest in
    let plan = p.steps ++ more in
    let ws = windows_of e behind p.steps in
    let Late : Planned → Type 0 = λ q. lines_tick clocks (p.turn * turn_ns) ≤ q.tick in
    let high = past-from clocks p.turn ps turns.3 in
    let top = ticks-up clocks p.turn turn (omega arith) in
    let later : All Late more = All-append Late (steps_in ps) rest (pieces-from clocks p.turn ps turns.3) (λ k d l. (let a = late k d l in omega arith)) in
    let cut : All (λ (s : Planned). All (λ (q : Planned). lines_turn clocks s.tick < lines_turn clocks q.tick) more) p.steps = λ k d l i c m. (
    let one = turn-before clocks from p.turn (get_or p.steps k d).tick (turns.1 k d l) (turns.2 k d l) in
    let two = turn_from clocks p.turn (get_or more i c).tick kept (later i c m) in
    omega (arith, one, two)) in
    let us = units_on clocks oid reset up p.steps p.placed in
    let one = piece_longest clocks oid reset up behind ws (open_windows e behind plan) p.steps more p.placed (piece_of e behind p.steps more) (length-windows e behind p.steps) are.0 cut in
    let next = last_step_tick behind p.steps in
    let vs = units_on clocks oid reset (up_after up p.steps p.placed) (steps_in ps) (placed_in ps) in
    let two = pieces-longest clocks oid reset (up_after up p.steps p.placed) e next p.turn turn ps rest kept are.2 turns.3 past late in
    let end : end_of_units behind us ≡ next = piece_end clocks oid e behind reset up p.steps p.placed are.0 ∙ end-is behind p.steps in
    let n : count_in us ≡ length p.steps = counts clocks oid behind reset up ws p.steps p.placed are.0 ∙ length-windows e behind p.steps in
    let w : drop (count_in us) (open_windows e behind plan) ≡ open_windows e next more = ap (λ k. drop k (open_windows e behind plan)) n ∙ windows-behind e behind p.steps more in
    let s : drop (count_in us) plan ≡ more = ap (λ k. drop k plan) n ∙ drop-done p.steps more in
    let here : AreLongest clocks (end_of_units behind us) (drop (count_in us) (open_windows e behind plan)) (drop (count_in us) plan) vs =
    subst (λ x. AreLongest clocks (end_of_units behind us) (drop (count_in us) (open_windows e behind plan)) x vs) (sym s) (subst (λ x. AreLongest clocks (end_of_units behind us) x more vs) (sym w) (subst (λ x. AreLongest clocks x (open_windows e next more) more vs) (sym end) two)) in
    let joined = longest_join clocks behind (open_windows e behind plan) plan us vs one here in
    let all = units-more clocks oid reset up p.placed (placed_in ps) p.steps (steps_in ps) (subst (λ xs. Rattle.section_stream.proofs.Packed.AreOn p.placed xs) (append-nil p.steps) (subst (λ xs. Rattle.section_stream.proofs.Packed.AreOn xs (p.steps ++ [])) (append-nil p.placed) (pieces-on e behind (p ∷ []) (are.0, are.1, tt)))) in
    subst (λ xs. AreLongest clocks behind (open_windows e behind xs) xs (units_on clocks oid reset up (p.steps ++ steps_in ps) (p.placed ++ placed_in ps))) (sym (append_assoc p.steps (steps_in ps) rest)) (subst (λ x. AreLongest clocks behind (open_windows e behind plan) plan x) (sym all) joined)

-- the plan of a stepper: its pieces, what it holds, and what is left to plan
record IsParted (s : StepperStream) (base : ℕ) (plan : List Planned) (pieces : List Piece) : Type 0 where
  pub rest : List Planned
  pub whole : as_sent (kind_of s).inverted plan ≡ steps_in pieces ++ rest
  pub late : (turn : ℕ) → AreKept (stepper_clocks s) → IsCaughtUp turn s → All (λ (q : Planned). lines_tick (stepper_clocks s) (turn * turn_ns) ≤ q.tick) rest

parted : (s : StepperStream) (base : ℕ) (parts more : List TimedPart) (out : List Planned) (pieces : List Piece) (given : List StepUnit) → IsStepperOf s base parts out pieces given → All (λ t. known_of s ≤ tick (stepper_clocks s).first t.begin) more
    → IsParted s base (plan_of s base (parts ++ more)) pieces
parted s base parts more out pieces given are later =
    let clocks = stream_lines s.steps in
    let inverted = is_inverted s.pack in
    let held = held_of s.pack in
    let steps = steps_in pieces in
    let r = parts-front s.steps.gear s.steps.lines s.drive s.steps.reach s.steps.end s.steps.last_end s.steps.last (drop s.steps.next s.steps.raw.items) base parts more are.asked out s.line are.steps_are later in
    record {
      rest = held ++ as_sent inverted r.rest;
      whole = ap (as_sent inverted) r.whole ∙ sent-append inverted out r.rest ∙ ap (λ xs. xs ++ as_sent inverted r.rest) are.packed.split ∙ append_assoc steps held (as_sent inverted r.rest);
      late = λ turn kept caught. (
          let cut = lines_tick clocks (turn * turn_ns) in
          let left : All (λ (q : Planned). cut ≤ q.tick) r.rest = r.later (tick clocks.first (turn * turn_ns)) cut caught.steps_are.left (λ n le. board-from clocks (turn * turn_ns) n kept le) in
          All-append (λ (q : Planned). cut ≤ q.tick) held (as_sent inverted r.rest) caught.held_are (sent-all (λ (t : ℕ). cut ≤ t) inverted r.rest left));
    }

-- the units that a stepper has given, by its whole plan, whatever parts follow those that it was given
pub given-longest : (s : StepperStream) (freq base from turn : ℕ) (parts more : List TimedPart) (out : List Planned) (pieces : List Piece) (given : List StepUnit) → (kind_of s).early ≡ max_error freq → IsStepperOf s base parts out pieces given
    → All (λ t. known_of s ≤ tick (stepper_clocks s).first t.begin) more → AreKept (stepper_clocks s) → IsCaughtUp turn s → AreInTurns (stepper_clocks s) from pieces → pieces_turn from pieces ≤ turn
    → AreLongestOf (stepper_clocks s) freq base (as_sent (kind_of s).inverted (plan_of s base (parts ++ more))) given
given-longest s freq base from turn parts more out pieces given early are later kept caught turns past =
    let clocks = stream_lines s.steps in
    let oid = s.pack.oid in
    let waiting = waiting_of s.pack in
    let packed = are.packed in
    let p = parted s base parts more out pieces given are later in
    let plan = as_sent (is_inverted s.pack) (plan_of s base (parts ++ more)) in
    let one : ArePieces (max_error freq) base pieces = subst (λ x. ArePieces x base pieces) early packed.packed in
    let all = pieces-longest clocks oid s.pack.reset None (max_error freq) base from turn pieces p.rest kept one turns past (p.late turn kept caught) in
    let here : AreLongestOf clocks freq base plan (given ++ waiting) = subst (λ us. AreLongestOf clocks freq base plan us) (sym packed.units_are) (subst (λ xs. AreLongestOf clocks freq base xs (units_on clocks oid s.pack.reset None (steps_in pieces) (placed_in pieces))) (sym p.whole) all) in
    longest_front clocks base (open_windows (max_error freq) base plan) plan given waiting here

-- the steps of a piece that is packed behind a turn with which a stepper has caught up
pub piece-late : (old new : StepperStream) (base before : ℕ) (parts : List TimedPart) (out out' : List Planned) (pieces : List Piece) (piece : Piece) (given given' : List StepUnit) → IsStepperOf old base parts out pieces given → IsStepperOf new base parts out' (pieces ++ piece ∷ []) given'
    → stepper_clocks new ≡ stepper_clocks old → kind_of new ≡ kind_of old → AreKept (stepper_clocks old) → IsCaughtUp before old → All (λ (s : Planned). lines_tick (stepper_clocks old) (before * turn_ns) ≤ s.tick) piece.steps
piece-late old new base before parts out out' pieces piece given given' was is lines kind kept caught =
    let none = λ (s : StepperStream). All-nil (λ (t : TimedPart). known_of s ≤ tick (stepper_clocks s).first t.begin) in
    let one = parted old base parts [] out pieces given was (none old) in
    let two = parted new base parts [] out' (pieces ++ piece ∷ []) given' is (none new) in
    let Plan : StepperKind → Clocks → List Planned = λ k c. as_sent k.inverted (Rattle.plan_types.specs.Plan.planned_steps k.gear c (segments_for k.drive (parts ++ [])) base) in
    let same : Plan (kind_of new) (stepper_clocks new) ≡ Plan (kind_of old) (stepper_clocks old) = ap (λ k. Plan k (stepper_clocks new)) kind ∙ ap (Plan (kind_of old)) lines in
    let both : steps_in pieces ++ (piece.steps ++ two.rest) ≡ steps_in pieces ++ one.rest = sym (append_assoc (steps_in pieces) piece.steps two.rest) ∙ ap (λ xs. xs ++ two.rest) (sym (steps-more pieces piece)) ∙ sym two.whole ∙ same ∙ one.whole in
    let e = behind-alike (steps_in pieces) (steps_in pieces) (piece.steps ++ two.rest) one.rest refl both in
    let P : Planned → Type 0 = λ q. lines_tick (stepper_clocks old) (before * turn_ns) ≤ q.tick in
    let all : All P (piece.steps ++ two.rest) = subst (All P) (sym e) (one.late before kept caught) in
    front P piece.steps two.rest all
  where
    front : (P : Planned → Type 0) (xs ys : List Planned) → All P (xs ++ ys) → All P xs
    front P xs ys h = λ k d l. (
        let n = length-append xs ys in
        subst P (Rattle.std.proofs.Math.ListN.get_or-append xs ys d k l) (h k d (omega arith)))
