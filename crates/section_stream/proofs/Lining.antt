-- A stepper to whose lines one more is added: what it gave, and what waits, stays as it is.
use Rattle.std.proofs.Common.{◌≡◌, ℕ, suc, ◌+◌, ◌*◌, ◌<◌, ◌≤◌, Bool, Option, Some, None, List, [], ◌∷◌, ◌++◌, All, drop, arith, refl, ap, sym, ◌∙◌, subst, inl, inr, ◌⊎◌}
use Rattle.std.specs.Prelude.{Result, Ok, Err, OnOk, OnErr}
use Rattle.std.proofs.Props.{props}
use Rattle.std.proofs.Math.Logic.{∥∥₁_elim, ∥∥₁_map}
use Rattle.std.proofs.lemmas.List.Elements.{All-append, All-cons, All-nil}
use Rattle.plan_types.specs.Clock.{tick, turn_ns}
use Rattle.plan_types.specs.Plan.{max_error}
use Rattle.plan_types.specs.Lines.{Clocks, IsFit, last_from, lines_tick, lines_turn}
use Rattle.plan_types.specs.Sections.{TimedPart}
use Rattle.plan_types.specs.declared.plan.Line.{Line}
use Rattle.plan_types.specs.declared.plan.Planned.{Planned}
use Rattle.plan_types.specs.declared.plan.Segment.{Segment}
use Rattle.clock_line.specs.Kept.{AreKept, added}
use Rattle.clock_line.proofs.Holding.{tick-mono}
use Rattle.msg_code.specs.declared.unit.Unit.{Unit as StepUnit}
use Rattle.section_plan.specs.declared.drive.Drive.{Drive}
use Rattle.section_units.specs.Units.{as_sent, first_up, set_in, told_direction, unit_of, units_on}
use Rattle.step_pack.specs.declared.Placed.{Placed}
use Rattle.step_ticks.specs.declared.stream.StepStream.{StepStream}
use Rattle.step_ticks.specs.Streaming.{IsStepsOf, last_step_tick}
use Rattle.section_stream.specs.declared.pack.PackStream.{PackStream}
use Rattle.section_stream.specs.Packing.{ArePacked}
use Rattle.section_stream.specs.Packs.{IsPackedOf, held_of, is_inverted, last_packed, waiting_of}
use Rattle.section_stream.specs.Pieces.{ArePieces, Piece, placed_in, steps_in}
use Rattle.section_stream.specs.Plans.{stream_lines, segments_for}
use Rattle.section_stream.specs.Rows.{AreInRow}
use Rattle.section_stream.specs.Stepping.{AreCaughtUp, AreInStep, AreStepping, IsLeftFrom, IsPackedBehind}
use Rattle.section_stream.proofs.Adding.{added-before, added-least, kept-added, turn-added}
use Rattle.section_stream.proofs.Rowing.{piece-before}

-- a line that may be added from a time on
pub record MayAdd (clocks : Clocks) (from : ℕ) (line : Line) : Type 0 where
  pub kept : ∥ AreKept clocks ∥₁
  pub after : last_from 0 clocks.held < from
  pub fit : IsFit clocks.first line from

-- ticks before a turn that begins by its time stay in their turns
AreSame : Clocks → Clocks → ℕ → Type 0
AreSame new clocks bound = (t : ℕ) → t < bound → lines_turn new t ≡ lines_turn clocks t

turns-same : (clocks : Clocks) (from : ℕ) (line : Line) (turn : ℕ) → MayAdd clocks from line → turn * turn_ns ≤ from → AreSame (added clocks from line) clocks (lines_tick clocks (turn * turn_ns))
unfolding AreSame
turns-same clocks from line turn may order = λ t before. ∥∥₁_elim may.kept (hlevel props) (λ kept. turn-added clocks from line turn t kept may.after may.fit order before)

pub least-added : (clocks : Clocks) (from : ℕ) (line : Line) (time : ℕ) → MayAdd clocks from line → time ≤ from → lines_tick clocks time ≤ lines_tick (added clocks from line) time
least-added clocks from line time may order = ∥∥₁_elim may.kept (hlevel props) (λ kept. added-least clocks from line time kept may.after order)

still-kept : (clocks now : Clocks) (from : ℕ) (line : Line) → MayAdd clocks from line → now ≡ added clocks from line → ∥ AreKept now ∥₁
still-kept clocks now from line may is = subst (λ (k : Clocks). ∥ AreKept k ∥₁) (sym is) (∥∥₁_map may.kept (λ kept. kept-added clocks from line kept may.after may.fit))

-- the units of triples that begin before the turn
units-same : (clocks new : Clocks) (bound oid : ℕ) (reset : Option ℕ) (up : Option Bool) (steps : List Planned) (placed : List Placed) → AreSame new clocks bound → All (λ p. p.first < bound) placed → units_on new oid reset up steps placed ≡ units_on clocks oid reset up steps placed
unfolding AreSame
units-same clocks new bound oid reset up steps [] same early = refl
units-same clocks new bound oid reset up steps (p ∷ placed) same early =
    let here = same p.first (early 0 p (omega arith)) in
    let rest = units-same clocks new bound oid reset (Some (first_up steps)) (drop p.triple.count steps) placed same (λ k d l. early (suc k) d (omega arith)) in
    ap (λ n. record { stepper = oid; first = p.first; last = p.last; due = n; triple = p.triple; up = told_direction up (first_up steps); reset = set_in up reset } ∷ units_on new oid reset (Some (first_up steps)) (drop p.triple.count steps) placed) here
    ∙ ap (λ (us : List StepUnit). unit_of clocks oid p (told_direction up (first_up steps)) (set_in up reset) ∷ us) rest

pieces-before : (e before bound : ℕ) (pieces : List Piece) → ArePieces e before pieces → All (λ s. s.tick < bound) (steps_in pieces) → All (λ p. p.first < bound) (placed_in pieces)
pieces-before e before bound [] are early = All-nil (λ (p : Placed). p.first < bound)
pieces-before e before bound (p ∷ pieces) are early =
    let P : Planned → Type 0 = λ s. s.tick < bound in
    let split = all-split P p.steps (steps_in pieces) early in
    All-append (λ (q : Placed). q.first < bound) p.placed (placed_in pieces) (piece-before e before bound p.steps p.placed are.0 split.0) (pieces-before e (last_step_tick before p.steps) bound pieces are.2 split.1)
  where
    all-split : (P : Planned → Type 0) (xs ys : List Planned) → All P (xs ++ ys) → All P xs × All P ys
    all-split P [] ys h = (All-nil P, h)
    all-split P (x ∷ xs) ys h =
        let r = all-split P xs ys (λ k d l. h (suc k) d (omega arith)) in
        (All-cons P x xs (h 0 x (omega arith)) r.0, r.1)

-- the packed steps
packed-added : (clocks new : Clocks) (bound oid e last : ℕ) (up : Option Bool) (reset : Option ℕ) (held : List Planned) (waiting : List StepUnit) (base : ℕ) (pushed : List Planned) (pieces : List Piece) (given : List StepUnit) → AreSame new clocks bound → All (λ s. s.tick < bound) (steps_in pieces)
    → ArePacked clocks oid e last up reset held waiting base pushed pieces given → ArePacked new oid e last up reset held waiting base pushed pieces given
packed-added clocks new bound oid e last up reset held waiting base pushed pieces given same early are = record {
  spaced = are.spaced;
  small = are.small;
  split = are.split;
  packed = are.packed;
  last_is = are.last_is;
  up_is = are.up_is;
  units_are = are.units_are ∙ sym (units-same clocks new bound oid reset None (steps_in pieces) (placed_in pieces) same (pieces-before e base bound pieces are.packed early));
}

-- the units that wait
row-added : (clocks new : Clocks) (bound before end : ℕ) (us : List StepUnit) → AreSame new clocks bound → All (λ u. u.first < bound) us → AreInRow clocks before end us → AreInRow new before end us
unfolding AreSame
row-added clocks new bound before end [] same early row = row
row-added clocks new bound before end (u ∷ us) same early row = (
  record { after = row.0.after; ends = row.0.ends; small = row.0.small; due = row.0.due ∙ sym (same u.first (early 0 u (omega arith))) },
  row-added clocks new bound u.last end us same (λ k d l. early (suc k) d (omega arith)) row.1,
)

still-row : (clocks now : Clocks) (from : ℕ) (line : Line) (turn end : ℕ) (us : List StepUnit) → MayAdd clocks from line → turn * turn_ns ≤ from → now ≡ added clocks from line → All (λ u. u.first < lines_tick clocks (turn * turn_ns)) us → ∥ AreInRow clocks 0 end us ∥₁ → ∥ AreInRow now 0 end us ∥₁
still-row clocks now from line turn end us may order is early row =
    subst (λ (k : Clocks). ∥ AreInRow k 0 end us ∥₁) (sym is) (∥∥₁_map row (λ r. row-added clocks (added clocks from line) (lines_tick clocks (turn * turn_ns)) 0 end us (turns-same clocks from line turn may order) early r))

still-before : (clocks now : Clocks) (from : ℕ) (line : Line) (turn : ℕ) (us : List StepUnit) → MayAdd clocks from line → turn * turn_ns ≤ from → now ≡ added clocks from line → All (λ u. u.first < lines_tick clocks (turn * turn_ns)) us → All (λ u. u.first < lines_tick now (turn * turn_ns)) us
still-before clocks now from line turn us may order is early =
    let up = least-added clocks from line (turn * turn_ns) may order in
    subst (λ (k : Clocks). All (λ (u : StepUnit). u.first < lines_tick k (turn * turn_ns)) us) (sym is) (λ k d l. (let e = early k d l in omega arith))

-- what is asked of a stream of steps that takes up a line
abbrev pub Keeps : StepStream → StepStream → ℕ → Type 0
Keeps old new bound = (base : ℕ) (segments : List Segment) (asked : ℕ) (out : List Planned) → asked ≤ bound → IsStepsOf old base segments asked out → IsStepsOf new base segments asked out

pub asked-by : (line first : Line) (turn from asked : ℕ) → line ≡ first → turn * turn_ns ≤ from → asked ≤ tick line (turn * turn_ns) → asked ≤ tick first from
asked-by line first turn from asked is order by =
    let m = tick-mono first (turn * turn_ns) from order in
    let e = ap (λ (l : Line). tick l (turn * turn_ns)) is in
    omega arith

-- the stepper
pub stepping-added : (old new : StepStream) (drive : Drive) (pack : PackStream) (turn from : ℕ) (line : Line) (base : ℕ) (parts : List TimedPart) (out : List Planned) (pieces : List Piece) (given : List StepUnit) → MayAdd (stream_lines old) from line → turn * turn_ns ≤ from → drive.line ≡ (stream_lines old).first → stream_lines new ≡ added (stream_lines old) from line → Keeps old new (tick (stream_lines old).first from)
    → AreStepping old drive pack turn base parts out pieces given → AreStepping new drive pack turn base parts out pieces given
stepping-added old new drive pack turn from line base parts out pieces given may order own is keeps h =
    let clocks = stream_lines old in
    let bound = lines_tick clocks (turn * turn_ns) in
    let up = least-added clocks from line (turn * turn_ns) may order in
    let packed = packed-added clocks (added clocks from line) bound pack.oid pack.max_error pack.last pack.up pack.reset (held_of pack) (waiting_of pack) base (as_sent (is_inverted pack) out) pieces given (turns-same clocks from line turn may order) h.early h.packed in
    record {
      asked = h.asked;
      asked_by = h.asked_by;
      steps_are = keeps base (segments_for drive parts) h.asked out (asked-by drive.line clocks.first turn from h.asked own order h.asked_by) h.steps_are;
      packed = subst (λ (k : Clocks). IsPackedOf pack k base (as_sent (is_inverted pack) out) pieces given) (sym is) packed;
      early = subst (λ (k : Clocks). All (λ (s : Planned). s.tick < lines_tick k (turn * turn_ns)) (steps_in pieces)) (sym is) (λ k d l. (let e = h.early k d l in omega arith));
    }

still-in-step : (old new : StepStream) (drive : Drive) (pack : PackStream) (turn from : ℕ) → turn * turn_ns ≤ from → drive.line ≡ (stream_lines old).first → Keeps old new (tick (stream_lines old).first from) → AreInStep old drive pack turn → AreInStep new drive pack turn
still-in-step old new drive pack turn from order own keeps h = record {
  base = h.base;
  parts = h.parts;
  out = h.out;
  asked = h.asked;
  asked_by = h.asked_by;
  steps_are = keeps h.base (segments_for drive h.parts) h.asked h.out (asked-by drive.line (stream_lines old).first turn from h.asked own order h.asked_by) h.steps_are;
  behind = h.behind;
}

-- it has caught up with the turns before the line's time as before
pub caught-added : (old new : StepStream) (clocks now : Clocks) (turn from : ℕ) (line : Line) (held : List Planned) → turn * turn_ns < from → now ≡ added clocks from line → (IsLeftFrom (tick clocks.first (turn * turn_ns)) old → IsLeftFrom (tick clocks.first (turn * turn_ns)) new) → AreCaughtUp clocks turn old held → AreCaughtUp now turn new held
caught-added old new clocks now turn from line held order is left h =
    let e = added-before clocks from line (turn * turn_ns) order in
    subst (λ (k : Clocks). AreCaughtUp k turn new held) (sym is) (record { steps_are = left h.steps_are; held_are = λ k d l. (let g = h.held_are k d l in omega arith) })

-- and so what may still be made is due as before
pub later-added : (old new : StepStream) (clocks now : Clocks) (low turn from : ℕ) (line : Line) (held : List Planned) (last : ℕ) → turn * turn_ns < from → low * turn_ns < from → now ≡ added clocks from line → ((t : ℕ) → IsLeftFrom t old → IsLeftFrom t new)
    → IsPackedBehind clocks low turn old held ⊎ (lines_tick clocks (low * turn_ns) ≤ last) → IsPackedBehind now low turn new held ⊎ (lines_tick now (low * turn_ns) ≤ last)
later-added old new clocks now low turn from line held last order here is left (inl was) =
    let to = was.to in
    let by = was.to_by in
    let far = was.behind in
    let e = added-before clocks from line (low * turn_ns) here in
    let f = added-before clocks from line (to * turn_ns) (omega arith) in
    inl (record {
      to = to;
      to_by = by;
      caught_up = caught-added old new clocks now to from line held (omega arith) is (left (tick clocks.first (to * turn_ns))) was.caught_up;
      behind = subst (λ (k : Clocks). lines_tick k (low * turn_ns) + max_error k.first.freq ≤ lines_tick k (to * turn_ns)) (sym is) (omega arith);
    })
later-added old new clocks now low turn from line held last order here is left (inr packed) =
    let e = added-before clocks from line (low * turn_ns) here in
    inr (subst (λ (k : Clocks). lines_tick k (low * turn_ns) ≤ last) (sym is) (omega arith))

-- what is known of a stream of steps whether it took up a line or not
pub record Took (old new : StepStream) (from : ℕ) (line : Line) : Type 0 where
  pub lines : stream_lines new ≡ added (stream_lines old) from line
  pub keeps : Keeps old new (tick (stream_lines old).first from)

pub took-either : {E : Type 0} (r : Result (Unit {0}) E) (old new : StepStream) (from : ℕ) (line : Line) → OnOk r (stream_lines new ≡ added (stream_lines old) from line) → OnOk r (Keeps old new (tick (stream_lines old).first from)) → OnErr r (new ≡ old) → Took old new from line ⊎ (new ≡ old)
took-either (Ok x) old new from line lines keeps same = inl (record { lines = lines; keeps = keeps })
took-either (Err e) old new from line lines keeps same = inr same

-- what holds of a stepper, on both ways
pub record IsSound (steps : StepStream) (drive : Drive) (pack : PackStream) (turn : ℕ) : Type 0 where
  pub line : drive.line ≡ (stream_lines steps).first
  pub in_step : ∥ AreInStep steps drive pack turn ∥₁
  pub row : ∥ AreInRow (stream_lines steps) 0 (last_packed pack) (waiting_of pack) ∥₁
  pub kept : ∥ AreKept (stream_lines steps) ∥₁
  pub before : All (λ u. u.first < lines_tick (stream_lines steps) (turn * turn_ns)) (waiting_of pack)

pub still-sound : (old new : StepStream) (drive : Drive) (pack : PackStream) (turn from : ℕ) (line : Line) → last_from 0 (stream_lines old).held < from → IsFit (stream_lines old).first line from → turn * turn_ns ≤ from → IsSound old drive pack turn → Took old new from line ⊎ (new ≡ old) → IsSound new drive pack turn
still-sound old new drive pack turn from line after fit order sound (inr same) = subst (λ (s : StepStream). IsSound s drive pack turn) (sym same) sound
still-sound old new drive pack turn from line after fit order sound (inl took) =
    let may : MayAdd (stream_lines old) from line = record { kept = sound.kept; after = after; fit = fit } in
    let is = took.lines in
    record {
      line = sound.line ∙ ap (λ (k : Clocks). k.first) (sym is);
      in_step = ∥∥₁_map sound.in_step (λ h. still-in-step old new drive pack turn from order sound.line took.keeps h);
      row = still-row (stream_lines old) (stream_lines new) from line turn (last_packed pack) (waiting_of pack) may order is sound.before sound.row;
      kept = still-kept (stream_lines old) (stream_lines new) from line may is;
      before = still-before (stream_lines old) (stream_lines new) from line turn (waiting_of pack) may order is sound.before;
    }
