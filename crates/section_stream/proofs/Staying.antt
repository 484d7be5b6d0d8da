-- What was given stays, whatever comes later.
use Rattle.std.proofs.Common.{◌≡◌, ℕ, suc, ◌+◌, ◌<◌, ◌≤◌, Bool, true, false, cond, eqb, max, List, [], ◌∷◌, ◌++◌, All, length, map, arith, refl, ap, sym, ◌∙◌, append_assoc, subst}
use Rattle.std.specs.List.{range_with_len}
use Rattle.std.proofs.lemmas.List.{append-nil, map-append}
use Rattle.std.proofs.lemmas.List.Elements.{All-append, All-cons, All-nil}
use Rattle.plan_types.specs.declared.plan.Gear.{Gear}
use Rattle.plan_types.specs.declared.plan.Line.{Line}
use Rattle.plan_types.specs.declared.plan.Move.{Move}
use Rattle.plan_types.specs.declared.plan.Part.{Part}
use Rattle.plan_types.specs.declared.plan.Planned.{Planned}
use Rattle.plan_types.specs.declared.plan.Pulse.{Pulse}
use Rattle.plan_types.specs.declared.plan.Segment.{Segment}
use Rattle.plan_types.specs.declared.plan.Window.{Window}
use Rattle.plan_types.specs.Clock.{tick}
use Rattle.plan_types.specs.Lines.{Clocks, lines_board}
use Rattle.plan_types.specs.Packing.{AreInWindows, open_windows, ticks_of, windows_of}
use Rattle.plan_types.specs.Parts.{parts}
use Rattle.plan_types.specs.Plan.{Fits, cancel_reach, filtered, max_error, on_board, planned_steps, spaced}
use Rattle.plan_types.specs.Sections.{TimedPart, duration, segment_of, timed, timed_moves}
use Rattle.plan_types.specs.Steps.{counts_passed, raw_steps, segment_steps}
use Rattle.step_ticks.specs.Streaming.{AreSteps, last_step_tick}
use Rattle.step_ticks.proofs.Within.{steps-within}
use Rattle.step_pack.specs.declared.Placed.{Placed}
use Rattle.step_pack.specs.Placing.{placed_ticks}
use Rattle.step_pack.proofs.Expanding.{placed_within}
use Rattle.step_pack.proofs.Piecewise.{within_open}
use Rattle.section_plan.specs.declared.drive.Drive.{Drive}
use Rattle.section_stream.specs.Pieces.{ArePieces, Piece, placed_in, steps_in}
use Rattle.section_stream.specs.Plans.{segments_for}
use Rattle.section_plan.proofs.Counts.{raw_steps-append}

rest-of : {X : Type 0} (P : X → Type 0) (x : X) (xs : List X) → All P (x ∷ xs) → All P xs
rest-of P x xs h = λ k d l. h (suc k) d (omega arith)

pub raw-after : (g : Gear) (f end : ℕ) (xs : List Segment) → All (λ s. end ≤ s.start) xs → All (λ q. end ≤ q.tick) (raw_steps g f xs)
raw-after g f end [] h = All-nil (λ (q : Planned). end ≤ q.tick)
raw-after g f end (x ∷ xs) h =
    let own = steps-within g f x (range_with_len 1 (counts_passed g x x.before (x.before + x.d))) in
    let start = h 0 x (omega arith) in
    All-append (λ (q : Planned). end ≤ q.tick) (segment_steps g f x) (raw_steps g f xs)
    (λ k d l. (let w = own k d l in let from = w.after in omega arith))
    (raw-after g f end xs (rest-of (λ (s : Segment). end ≤ s.start) x xs h))

spaced-append : (b : ℕ) (xs ys : List Planned) → spaced b (xs ++ ys) ≡ spaced b xs ++ spaced (last_step_tick b (spaced b xs)) ys
spaced-append b [] ys = refl
spaced-append b (x ∷ xs) ys = ap (λ zs. record { tick = max x.tick (b + 4); up = x.up } ∷ zs) (spaced-append (max x.tick (b + 4)) xs ys)

-- steps that are not before a tick
spaced-later : (b low : ℕ) (xs : List Planned) → All (λ q. low ≤ q.tick) xs → All (λ q. low ≤ q.tick) (spaced b xs)
spaced-later b low [] h = All-nil (λ (q : Planned). low ≤ q.tick)
spaced-later b low (x ∷ xs) h =
    let first = h 0 x (omega arith) in
    All-cons (λ (q : Planned). low ≤ q.tick) (record { tick = max x.tick (b + 4); up = x.up }) (spaced (max x.tick (b + 4)) xs) (omega arith) (spaced-later (max x.tick (b + 4)) low xs (rest-of (λ (q : Planned). low ≤ q.tick) x xs h))

board-later : (clocks : Clocks) (t low : ℕ) (xs : List Planned) → ((n : ℕ) → t ≤ n → low ≤ lines_board clocks n) → All (λ q. t ≤ q.tick) xs → All (λ q. low ≤ q.tick) (map (on_board clocks) xs)
board-later clocks t low [] up h = All-nil (λ (q : Planned). low ≤ q.tick)
board-later clocks t low (x ∷ xs) up h = All-cons (λ (q : Planned). low ≤ q.tick) (on_board clocks x) (map (on_board clocks) xs) (up x.tick (h 0 x (omega arith))) (board-later clocks t low xs up (rest-of (λ (q : Planned). t ≤ q.tick) x xs h))

-- the planned steps behind those that were given, and that they are later where those are that are left
pub record HasRest (clocks : Clocks) (reach end : ℕ) (waiting out plan : List Planned) : Type 0 where
  pub rest : List Planned
  pub whole : plan ≡ out ++ rest
  pub later : (t low : ℕ) → ((next : List Planned) → All (λ q. end ≤ q.tick) next → All (λ q. t ≤ q.tick) (filtered reach (waiting ++ next))) → ((n : ℕ) → t ≤ n → low ≤ lines_board clocks n) → All (λ q. low ≤ q.tick) rest

pub steps-front : (gear : Gear) (clocks : Clocks) (reach end last_end last : ℕ) (waiting : List Planned) (base : ℕ) (segments more : List Segment) (asked : ℕ) (out : List Planned) → AreSteps gear clocks reach end last_end last waiting base segments asked out → All (λ s. end ≤ s.start) more
    → HasRest clocks reach end waiting out (planned_steps gear clocks (segments ++ more) base)
steps-front gear clocks reach end last_end last waiting base segments more asked out are later =
    let f = clocks.first.freq in
    let raw = raw_steps gear f segments in
    let new = raw_steps gear f more in
    let left = filtered reach (waiting ++ new) in
    let after = raw-after gear f end more later in
    let e = are.kept_is.whole new after in
    let all : filtered (cancel_reach f) (raw_steps gear f (segments ++ more)) ≡ are.kept ++ left = ap (filtered (cancel_reach f)) (raw_steps-append gear f segments more) ∙ ap (λ r. filtered r (raw ++ new)) (sym are.reach_is) ∙ e in
    let front = spaced base (map (on_board clocks) are.kept) in
    let tail = spaced (last_step_tick base front) (map (on_board clocks) left) in
    record {
      rest = tail;
      whole = ap (λ ks. spaced base (map (on_board clocks) ks)) all ∙ ap (spaced base) (map-append (on_board clocks) are.kept left) ∙ spaced-append base (map (on_board clocks) are.kept) (map (on_board clocks) left) ∙ ap (λ xs. xs ++ tail) (sym are.out_is);
      later = λ t low from up. spaced-later (last_step_tick base front) low (map (on_board clocks) left) (board-later clocks t low left up (from new after));
    }

pub segments-after : (drive : Drive) (line : Line) (end : ℕ) (more : List TimedPart) → drive.line ≡ line → All (λ t. end ≤ tick line t.begin) more → All (λ s. end ≤ s.start) (segments_for drive more)
segments-after drive line end [] is h = All-nil (λ (s : Segment). end ≤ s.start)
segments-after drive line end (t ∷ more) is h =
    let here : end ≤ tick drive.line t.begin = subst (λ (l : Line). end ≤ tick l t.begin) (sym is) (h 0 t (omega arith)) in
    All-cons (λ (s : Segment). end ≤ s.start) (segment_of drive.corexy drive.number drive.line t) (segments_for drive more) here (segments-after drive line end more is (rest-of (λ (u : TimedPart). end ≤ tick line u.begin) t more h))

pub parts-front : (gear : Gear) (clocks : Clocks) (drive : Drive) (reach end last_end last : ℕ) (waiting : List Planned) (base : ℕ) (parts more : List TimedPart) (asked : ℕ) (out : List Planned) → drive.line ≡ clocks.first → AreSteps gear clocks reach end last_end last waiting base (segments_for drive parts) asked out → All (λ t. end ≤ tick clocks.first t.begin) more
    → HasRest clocks reach end waiting out (planned_steps gear clocks (segments_for drive (parts ++ more)) base)
parts-front gear clocks drive reach end last_end last waiting base parts more asked out is are later =
    let r = steps-front gear clocks reach end last_end last waiting base (segments_for drive parts) (segments_for drive more) asked out are (segments-after drive clocks.first end more is later) in
    record { rest = r.rest; whole = ap (λ ss. planned_steps gear clocks ss base) (map-append (segment_of drive.corexy drive.number drive.line) parts more) ∙ r.whole; later = r.later }

-- parts begin in their order
chosen : (b : Bool) (P : TimedPart → Type 0) (xs ys : List TimedPart) → All P xs → All P ys → All P (cond b xs ys)
chosen true P xs ys h k = h
chosen false P xs ys h k = k

pub timed-after : (m : Move) (before begin low : ℕ) (ps : List Part) → low ≤ begin → All (λ t. low ≤ t.begin) (timed m before begin ps)
timed-after m before begin low [] h = All-nil (λ (t : TimedPart). low ≤ t.begin)
timed-after m before begin low (p ∷ ps) h =
    let later = timed-after m (before + p.d) (begin + p.ns) low ps (omega arith) in
    chosen (eqb p.d 0) (λ (t : TimedPart). low ≤ t.begin) (timed m (before + p.d) (begin + p.ns) ps) (record { move = m; part = p; before = before; begin = begin } ∷ timed m (before + p.d) (begin + p.ns) ps) later
    (All-cons (λ (t : TimedPart). low ≤ t.begin) (record { move = m; part = p; before = before; begin = begin }) (timed m (before + p.d) (begin + p.ns) ps) h later)

pub moves-after : (cruise : ℕ) (moves : List Move) (speeds : List ℕ) (begin low : ℕ) → low ≤ begin → All (λ t. low ≤ t.begin) (timed_moves cruise moves speeds begin)
moves-after cruise [] speeds begin low h = All-nil (λ (t : TimedPart). low ≤ t.begin)
moves-after cruise (m ∷ ms) [] begin low h = All-nil (λ (t : TimedPart). low ≤ t.begin)
moves-after cruise (m ∷ ms) (g ∷ []) begin low h = All-nil (λ (t : TimedPart). low ≤ t.begin)
moves-after cruise (m ∷ ms) (g ∷ k ∷ speeds) begin low h =
    All-append (λ (t : TimedPart). low ≤ t.begin) (timed m 0 begin (parts m g k cruise)) (timed_moves cruise ms (k ∷ speeds) (begin + duration (parts m g k cruise)))
    (timed-after m 0 begin low (parts m g k cruise) h) (moves-after cruise ms (k ∷ speeds) (begin + duration (parts m g k cruise)) low (omega arith))

-- ticks in the windows of pieces
in-append : (e b : ℕ) (ticks others : List ℕ) (xs ys : List Planned) → AreInWindows ticks (open_windows e b xs) → AreInWindows others (open_windows e (last_step_tick b xs) ys) → AreInWindows (ticks ++ others) (open_windows e b (xs ++ ys))
in-append e b [] others [] ys h k = k
in-append e b [] others (x ∷ xs) ys h k = absurd (nil-cons h)
  where
    nil-cons : {w : Window} {ws : List Window} → w ∷ ws ≡ [] → ⊥
    nil-cons x = cc
in-append e b (t ∷ ticks) others [] ys h k = absurd h
in-append e b (t ∷ ticks) others (x ∷ xs) ys h k = (h.0, h.1, in-append e x.tick ticks others xs ys h.2 k)

ticks-append : (xs ys : List Placed) → placed_ticks (xs ++ ys) ≡ placed_ticks xs ++ placed_ticks ys
ticks-append [] ys = refl
ticks-append (x ∷ xs) ys = ap (λ ts. ticks_of x.first x.triple ++ ts) (ticks-append xs ys) ∙ sym (append_assoc (ticks_of x.first x.triple) (placed_ticks xs) (placed_ticks ys))

pub pieces-within : (e base : ℕ) (ps : List Piece) → ArePieces e base ps → AreInWindows (placed_ticks (placed_in ps)) (open_windows e base (steps_in ps))
pieces-within e base [] h = refl
pieces-within e base (p ∷ ps) h =
    let here = within_open e base p.steps (placed_ticks p.placed) (placed_within base (windows_of e base p.steps) p.placed h.0) in
    let later = pieces-within e (last_step_tick base p.steps) ps h.2 in
    subst (λ ts. AreInWindows ts (open_windows e base (p.steps ++ steps_in ps))) (sym (ticks-append p.placed (placed_in ps))) (in-append e base (placed_ticks p.placed) (placed_ticks (placed_in ps)) p.steps (steps_in ps) here later)

-- pulses in open windows fit
pub open-fits : (freq b : ℕ) (pulses : List Pulse) (steps : List Planned) → AreInWindows (map (λ p. p.tick) pulses) (open_windows (max_error freq) b steps) → map (λ p. p.up) pulses ≡ map (λ s. s.up) steps → Fits freq b pulses steps
open-fits freq b [] steps h k = tt
open-fits freq b (p ∷ pulses) [] h k = absurd h
open-fits freq b (p ∷ pulses) (s ∷ steps) h k =
    (record { direction = head-up k; not_early = h.0; not_late = h.1 }, open-fits freq s.tick pulses steps h.2 (tail-up k))
  where
    head-up : {x y : Bool} {xs ys : List Bool} → x ∷ xs ≡ y ∷ ys → x ≡ y
    head-up e = cc

    tail-up : {x y : Bool} {xs ys : List Bool} → x ∷ xs ≡ y ∷ ys → xs ≡ ys
    tail-up e = cc

-- the steps that are kept are those that were given, and those that are left
kept-all : (gear : Gear) (clocks : Clocks) (reach end last_end last : ℕ) (waiting : List Planned) (base : ℕ) (segments : List Segment) (asked : ℕ) (out : List Planned) → (are : AreSteps gear clocks reach end last_end last waiting base segments asked out) → filtered (cancel_reach clocks.first.freq) (raw_steps gear clocks.first.freq segments) ≡ are.kept ++ filtered reach waiting
kept-all gear clocks reach end last_end last waiting base segments asked out are =
    let f = clocks.first.freq in
    let raw = raw_steps gear f segments in
    let e = are.kept_is.whole [] (All-nil (λ (q : Planned). end ≤ q.tick)) in
    ap (λ r. filtered r raw) (sym are.reach_is) ∙ ap (filtered reach) (sym (append-nil raw)) ∙ e ∙ ap (λ ws. are.kept ++ filtered reach ws) (append-nil waiting)

-- where none is left, all steps were given
pub steps-whole : (gear : Gear) (clocks : Clocks) (reach end last_end last : ℕ) (waiting : List Planned) (base : ℕ) (segments : List Segment) (asked : ℕ) (out : List Planned) → AreSteps gear clocks reach end last_end last waiting base segments asked out → filtered reach waiting ≡ [] → out ≡ planned_steps gear clocks segments base
steps-whole gear clocks reach end last_end last waiting base segments asked out are none =
    let all = kept-all gear clocks reach end last_end last waiting base segments asked out are ∙ ap (λ xs. are.kept ++ xs) none ∙ append-nil are.kept in
    are.out_is ∙ ap (λ ks. spaced base (map (on_board clocks) ks)) (sym all)

-- steps of a plan that were given, and those behind them
pub record AreBehind (plan out : List Planned) : Type 0 where
  pub step : Planned
  pub rest : List Planned
  pub are : plan ≡ out ++ step ∷ rest

-- where one is left, it stands behind those that were given
pub steps-left : (gear : Gear) (clocks : Clocks) (reach end last_end last : ℕ) (waiting : List Planned) (base : ℕ) (segments : List Segment) (asked : ℕ) (out : List Planned) → AreSteps gear clocks reach end last_end last waiting base segments asked out → 0 < length (filtered reach waiting) → AreBehind (planned_steps gear clocks segments base) out
steps-left gear clocks reach end last_end last waiting base segments asked out are some =
    go (filtered reach waiting) some (kept-all gear clocks reach end last_end last waiting base segments asked out are)
  where
    go : (left : List Planned) → 0 < length left → filtered (cancel_reach clocks.first.freq) (raw_steps gear clocks.first.freq segments) ≡ are.kept ++ left → AreBehind (planned_steps gear clocks segments base) out
    go [] more all = absurd (omega arith)
    go (x ∷ xs) more all =
        let front = spaced base (map (on_board clocks) are.kept) in
        let b = last_step_tick base front in
        let t = max (on_board clocks x).tick (b + 4) in
        let one : planned_steps gear clocks segments base ≡ front ++ spaced b (map (on_board clocks) (x ∷ xs)) = ap (λ ks. spaced base (map (on_board clocks) ks)) all ∙ ap (spaced base) (map-append (on_board clocks) are.kept (x ∷ xs)) ∙ spaced-append base (map (on_board clocks) are.kept) (map (on_board clocks) (x ∷ xs)) in
        record {
          step = record { tick = t; up = x.up };
          rest = spaced t (map (on_board clocks) xs);
          are = one ∙ ap (λ ks. ks ++ spaced b (map (on_board clocks) (x ∷ xs))) (sym are.out_is);
        }

-- the steps that are held, and those behind them
pub held-left : (plan out packed held : List Planned) → AreBehind plan out → out ≡ packed ++ held → AreBehind plan packed
held-left plan out packed [] left is = record { step = left.step; rest = left.rest; are = left.are ∙ ap (λ xs. xs ++ left.step ∷ left.rest) (is ∙ append-nil packed) }
held-left plan out packed (h ∷ held) left is = record { step = h; rest = held ++ left.step ∷ left.rest; are = left.are ∙ ap (λ xs. xs ++ left.step ∷ left.rest) is ∙ append_assoc packed (h ∷ held) (left.step ∷ left.rest) }

pub held-some : (plan out packed held : List Planned) → plan ≡ out → out ≡ packed ++ held → (held ≡ [] → ⊥) → AreBehind plan packed
held-some plan out packed [] same is some = absurd (some refl)
held-some plan out packed (h ∷ held) same is some = record { step = h; rest = held; are = same ∙ is }

-- where no step is held, all that were pushed are packed
pub held-none : (pushed : List Planned) (packed held : List Planned) → pushed ≡ packed ++ held → held ≡ [] → packed ≡ pushed
held-none pushed packed held is none = sym (is ∙ ap (λ hs. packed ++ hs) none ∙ append-nil packed)
