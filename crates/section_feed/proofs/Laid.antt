-- Where the last steps of a section are that are packed.
use Rattle.std.proofs.Common.{◌≡◌, ℕ, ◌+◌, ◌-◌, ◌*◌, ◌<◌, ◌≤◌, Bool, Option, Some, None, List, [], ◌∷◌, All, refl, length, map, get_or, arith, subst}
use Rattle.std.proofs.Math.Logic.{∥∥₁_elim}
use Rattle.std.proofs.Props.{props}
use Rattle.std.proofs.lemmas.List.Elements.{All-tail}
use Rattle.std.proofs.lemmas.List.FromFn.{get_or-map-range_with_len, length-map-range_with_len}
use Rattle.step_ticks.specs.Streaming.{last_step_tick}
use Rattle.plan_types.specs.declared.machine.Machine.{Machine}
use Rattle.plan_types.specs.declared.plan.Move.{Move}
use Rattle.plan_types.specs.declared.plan.Planned.{Planned}
use Rattle.plan_types.specs.Clock.{turn_ns}
use Rattle.plan_types.specs.Lines.{Clocks, lines_tick}
use Rattle.plan_types.specs.Sections.{TimedPart, for_each_stepper, latest, stepper_end}
use Rattle.clock_line.proofs.Turns.{turn-below}
use Rattle.step_feed.specs.Pacing.{Release}
use Rattle.step_feed.specs.declared.stream.FeedStream.{FeedStream}
use Rattle.section_stream.specs.declared.stepper.StepperStream.{StepperStream}
use Rattle.section_stream.specs.Pieces.{IsLastOf, steps_in}
use Rattle.section_stream.specs.Plans.{stream_lines}
use Rattle.section_stream.specs.Steppers.{StepperKind, packed_step}
use Rattle.section_stream.proofs.Packed.{last-told}
use Rattle.section_feed.specs.declared.section.SectionStream.{SectionStream}
use Rattle.section_feed.specs.AllBoards.{ArePast, latest_packed}
use Rattle.section_feed.specs.Boards.{AreUpTo}
use Rattle.section_feed.specs.Feeding.{AreFeeding}
use Rattle.section_feed.specs.Going.{most_ahead}
use Rattle.section_feed.specs.On.{IsSectionOn}
use Rattle.section_units.specs.Sections.{of_stepper}
use Rattle.section_feed.specs.Queues.{IsDrawn}
use Rattle.section_feed.specs.Released.{last_in}
use Rattle.section_feed.specs.Sections.{boards_in, next_of, queue_of}
use Rattle.section_feed.specs.Wholes.{turn_where}
use Rattle.section_feed.proofs.Ends.{end-above, map-same}
use Rattle.section_feed.proofs.Lasting.{latest-within}

-- the last one of some steps is as they all are
last-all : (P : ℕ → Type 0) (before : ℕ) (steps : List Planned) → (steps ≡ [] → ⊥) → All (λ q. P q.tick) steps → P (last_step_tick before steps)
last-all P before [] some all = absurd (some refl)
last-all P before (s ∷ []) some all = all 0 s (omega arith)
last-all P before (s ∷ t ∷ steps) some all = last-all P s.tick (t ∷ steps) (λ e. cc) (All-tail (λ (q : Planned). P q.tick) s (t ∷ steps) all)

last-laid : (clocks : Clocks) (turn before : ℕ) (o : Option ℕ) (steps : List Planned) → 0 < turn → IsLastOf o before steps → All (λ q. q.tick < lines_tick clocks (turn * turn_ns)) steps → turn_where clocks o < turn
last-laid clocks turn before None steps some last early = some
last-laid clocks turn before (Some t) steps some last early =
    let at : last_step_tick before steps < lines_tick clocks (turn * turn_ns) = last-all (λ n. n < lines_tick clocks (turn * turn_ns)) before steps last.1 early in
    let same = last.0 in
    let e : turn - 1 + 1 ≡ turn = omega arith in
    let here : t < lines_tick clocks (turn * turn_ns) = omega arith in
    let below = turn-below clocks t (turn - 1) (rw e here) in
    omega arith

stepper-laid : (clocks : Clocks) (goes : Bool) (time turn : ℕ) (steppers : List StepperStream) (feed : FeedStream) (order : ℕ) (kinds : ℕ → StepperKind) (base : ℕ) (parts : List TimedPart) (released : List Release) → AreUpTo clocks goes time turn steppers → AreFeeding steppers feed clocks order kinds base parts released → 0 < turn
    → (k : ℕ) (d : StepperStream) → k < length steppers → turn_where clocks (packed_step (get_or steppers k d)) < turn
stepper-laid clocks goes time turn steppers feed order kinds base parts released up f some k d h =
    let one = get_or steppers k d in
    let here = up.each k d h in
    let given = f.given.each k d h in
    let s = given.stepper in
    let last : IsLastOf (packed_step one) base (steps_in given.pieces) = last-told (stream_lines one.steps) one.pack.oid one.pack.max_error one.pack.last one.pack.up one.pack.reset one.pack.held.items one.pack.units.items base _ given.pieces (of_stepper k f.units) s.packed in
    let by : All (λ q. q.tick < lines_tick clocks (one.turn * turn_ns)) (steps_in given.pieces) = subst (λ (c : Clocks). All (λ (q : Planned). q.tick < lines_tick c (one.turn * turn_ns)) (steps_in given.pieces)) here.clocks_are s.early in
    last-laid clocks turn base (packed_step one) (steps_in given.pieces) some last (subst (λ n. All (λ (q : Planned). q.tick < lines_tick clocks (n * turn_ns)) (steps_in given.pieces)) here.packed by)

boards-laid : (m : Machine) (clocks : List Clocks) (turn : ℕ) (homing : Bool) (s : SectionStream) (moves : List Move) (released : ℕ → List Release) → IsSectionOn m clocks turn homing s moves released → latest_packed (boards_in s) ≤ next_of s + 259
boards-laid m clocks turn homing s moves released on =
    latest-within last_in (boards_in s) (next_of s + 259) (λ b d inside. (
    let one = get_or (boards_in s) b d in
    let at = s.turns b d inside in
    let near = at.near in
    let next = at.next in
    let lead = one.near in
    latest-within (λ t. turn_where one.lines (packed_step t)) one.steppers.items (next_of s + 259) (λ k t h. (
    ∥∥₁_elim one.up_to (hlevel props) (λ up. ∥∥₁_elim (on.section.boards.each b d inside) (hlevel props) (λ f. (
    let laid = stepper-laid one.lines one.goes one.time one.turn one.steppers.items one.feed one.order _ _ on.section.parts (released b) up f (omega arith) k t h in
    omega arith)))))))

-- and so are those of all plans
pub section-laid : (m : Machine) (clocks : List Clocks) (turn : ℕ) (homing : Bool) (s : SectionStream) (moves : List Move) (released : ℕ → List Release) (e : ℕ) → IsSectionOn m clocks turn homing s moves released → IsDrawn (queue_of s) → ArePast e (boards_in s)
    → latest (for_each_stepper m (stepper_end m clocks moves turn)) < next_of s + most_ahead
section-laid m clocks turn homing s moves released e on drawn past =
    let f = stepper_end m clocks moves turn in
    let steppers = length m.steppers in
    let all = for_each_stepper m f in
    let long = length-map-range_with_len f 0 steppers in
    let same : map (λ (x : ℕ). x) all ≡ all = map-same all in
    let laid = boards-laid m clocks turn homing s moves released on in
    let within = latest-within (λ (x : ℕ). x) all (next_of s + 259) (λ i d h. (let q = get_or-map-range_with_len f 0 steppers i i d (omega arith) (omega arith) in let a = end-above m clocks turn homing s moves released e i on drawn past (omega arith) in omega arith)) in
    let most : latest all ≤ next_of s + 259 = rw same at within in
    omega arith
