-- What a section has released ends before the turn up to which its boards are packed.
use Rattle.std.proofs.Common.{◌≡◌, ℕ, ◌+◌, ◌*◌, ◌<◌, Bool, false, List, [], ◌∷◌, ◌++◌, All, length, get_or, arith, ap, sym, ◌∙◌, subst, refl, inl, inr}
use Rattle.std.proofs.Math.Logic.{∥∥₁_elim}
use Rattle.std.proofs.Props.{props}
use Rattle.std.proofs.lemmas.Bool.Decides.{leb_tells}
use Rattle.std.proofs.lemmas.List.{append-nil}
use Rattle.std.proofs.lemmas.List.Elements.{All-nil}
use Rattle.plan_types.specs.declared.machine.Machine.{Machine}
use Rattle.plan_types.specs.declared.plan.Move.{Move}
use Rattle.plan_types.specs.declared.plan.Planned.{Planned}
use Rattle.plan_types.specs.Clock.{turn_ns}
use Rattle.plan_types.specs.Lines.{Clocks, lines_tick}
use Rattle.plan_types.specs.Machines.{board_at}
use Rattle.plan_types.specs.Plan.{AreSpaced}
use Rattle.plan_types.specs.Sections.{TimedPart, clocks_at}
use Rattle.clock_line.proofs.Turns.{tick_over-mono}
use Rattle.step_feed.specs.declared.stream.FeedStream.{FeedStream}
use Rattle.step_feed.specs.Pacing.{Release, units_of}
use Rattle.section_units.specs.Fronts.{AreFirstOfBy}
use Rattle.section_units.specs.Sections.{steps_said, of_stepper}
use Rattle.section_units.proofs.Fronting.{first_front}
use Rattle.section_stream.specs.declared.stepper.StepperStream.{StepperStream}
use Rattle.section_stream.specs.Pieces.{steps_in}
use Rattle.section_stream.specs.Plans.{stream_lines}
use Rattle.section_stream.specs.Steppers.{StepperKind}
use Rattle.section_stream.proofs.Making.{made-first}
use Rattle.section_stream.proofs.Stretches.{spaced-split}
use Rattle.section_feed.specs.declared.board.BoardStream.{BoardStream}
use Rattle.section_feed.specs.declared.section.SectionStream.{SectionStream}
use Rattle.section_feed.specs.Boards.{AreUpTo}
use Rattle.section_feed.specs.Feeding.{AreFeeding}
use Rattle.section_feed.specs.Going.{most_ahead}
use Rattle.section_feed.specs.On.{IsSectionOn}
use Rattle.section_feed.specs.Sections.{boards_in, boards_of, next_of}
use Rattle.section_feed.specs.Sets.{BoardSet}
use Rattle.section_feed.specs.Wholes.{IsSetTo}
use Rattle.section_feed.proofs.Ends.{set-of}
use Rattle.section_feed.proofs.Following.{set-to}
use Rattle.section_feed.proofs.Fronting.{none-front}
use Rattle.section_feed.proofs.Staying.{IsEarly, IsReleaseEarly, begun-early, fits-before, of-each, releases-early}
use Rattle.section_units.proofs.Merging.{of_append}

-- of a stepper that is packed up to a turn
stepper-early : (homing : Bool) (clocks : Clocks) (goes : Bool) (time turn : ℕ) (steppers : List StepperStream) (feed : FeedStream) (order freq : ℕ) (kinds : ℕ → StepperKind) (base : ℕ) (parts : List TimedPart) (released : List Release) (d : StepperStream) (oid : ℕ) → oid < length steppers → AreUpTo clocks goes time turn steppers → ((k : ℕ) → k < length steppers → IsSetTo homing freq base (kinds k))
    → AreFeeding steppers feed clocks order kinds base parts released → All (IsEarly (lines_tick clocks (turn * turn_ns))) (of_stepper oid (units_of released))
stepper-early homing clocks goes time turn steppers fed order freq kinds base parts released d oid h up set f =
    let one = get_or steppers oid d in
    let here = up.each oid d h in
    let kind = f.kinds_are.each oid d h in
    let given = f.given.each oid d h in
    let is = set oid h in
    let packed = given.stepper.packed in
    let bound = lines_tick clocks (turn * turn_ns) in
    let steps = steps_in given.pieces in
    let units = of_stepper oid (units_of released) in
    let waiting = of_stepper oid fed.waiting.items in
    let by : All (λ q. q.tick < lines_tick clocks (one.turn * turn_ns)) steps = subst (λ (c : Clocks). All (λ (q : Planned). q.tick < lines_tick c (one.turn * turn_ns)) steps) here.clocks_are given.stepper.early in
    let before : All (λ q. q.tick < bound) steps = subst (λ n. All (λ (q : Planned). q.tick < lines_tick clocks (n * turn_ns)) steps) here.packed by in
    let spaced = (spaced-split base steps _ (subst (AreSpaced base) packed.split packed.spaced)).0 in
    let all = made-first homing (stream_lines one.steps) one.pack.oid freq base one.pack.reset one.pack.max_error steps [] [] steps given.pieces (of_stepper oid f.units) one.pack.units.items (ap (λ (k : StepperKind). k.reset) kind ∙ is.reset) (ap (λ (k : StepperKind). k.early) kind ∙ is.early) spaced packed.packed (sym (append-nil steps)) (sym (append-nil steps)) packed.units_are in
    let split : of_stepper oid f.units ≡ units ++ waiting = ap (of_stepper oid) f.fed.pushed_is ∙ of_append oid (units_of released) fed.waiting.items in
    let first = first_front homing (stream_lines one.steps) freq one.pack.oid base steps units waiting (subst (AreFirstOfBy homing (stream_lines one.steps) freq one.pack.oid base steps) split all) in
    begun-early homing (stream_lines one.steps) base bound one.pack.oid units first.begun (fits-before freq base bound (steps_said one.pack.oid false units) steps first.fits before)

steppers-early : (homing : Bool) (clocks : Clocks) (goes : Bool) (time turn : ℕ) (steppers : List StepperStream) (feed : FeedStream) (order freq : ℕ) (kinds : ℕ → StepperKind) (base : ℕ) (parts : List TimedPart) (released : List Release) → AreUpTo clocks goes time turn steppers → ((k : ℕ) → k < length steppers → IsSetTo homing freq base (kinds k))
    → AreFeeding steppers feed clocks order kinds base parts released → All (IsReleaseEarly (lines_tick clocks (turn * turn_ns))) released
steppers-early homing clocks goes time turn steppers fed order freq kinds base parts released up set f =
    let bound = lines_tick clocks (turn * turn_ns) in
    releases-early bound released (of-each (IsEarly bound) (units_of released) (λ oid. elim (leb_tells (length steppers) oid) as (λ _. All (IsEarly bound) (of_stepper oid (units_of released))) [
      | inl p ↦ (let none = none-front (of_stepper oid (units_of released)) (of_stepper oid fed.waiting.items) (sym (ap (of_stepper oid) f.fed.pushed_is ∙ of_append oid (units_of released) fed.waiting.items) ∙ f.given.others oid p.1) in subst (All (IsEarly bound)) (sym none) (All-nil (IsEarly bound)))
      | inr p ↦ (let h = p.1 in here steppers oid (omega (arith, h)) refl)
    ]))
  where
    here : (ss : List StepperStream) (oid : ℕ) → oid < length ss → ss ≡ steppers → All (IsEarly (lines_tick clocks (turn * turn_ns))) (of_stepper oid (units_of released))
    here [] oid h is = absurd (omega arith)
    here (s ∷ ss) oid h is = stepper-early homing clocks goes time turn steppers fed order freq kinds base parts released s oid (subst (λ (xs : List StepperStream). oid < length xs) is h) up set f

-- on the boards of a section, which are packed no further ahead of its next turn
pub section-soon : (m : Machine) (clocks : List Clocks) (turn : ℕ) (homing : Bool) (s : SectionStream) (moves : List Move) (released : ℕ → List Release) (b : ℕ) → IsSectionOn m clocks turn homing s moves released → b < length m.boards → All (λ r. r.unit.last < lines_tick (clocks_at clocks b) ((next_of s + most_ahead) * turn_ns)) (released b)
section-soon m clocks turn homing s moves released b on h = go s.boards.items refl
  where
    go : (boards : List BoardStream) → boards ≡ s.boards.items → All (λ r. r.unit.last < lines_tick (clocks_at clocks b) ((next_of s + most_ahead) * turn_ns)) (released b)
    go [] is = absurd (let l = ap (λ (bs : List BoardStream). length bs) is in let n = on.boards in omega arith)
    go (x ∷ xs) is =
        let count = on.boards in
        let inside : b < boards_of s = omega arith in
        let one = get_or (boards_in s) b x in
        let near = (s.turns b x inside).near in
        let later = (next_of s + most_ahead) * turn_ns in
        let set = set-of m clocks turn homing s moves released b x on inside in
        let up = tick_over-mono one.lines.first 0 one.lines.held (one.turn * turn_ns) later (omega (arith, near)) in
        let early : All (IsReleaseEarly (lines_tick one.lines (one.turn * turn_ns))) (released b) = ∥∥₁_elim one.up_to (hlevel props) (λ up_to. ∥∥₁_elim (on.section.boards.each b x inside) (hlevel props) (steppers-early homing one.lines one.goes one.time one.turn one.steppers.items one.feed one.order (board_at m b).freq _ _ on.section.parts (released b) up_to (λ k l. set-to m clocks turn homing s moves released b k on h))) in
        subst (λ (c : Clocks). All (λ (r : Release). r.unit.last < lines_tick c later) (released b)) (ap (λ (x : BoardSet). x.clocks) set) (λ k d l. (let e = (early k d l).1 in omega (arith, e, up)))
