-- A board whose units are all released.
use Rattle.std.proofs.Common.{◌≡◌, ℕ, ◌*◌, ◌<◌, ◌≤◌, Option, Some, None, List, [], ◌∷◌, ◌++◌, All, length, get_or, arith, ap, sym, ◌∙◌, subst, Bool, refl}
use Rattle.std.proofs.Math.Logic.{∥∥₁_map, ∥∥₁_elim, ∥∥₁_prop}
use Rattle.std.proofs.Props.{props}
use Rattle.std.proofs.lemmas.List.{append-nil}
use Rattle.step_ticks.specs.Streaming.{last_step_tick}
use Rattle.section_units.specs.Sections.{of_stepper}
use Rattle.plan_types.specs.Lines.{Clocks, lines_tick}
use Rattle.plan_types.specs.Plan.{AreSpaced}
use Rattle.plan_types.specs.Sections.{TimedPart}
use Rattle.step_feed.specs.declared.stream.FeedStream.{FeedStream}
use Rattle.step_feed.specs.Pacing.{Release, units_of}
use Rattle.step_feed.specs.Streams.{stream_start, slots_of}
use Rattle.section_units.specs.Packed.{ArePackedBy}
use Rattle.section_stream.specs.declared.stepper.StepperStream.{StepperStream}
use Rattle.section_stream.specs.Plans.{stream_lines}
use Rattle.section_stream.specs.Steppers.{StepperKind, stepper_clocks, kind_of, packed_step}
use Rattle.section_feed.specs.Ordering.{AreInOrderFrom}
use Rattle.section_feed.specs.Boards.{AreUpTo}
use Rattle.section_feed.specs.Feeding.{AreFeeding}
use Rattle.section_feed.specs.Wholes.{AreDone, ArePast, IsBefore, IsOver, IsReleased, IsSetTo, sent_plan}
use Rattle.section_stream.specs.Pieces.{IsLastOf, steps_in}
use Rattle.section_stream.proofs.Packed.{last-told}
use Rattle.section_stream.proofs.Stretches.{last-after}
use Rattle.section_units.specs.Units.{as_sent}
use Rattle.std.proofs.lemmas.List.Elements.{All-cons, All-nil}
use Rattle.plan_types.specs.declared.plan.Planned.{Planned}
use Rattle.plan_types.specs.Clock.{turn_ns}

done-released : (homing : Bool) (clocks : Clocks) (goes : Bool) (time turn : ℕ) (steppers : List StepperStream) (feed : FeedStream) (order freq : ℕ) (kinds : ℕ → StepperKind) (base : ℕ) (parts : List TimedPart) (released : List Release) → AreUpTo clocks goes time turn steppers → AreDone steppers → feed.waiting.items ≡ [] → ((k : ℕ) → k < length steppers → IsSetTo homing freq base (kinds k))
    → AreFeeding steppers feed clocks order kinds base parts released → IsReleased homing clocks freq (slots_of feed) (stream_start feed) base kinds (length steppers) parts released
done-released homing clocks goes time turn [] feed order freq kinds base parts released up done empty set f =
    let units : f.units ≡ units_of released = f.fed.pushed_is ∙ ap (λ us. units_of released ++ us) empty ∙ append-nil (units_of released) in
    record {
      packed = λ oid h. absurd (omega arith);
      others = λ oid h. ap (of_stepper oid) (sym units) ∙ f.given.others oid h;
      in_order = subst (AreInOrderFrom 0) units f.in_order;
      paced = f.fed.paced;
    }
done-released homing clocks goes time turn (s ∷ ss) feed order freq kinds base parts released up done empty set f =
    let steppers = s ∷ ss in
    let units : f.units ≡ units_of released = f.fed.pushed_is ∙ ap (λ us. units_of released ++ us) empty ∙ append-nil (units_of released) in
    record {
      packed = λ oid h. (
          let one = get_or steppers oid s in
          let here = up.each oid s h in
          let kind = f.kinds_are.each oid s h in
          let given = f.given.each oid s h in
          let is = set oid h in
          let r = done.each oid s h homing freq base parts given.out given.pieces (of_stepper oid f.units) (ap (λ (k : StepperKind). k.reset) kind ∙ is.reset) (ap (λ (k : StepperKind). k.early) kind ∙ is.early) given.stepper in
          let a = subst (λ (k : Clocks). ArePackedBy homing k freq (kind_of one).oid base (sent_plan (kind_of one) k base parts) (of_stepper oid f.units)) here.clocks_are r in
          let b = subst (λ o. ArePackedBy homing clocks freq o base (sent_plan (kind_of one) clocks base parts) (of_stepper oid f.units)) here.number a in
          let c = subst (λ (k : StepperKind). ArePackedBy homing clocks freq oid base (sent_plan k clocks base parts) (of_stepper oid f.units)) kind b in
          subst (λ us. ArePackedBy homing clocks freq oid base (sent_plan (kinds oid) clocks base parts) (of_stepper oid us)) units c);
      others = λ oid h. ap (of_stepper oid) (sym units) ∙ f.given.others oid h;
      in_order = subst (AreInOrderFrom 0) units f.in_order;
      paced = f.fed.paced;
    }

pub board-done : (homing : Bool) (clocks : Clocks) (goes : Bool) (time turn : ℕ) (steppers : List StepperStream) (feed : FeedStream) (order freq : ℕ) (kinds : ℕ → StepperKind) (base : ℕ) (parts : List TimedPart) (released : List Release) → ∥ AreUpTo clocks goes time turn steppers ∥₁ → AreDone steppers → feed.waiting.items ≡ [] → ((k : ℕ) → k < length steppers → IsSetTo homing freq base (kinds k))
    → ∥ AreFeeding steppers feed clocks order kinds base parts released ∥₁ → ∥ IsReleased homing clocks freq (slots_of feed) (stream_start feed) base kinds (length steppers) parts released ∥₁
board-done homing clocks goes time turn steppers feed order freq kinds base parts released up done empty set was =
    ∥∥₁_elim up ∥∥₁_prop (λ u. ∥∥₁_map was (done-released homing clocks goes time turn steppers feed order freq kinds base parts released u done empty set))

pub before-later : (clocks : Clocks) (turn later t : ℕ) → turn ≤ later → IsBefore clocks turn t → IsBefore clocks later t
before-later clocks turn later t h is = record { before = λ j l. is.before j (omega arith) }

-- steps that are spaced are at most the last one
pub spaced-last : (b : ℕ) (steps : List Planned) → AreSpaced b steps → All (λ q. q.tick ≤ last_step_tick b steps) steps
spaced-last b [] h = All-nil (λ (q : Planned). q.tick ≤ b)
spaced-last b (s ∷ steps) h = All-cons (λ (q : Planned). q.tick ≤ last_step_tick s.tick steps) s steps (last-after s.tick steps h.1) (spaced-last s.tick steps h.1)

pub over-later : (clocks : Clocks) (turn later : ℕ) (o : Option ℕ) → turn ≤ later → IsOver clocks turn o → IsOver clocks later o
over-later clocks turn later None order is = tt
over-later clocks turn later (Some t) order is = before-later clocks turn later t order is

past-within : (clocks : Clocks) (turn j base : ℕ) (o : Option ℕ) (steps : List Planned) → turn < j → IsOver clocks turn o → IsLastOf o base steps → AreSpaced base steps → All (λ q. q.tick < lines_tick clocks (j * turn_ns)) steps
past-within clocks turn j base None steps later is last spaced = subst (All (λ (q : Planned). q.tick < lines_tick clocks (j * turn_ns))) (sym last) (All-nil (λ (q : Planned). q.tick < lines_tick clocks (j * turn_ns)))
past-within clocks turn j base (Some t) steps later is last spaced =
    let h = is.before j later in
    let same = last.0 in
    let at = spaced-last base steps spaced in
    λ k d l. (let a = at k d l in omega arith)

-- what a stepper of a board has planned and packed
record IsPacked (clocks : Clocks) (end base place : ℕ) (last : Option ℕ) (kinds : ℕ → StepperKind) (parts : List TimedPart) : Type 0 where
  pub within : (j : ℕ) → end < j → All (λ q. q.tick < lines_tick clocks (j * turn_ns)) (sent_plan (kinds place) clocks base parts)
  pub last_is : IsLastOf last base (sent_plan (kinds place) clocks base parts)

board-packed : (clocks : Clocks) (goes : Bool) (time turn : ℕ) (steppers : List StepperStream) (feed : FeedStream) (order end : ℕ) (kinds : ℕ → StepperKind) (base : ℕ) (parts : List TimedPart) (released : List Release) → AreUpTo clocks goes time turn steppers → ArePast clocks end steppers → AreFeeding steppers feed clocks order kinds base parts released
    → (oid : ℕ) (d : StepperStream) → oid < length steppers → IsPacked clocks end base oid (packed_step (get_or steppers oid d)) kinds parts
board-packed clocks goes time turn steppers feed order end kinds base parts released up past f oid d h =
    let one = get_or steppers oid d in
    let here = up.each oid d h in
    let kind = f.kinds_are.each oid d h in
    let given = f.given.each oid d h in
    let whole = past.whole oid d h base parts given.out given.pieces (of_stepper oid f.units) given.stepper in
    let packed = given.stepper.packed in
    let steps : steps_in given.pieces ≡ sent_plan (kind_of one) (stepper_clocks one) base parts = whole.1 ∙ ap (as_sent (kind_of one).inverted) whole.0 in
    let same : steps_in given.pieces ≡ sent_plan (kinds oid) clocks base parts = steps ∙ ap (λ (k : Clocks). sent_plan (kind_of one) k base parts) here.clocks_are ∙ ap (λ (k : StepperKind). sent_plan k clocks base parts) kind in
    let spaced : AreSpaced base (steps_in given.pieces) = subst (AreSpaced base) (sym whole.1) packed.spaced in
    let last : IsLastOf (packed_step one) base (steps_in given.pieces) = last-told (stream_lines one.steps) one.pack.oid one.pack.max_error one.pack.last one.pack.up one.pack.reset one.pack.held.items one.pack.units.items base _ given.pieces (of_stepper oid f.units) packed in
    record {
      within = λ j later. subst (All (λ (q : Planned). q.tick < lines_tick clocks (j * turn_ns))) same (past-within clocks end j base (packed_step one) (steps_in given.pieces) later (past.before oid d h) last spaced);
      last_is = subst (IsLastOf (packed_step one) base) same last;
    }

last-prop : (o : Option ℕ) (base : ℕ) (steps : List Planned) (x y : IsLastOf o base steps) → x ≡ y
last-prop None base steps x y = hlevel props
last-prop (Some t) base steps x y = hlevel props

-- what all of them have, whatever stands for none
pub record ArePackedTo (clocks : Clocks) (end : ℕ) (steppers : List StepperStream) (feed : FeedStream) (order : ℕ) : Type 0 where
  pub within : (kinds : ℕ → StepperKind) (base : ℕ) (parts : List TimedPart) (released : List Release) → ∥ AreFeeding steppers feed clocks order kinds base parts released ∥₁ → (oid : ℕ) → oid < length steppers → (j : ℕ) → end < j → All (λ q. q.tick < lines_tick clocks (j * turn_ns)) (sent_plan (kinds oid) clocks base parts)
  pub packed : (kinds : ℕ → StepperKind) (base : ℕ) (parts : List TimedPart) (released : List Release) → ∥ AreFeeding steppers feed clocks order kinds base parts released ∥₁ → (oid : ℕ) (d : StepperStream) → oid < length steppers → IsLastOf (packed_step (get_or steppers oid d)) base (sent_plan (kinds oid) clocks base parts)

pub board-ends : (clocks : Clocks) (goes : Bool) (time turn : ℕ) (steppers : List StepperStream) (feed : FeedStream) (order t : ℕ) → ∥ AreUpTo clocks goes time turn steppers ∥₁ → ArePast clocks t steppers → ArePackedTo clocks t steppers feed order
board-ends clocks goes time turn steppers feed order t up past = record {
  within = λ kinds base parts released was oid h j later k d l. (
      ∥∥₁_elim up (hlevel props) (λ u. ∥∥₁_elim was (hlevel props) (λ f. each steppers refl u f oid h j later k d l)));
  packed = λ kinds base parts released was oid d h. ∥∥₁_elim up (last-prop _ base _) (λ u. ∥∥₁_elim was (last-prop _ base _) (λ f. (board-packed clocks goes time turn steppers feed order t kinds base parts released u past f oid d h).last_is));
}
  where
    each : {kinds : ℕ → StepperKind} {base : ℕ} {parts : List TimedPart} {released : List Release} (ss : List StepperStream) → ss ≡ steppers → AreUpTo clocks goes time turn steppers → AreFeeding steppers feed clocks order kinds base parts released → (oid : ℕ) → oid < length steppers → (j : ℕ) → t < j → All (λ q. q.tick < lines_tick clocks (j * turn_ns)) (sent_plan (kinds oid) clocks base parts)
    each [] is u f oid h j later = absurd (let l = ap (λ (xs : List StepperStream). length xs) is in omega arith)
    each (s ∷ ss) is u f oid h j later = (board-packed clocks goes time turn steppers feed order t _ _ _ _ u past f oid s h).within j later
