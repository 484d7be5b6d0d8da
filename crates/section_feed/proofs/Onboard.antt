-- The steppers of a board and its pacing go on.
use Rattle.std.proofs.Common.{◌≡◌, ℕ, ◌+◌, ◌<◌, List, [], ◌∷◌, ◌++◌, All, length, get_or, arith, ap, sym, ◌∙◌, subst, refl, Bool}
use Rattle.std.proofs.Math.Logic.{∥∥₁_map, ∥∥₁_elim, ∥∥₁_prop}
use Rattle.std.proofs.Props.{props}
use Rattle.std.proofs.lemmas.Grind.{merely}
use Rattle.std.proofs.lemmas.List.{append-nil}
use Rattle.section_units.specs.Sections.{of_stepper}
use Rattle.plan_types.specs.Lines.{Clocks}
use Rattle.plan_types.specs.Sections.{TimedPart}
use Rattle.step_feed.specs.declared.stream.FeedStream.{FeedStream}
use Rattle.step_feed.specs.Units.{StepUnit}
use Rattle.step_feed.specs.Pacing.{Release}
use Rattle.step_feed.specs.Streams.{IsFedOf}
use Rattle.section_stream.specs.declared.stepper.StepperStream.{StepperStream}
use Rattle.section_stream.specs.Steppers.{IsStepperOf, StepperKind, kind_of}
use Rattle.section_feed.specs.Ordering.{AreInOrderFrom, last_order}
use Rattle.section_feed.specs.Boards.{AreUpTo, HasGiven, HaveGiven, HaveKinds}
use Rattle.section_feed.specs.Changes.{GoOn}
use Rattle.section_feed.specs.Feeding.{AreFeeding}
use Rattle.section_feed.proofs.Orders.{at-added, last-order-append, of-none, order-append}
use Rattle.section_feed.proofs.Boarding.{up-after}
use Rattle.section_units.proofs.Merging.{of_append}

-- no stepper is up to anything
pub up-none : (clocks : Clocks) (goes : Bool) (time turn : ℕ) (steppers : List StepperStream) → steppers ≡ [] → ∥ AreUpTo clocks goes time turn steppers ∥₁
up-none clocks goes time turn steppers none = rw none (merely (record { each = λ k d h. absurd (omega arith) }))

pub gone-up : (clocks : Clocks) (goes : Bool) (time turn : ℕ) (more : List TimedPart) (units : List StepUnit) (old new : List StepperStream) → ∥ GoOn clocks goes time turn more units old new ∥₁ → ∥ AreUpTo clocks goes time turn new ∥₁
gone-up clocks goes time turn more units old new on = ∥∥₁_map on (up-after clocks goes time turn more units old new)

kinds-on : (clocks : Clocks) (goes : Bool) (time turn : ℕ) (more : List TimedPart) (units : List StepUnit) (old new : List StepperStream) (kinds : ℕ → StepperKind) → GoOn clocks goes time turn more units old new → HaveKinds old kinds → HaveKinds new kinds
kinds-on clocks goes time turn more units old new kinds on have =
    let l = on.same in
    record { each = λ k d h. (on.each k d (omega arith)).kind ∙ have.each k d (omega arith) }

given-on : (clocks : Clocks) (goes : Bool) (time turn : ℕ) (more : List TimedPart) (units : List StepUnit) (old new : List StepperStream) (base : ℕ) (parts : List TimedPart) (given : List StepUnit) → GoOn clocks goes time turn more units old new → All (λ u. u.stepper < length old) units → HaveGiven old base parts given → HaveGiven new base (parts ++ more) (given ++ units)
given-on clocks goes time turn more units old new base parts given on own have =
    let l = on.same in
    record {
      each = λ k d h. subst (λ us. HasGiven (get_or new k d) base (parts ++ more) us) (sym (of_append k given units)) ((on.each k d (omega arith)).on base parts (of_stepper k given) (have.each k d (omega arith)));
      others = λ k h. of_append k given units ∙ ap (λ us. us ++ of_stepper k units) (have.others k (omega arith)) ∙ of-none (length old) k units own (omega arith);
    }

none-own : (count : ℕ) → All (λ (u : StepUnit). u.stepper < count) []
none-own count = λ k d h. absurd (omega arith)

pub board-pushed : (clocks : Clocks) (goes : Bool) (time turn : ℕ) (more : List TimedPart) (all old new : List StepperStream) (feed : FeedStream) (order : ℕ) (kinds : ℕ → StepperKind) (base : ℕ) (parts : List TimedPart) (released : List Release) → old ≡ all → ∥ GoOn clocks goes time turn more [] old new ∥₁ → ∥ AreFeeding all feed clocks order kinds base parts released ∥₁ → ∥ AreFeeding new feed clocks order kinds base (parts ++ more) released ∥₁
board-pushed clocks goes time turn more all old new feed order kinds base parts released is goes_on was =
    let on = subst (λ (ss : List StepperStream). ∥ GoOn clocks goes time turn more [] ss new ∥₁) is goes_on in
    ∥∥₁_elim on ∥∥₁_prop (λ p. ∥∥₁_map was (λ f. record {
      units = f.units;
      kinds_are = kinds-on clocks goes time turn more [] all new kinds p f.kinds_are;
      given = subst (λ us. HaveGiven new base (parts ++ more) us) (append-nil f.units) (given-on clocks goes time turn more [] all new base parts f.units p (none-own (length all)) f.given);
      in_order = f.in_order;
      order_is = f.order_is;
      fed = f.fed;
    }))

pub board-kept : (clocks : Clocks) (goes : Bool) (time turn : ℕ) (all old new : List StepperStream) (feed : FeedStream) (order : ℕ) (kinds : ℕ → StepperKind) (base : ℕ) (parts : List TimedPart) (released : List Release) → old ≡ all → ∥ GoOn clocks goes time turn [] [] old new ∥₁ → ∥ AreFeeding all feed clocks order kinds base parts released ∥₁ → ∥ AreFeeding new feed clocks order kinds base parts released ∥₁
board-kept clocks goes time turn all old new feed order kinds base parts released is goes_on was =
    subst (λ ps. ∥ AreFeeding new feed clocks order kinds base ps released ∥₁) (append-nil parts) (board-pushed clocks goes time turn [] all old new feed order kinds base parts released is goes_on was)

pub board-gave : (clocks : Clocks) (goes : Bool) (time turn : ℕ) (units : List StepUnit) (all old new : List StepperStream) (feed fed : FeedStream) (order order' : ℕ) (more : List Release) (kinds : ℕ → StepperKind) (base : ℕ) (parts : List TimedPart) (released : List Release) → old ≡ all → ∥ GoOn clocks goes time turn [] units old new ∥₁ → All (λ u. u.stepper < length old) units
    → AreInOrderFrom order units → order' ≡ last_order order units → ((pushed : List StepUnit) (released : List Release) → IsFedOf feed clocks pushed released → IsFedOf fed clocks (pushed ++ units) (released ++ more))
    → ∥ AreFeeding all feed clocks order kinds base parts released ∥₁ → ∥ AreFeeding new fed clocks order' kinds base parts (released ++ more) ∥₁
board-gave clocks goes time turn units all old new feed fed order order' more kinds base parts released is goes_on own in_order order_is feeds was =
    let on = subst (λ (ss : List StepperStream). ∥ GoOn clocks goes time turn [] units ss new ∥₁) is goes_on in
    let mine = subst (λ (ss : List StepperStream). All (λ u. u.stepper < length ss) units) is own in
    ∥∥₁_elim on ∥∥₁_prop (λ p. ∥∥₁_map was (λ f. record {
      units = f.units ++ units;
      kinds_are = kinds-on clocks goes time turn [] units all new kinds p f.kinds_are;
      given = subst (λ ps. HaveGiven new base ps (f.units ++ units)) (append-nil parts) (given-on clocks goes time turn [] units all new base parts f.units p mine f.given);
      in_order = order-append 0 f.units units f.in_order (subst (λ o. AreInOrderFrom o units) f.order_is in_order);
      order_is = order_is ∙ ap (λ o. last_order o units) f.order_is ∙ sym (last-order-append 0 f.units units);
      fed = feeds f.units released f.fed;
    }))

pub board-added : (feed : FeedStream) (clocks : Clocks) (order : ℕ) (kinds : ℕ → StepperKind) (base : ℕ) (all old new : List StepperStream) (s : StepperStream) → old ≡ all → new ≡ old ++ s ∷ [] → IsStepperOf s base [] [] [] [] → kind_of s ≡ kinds (length all) → ∥ AreFeeding all feed clocks order kinds base [] [] ∥₁ → ∥ AreFeeding new feed clocks order kinds base [] [] ∥₁
board-added feed clocks order kinds base all old new s is adds empty kind was =
    let e : new ≡ all ++ s ∷ [] = adds ∙ ap (λ ss. ss ++ s ∷ []) is in
    ∥∥₁_map was (λ f. rw e (record {
      units = f.units;
      kinds_are = record { each = at-added (λ k t. kind_of t ≡ kinds k) all s f.kinds_are.each kind };
      given = record {
        each = at-added (λ k t. HasGiven t base [] (of_stepper k f.units)) all s f.given.each (rw (f.given.others (length all) (omega arith)) (record { out = []; pieces = []; stepper = empty; in_turns = tt; past = omega arith }));
        others = λ k h. f.given.others k (let l = added-length all s in omega arith);
      };
      in_order = f.in_order;
      order_is = f.order_is;
      fed = f.fed;
    }))
  where
    added-length : (xs : List StepperStream) (x : StepperStream) → length (xs ++ x ∷ []) ≡ length xs + 1
    added-length [] x = omega arith
    added-length (y ∷ ys) x = let r = added-length ys x in omega arith

pub board-new : (feed : FeedStream) (clocks : Clocks) (order : ℕ) (kinds : ℕ → StepperKind) (base : ℕ) (steppers : List StepperStream) → steppers ≡ [] → order ≡ 0 → IsFedOf feed clocks [] [] → ∥ AreFeeding steppers feed clocks order kinds base [] [] ∥₁
board-new feed clocks order kinds base steppers none zero fed = rw none (merely (record {
  units = [];
  kinds_are = record { each = λ k d h. absurd (omega arith) };
  given = record { each = λ k d h. absurd (omega arith); others = λ k h. refl };
  in_order = tt;
  order_is = zero;
  fed = fed;
}))

-- no stepper comes or goes
pub gone-count : (clocks : Clocks) (goes : Bool) (time turn : ℕ) (more : List TimedPart) (units : List StepUnit) (all old new : List StepperStream) → old ≡ all → ∥ GoOn clocks goes time turn more units old new ∥₁ → length new ≡ length all
gone-count clocks goes time turn more units all old new is on = ∥∥₁_elim on (hlevel props) (λ g. g.same) ∙ ap (λ (ss : List StepperStream). length ss) is
