use Rattle.std.proofs.Common.{◌++◌, ◌∙◌, List, arith, subst}
use Rattle.std.proofs.lemmas.List.{take_all}
use Rattle.step_feed.specs.Units.{StepUnit}
use Rattle.step_feed.specs.Streams.{IsFedOf}
use Rattle.section_feed.proofs.Orders.{fed-next, last-next}
use Rattle.section_feed.proofs.feed.feed_units.Goals as goal

pub returns-clause-fed : goal.returns-clause-fed
returns-clause-fed c = λ clocks pushed released h. subst (λ (us : List StepUnit). IsFedOf c.loop-unit.feed clocks (pushed ++ us) released) (take_all c.loop-unit.unit-index c.args.units.now (omega (arith, c.loop-unit-test.false))) (c.loop-unit.invariant.fed clocks pushed released h)

pub loop-unit-preserved : goal.loop-unit-preserved
loop-unit-preserved c =
    let i = c.loop-unit.unit-index in
    let inv = c.loop-unit.invariant in
    record {
      fed = fed-next c.args.feed.now c.loop-unit.feed c.push.new.self i c.args.units.now c.loop-unit-test.true inv.fed c.in_ok-push.ensures.pushed;
      place = c.order_of-place.ensures ∙ last-next c.args.order i c.args.units.now c.loop-unit-test.true;
      next = c.push.ensures.next ∙ inv.next;
      first = c.push.ensures.first ∙ inv.first;
      slots = c.push.ensures.slots ∙ inv.slots;
    }
