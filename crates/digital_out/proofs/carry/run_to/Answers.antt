use Rattle.std.proofs.Common.{sym, subst}
use Rattle.digital_out.proofs.Carrying.{CarriedSofar, all_from, carried_off, carried_on}
use Rattle.digital_out.specs.Outputs.{Output}
use Rattle.digital_out.proofs.carry.run_to.Goals as goal

pub loop-event-preserved-in-Continue-1 : goal.loop-event-preserved-in-Continue-1
loop-event-preserved-in-Continue-1 c =
    let l = c.loop-event in
    subst (λ (q : Output). CarriedSofar c.args.queue.now q c.args.until c.args.made.now.items c.push.new.self.items) (sym c.in-Some.ensures.behind)
    (carried_on c.args.queue.now l.queue c.args.until c.args.made.now.items l.made.items c.push.new.self.items c.in-Some.event l.invariant c.in-Some.ensures.some c.in-On.is c.in_ok-push-in-On.ensures.items)

pub loop-event-preserved : goal.loop-event-preserved
loop-event-preserved c =
    let l = c.loop-event in
    subst (λ (q : Output). CarriedSofar c.args.queue.now q c.args.until c.args.made.now.items c.push-in-Off.new.self.items) (sym c.in-Some.ensures.behind)
    (carried_off c.args.queue.now l.queue c.args.until c.args.made.now.items l.made.items c.push-in-Off.new.self.items c.in-Some.event l.invariant c.in-Some.ensures.some c.in-Off.is c.in_ok-push-in-Off.ensures.items)

pub returns-clause-from : goal.returns-clause-from
returns-clause-from c =
    let l = c.loop-event in
    all_from c.args.queue.now l.queue c.advance.new.self c.args.until c.args.made.now.items l.made.items c.in_default.ensures.behind l.invariant c.in_default.ensures.none
