use Rattle.std.proofs.Common.{◌∙◌, ◌^◌, ◌<◌, arith, rules, w16, ap}
use Rattle.std.proofs.lemmas.Int.{to_z-of_z}
use mir.Val.{SFits}
use Rattle.board_step.specs.Steps.{with_ticks}
use Rattle.board_step.proofs.Groups.{pushed, begun}
use Rattle.board_step.proofs.Whole.{whole}
use Rattle.board_step.proofs.queue.StepQueue.push.Goals as goal

pub returns-else-len-capacity-clause-ok : goal.returns-else-len-capacity-clause-ok
returns-else-len-capacity-clause-ok c h =
    let q = c.self.inside in
    let t = c.args.t in
    let fits : SFits w16 c.args.t.add = search rules in
    let after = simp to_z-of_z at c.push_back.ensures.items in
    pushed c.args.self.now q.halted q.up q.last q.current c.in-Some._running q.waiting c.push_back.new.self c.args.now t
    c.in-Some.is c.self.view_is after (omega arith)

pub returns-else-len-capacity-clause-whole : goal.returns-else-len-capacity-clause-whole
returns-else-len-capacity-clause-whole c h ticks fair =
    let small : c.args.t.interval < 2 ^ 32 = omega arith in
    returns-else-len-capacity-clause-ok c h ∙ ap (λ ts. with_ticks c.args.self.now ts) (whole c.args.now c.args.self.now c.args.t ticks small fair)

pub returns-else-first-now-clause-ok : goal.returns-else-first-now-clause-ok
returns-else-first-now-clause-ok c h =
    let q = c.self.inside in
    let t = c.args.t in
    let fits : SFits w16 c.args.t.add = search rules in
    let e = simp to_z-of_z at c.started.ensures.ticks in
    let first = c.nearest_tick-first.ensures.nearest in
    begun c.args.self.now q.halted q.up q.last q.current c.started.result q.waiting c.args.now c.nearest_tick-first.result t
    c.in-None.is (rw c.in-None.is at c.self.invariant).0 c.self.view_is (search rules) e c.started.ensures.up

pub returns-else-first-now-clause-whole : goal.returns-else-first-now-clause-whole
returns-else-first-now-clause-whole c h ticks fair =
    let small : c.args.t.interval < 2 ^ 32 = omega arith in
    returns-else-first-now-clause-ok c h ∙ ap (λ ts. with_ticks c.args.self.now ts) (whole c.args.now c.args.self.now c.args.t ticks small fair)
