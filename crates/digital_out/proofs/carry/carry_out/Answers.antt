use Rattle.std.proofs.Common.{◌*◌, ◌∙◌, refl, arith, sym}
use Rattle.digital_out.proofs.Giving.{accepted_next, all_taken, finished, given_more, pending_rise, ready_is, safe_next}
use Rattle.digital_out.proofs.carry.carry_out.Goals as goal

pub run_to-requires-clause-safe : goal.run_to-requires-clause-safe
run_to-requires-clause-safe c =
    let l = c.loop-i in
    let ready = ready_is c.args.commands.now l.made.items (5_000 * c.args.ticks) l.queue l.i l.now (250 * c.args.ticks) c.ready_at-now.result c.ready_at-now.ensures c.loop-i-test.true c.requires.can l.invariant in
    safe_next c.args.commands.now l.made.items (5_000 * c.args.ticks) l.queue l.i l.now (250 * c.args.ticks) c.ready_at-now.result c.loop-i-test.true c.requires.can l.invariant ready

pub unreachable-requires : goal.unreachable-requires
unreachable-requires c =
    let l = c.loop-i in
    let all = c.in_ok-run_to.ensures in
    let ready = ready_is c.args.commands.now l.made.items (5_000 * c.args.ticks) l.queue l.i l.now (250 * c.args.ticks) c.ready_at-now.result c.ready_at-now.ensures c.loop-i-test.true c.requires.can l.invariant in
    let taken = all.made ∙ l.invariant.all in
    let from = all.from (pending_rise c.args.commands.now l.made.items l.queue.pending l.i c.requires.can.rise l.invariant.all) in
    let is = rw c.nth-command.ensures at c.in-Err.ensures.err in
    let fits = accepted_next c.args.commands.now c.run_to.new.made.items c.run_to.new.queue l.i l.now (250 * c.args.ticks) c.ready_at-now.result _ c.loop-i-test.true c.requires.can.rise all.well (all.time.1 ∙ l.invariant.slots) taken from ready (omega (arith, c.requires.few)) refl in
    let x = sym fits ∙ is in cc

pub loop-i-preserved : goal.loop-i-preserved
loop-i-preserved c =
    let l = c.loop-i in
    let all = c.in_ok-run_to.ensures in
    let ready = ready_is c.args.commands.now l.made.items (5_000 * c.args.ticks) l.queue l.i l.now (250 * c.args.ticks) c.ready_at-now.result c.ready_at-now.ensures c.loop-i-test.true c.requires.can l.invariant in
    let taken = all.made ∙ l.invariant.all in
    let from = all.from (pending_rise c.args.commands.now l.made.items l.queue.pending l.i c.requires.can.rise l.invariant.all) in
    let is = rw c.nth-command.ensures at c.in-Ok.ensures.ok in
    let fits = accepted_next c.args.commands.now c.run_to.new.made.items c.run_to.new.queue l.i l.now (250 * c.args.ticks) c.ready_at-now.result _ c.loop-i-test.true c.requires.can.rise all.well (all.time.1 ∙ l.invariant.slots) taken from ready (omega (arith, c.requires.few)) refl in
    let same = sym is ∙ fits in
    given_more c.args.commands.now l.made.items c.run_to.new.made.items (5_000 * c.args.ticks) l.queue c.run_to.new.queue c.push.new.self l.i l.now (250 * c.args.ticks) c.ready_at-now.result c.loop-i-test.true c.requires.can l.invariant ready
    all.made all.well all.time.1 all.time.2 all.in_time (let y = same in cc)

pub returns : goal.returns
returns c =
    let l = c.loop-i in
    let all = c.in_ok-run_to-2.ensures in
    finished c.args.commands.now c.run_to-2.new.made.items c.run_to-2.new.queue.pending c.end_of.result c.end_of.ensures.value
    (all.made ∙ all_taken c.args.commands.now l.made.items (5_000 * c.args.ticks) l.queue l.i l.now (omega (arith, c.loop-i-test.false)) l.invariant)
    (all.from (pending_rise c.args.commands.now l.made.items l.queue.pending l.i c.requires.can.rise l.invariant.all))
