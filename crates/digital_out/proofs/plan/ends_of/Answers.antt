use Rattle.std.proofs.Common.{◌∙◌, arith}
use Rattle.digital_out.proofs.Timing.{end_small, ends_more_of, next_plannable, own_alone}
use Rattle.digital_out.proofs.plan.ends_of.Goals as goal

pub put_move_ends-requires : goal.put_move_ends-requires
put_move_ends-requires c =
    rw (c.deref.ensures.value, c.as_slice-moves.ensures)
    (next_plannable c.args.machine.now c.in_ok-clocks.clocks.items c.args.sections.now c.loop-i.times.items c.loop-i.i c.loop-i.ready c.section_at-section.result.now c.section_at-section.ensures c.loop-i-test.true c.requires.machine c.in_ok-clocks.ensures c.requires.sections c.loop-i.invariant)

pub plan_moves-requires : goal.plan_moves-requires
plan_moves-requires c =
    rw (c.deref-in-loop-i.ensures.value, c.as_slice-moves.ensures)
    (next_plannable c.args.machine.now c.in_ok-clocks.clocks.items c.args.sections.now c.loop-i.times.items c.loop-i.i c.loop-i.ready c.section_at-section.result.now c.section_at-section.ensures c.loop-i-test.true c.requires.machine c.in_ok-clocks.ensures c.requires.sections c.loop-i.invariant)

pub overflow_add-ready : goal.overflow_add-ready
overflow_add-ready c =
    let small = end_small c.args.machine.now c.in_ok-clocks.clocks.items c.args.sections.now c.loop-i.times.items c.loop-i.i c.loop-i.ready c.in_ok-plan.plan.end c.section_at-section.result.now c.as_slice-moves.result.now c.section_at-section.ensures c.loop-i-test.true c.loop-i.invariant c.as_slice-moves.ensures
    (c.in_ok-plan.ensures.soon (own_alone c.args.machine.now c.deref-in-loop-i.result.now (c.deref-in-loop-i.ensures.value ∙ c.in_ok-clocks.ensures))) in
    omega (arith, small)

pub loop-i-preserved : goal.loop-i-preserved
loop-i-preserved c =
    ends_more_of c.args.machine.now c.in_ok-clocks.clocks.items c.deref-in-loop-i.result.now c.args.sections.now c.loop-i.times.items c.put_move_ends.new.out.items c.loop-i.i c.loop-i.ready c.in_ok-plan.plan.end c.section_at-section.result.now
    c.as_slice-moves.result.now c.section_at-section.ensures c.loop-i-test.true c.loop-i.invariant c.as_slice-moves.ensures c.deref-in-loop-i.ensures.value c.in_ok-put_move_ends.ensures c.in_ok-plan.ensures.end
    (c.in_ok-plan.ensures.soon (own_alone c.args.machine.now c.deref-in-loop-i.result.now (c.deref-in-loop-i.ensures.value ∙ c.in_ok-clocks.ensures)))
