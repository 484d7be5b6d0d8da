use Rattle.std.proofs.Common.{refl}
use Rattle.motion_stream.proofs.Owning.{own_ended, own_passed}
use Rattle.motion_stream.proofs.draw.pass_section.Goals as goal

pub returns-then-not-over-clause-passed : goal.returns-then-not-over-clause-passed
returns-then-not-over-clause-passed c =
    let old = c.args.course.now in
    let own = c.in_ok-units.field-0 in
    let later = c.draw_own.new.current in
    own_passed c.args.machine.now old c.pass.new.course old.current later own.units.items own.over c.in_ok-batches.batches.items refl c.requires.next c.in_ok-units.ensures c.if-not-over.true c.in_ok-batches.ensures.passed c.requires.small c.requires.from

pub returns-clause-passed : goal.returns-clause-passed
returns-clause-passed c =
    let old = c.args.course.now in
    let own = c.in_ok-units.field-0 in
    let later = c.draw_own.new.current in
    own_ended c.args.machine.now old c.pass.new.course c.end_open.new.course old.current later own.units.items own.over c.in_ok-batches.batches.items refl c.requires.next c.in_ok-units.ensures c.if-not-over.false c.in_ok-batches.ensures.passed c.requires.small c.in_ok-end_open.ensures
