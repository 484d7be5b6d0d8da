use Rattle.std.proofs.Common.{arith}
use Rattle.section_feed.proofs.Ahead.{packed-ahead}
use Rattle.section_feed.proofs.section.SectionStream.prepare.Goals as goal

pub returns-clause-ahead : goal.returns-clause-ahead
returns-clause-ahead c = λ k d l. (
    let new = c.plan.new.self in
    let at = new.turns k d l in
    let packed = (c.in_ok-plan.ensures.packed k d l).packed in
    let next = c.plan.ensures.next in
    let drawn = c.draw.ensures.next in
    let turn = c.requires.next in
    let own = at.next in
    packed-ahead c.args.turn _ (omega arith) (omega arith))
