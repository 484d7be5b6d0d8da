use Rattle.std.proofs.Common.{◌∙◌, ap, refl, arith}
use Rattle.wire_scene.specs.declared.scene.Way.TheVariants.{Up}
use Rattle.wire_scene.specs.Wire.{Line, is_oldest_due}
use Rattle.link_work.proofs.Coming.{none_has_come, one_more_comes, all_have_come, line_after, not_due, when_due, when_not}
use Rattle.link_work.proofs.Hearing.{all_heard, none_heard_yet, one_more_heard}
use Rattle.link_work.proofs.due.hear_all.Goals as goal

pub loop-came-init : goal.loop-came-init
loop-came-init c = record {
  come = none_has_come Up c.args.turn c.args.world.now c.args.wire.now c.requires;
  heard = none_heard_yet c.args.turn c.args.world.now c.args.news.now c.args.wire.now.copies;
}

pub loop-came-smaller : goal.loop-came-smaller
loop-came-smaller c = omega (arith, c.in-Some.ensures.fewer refl)

pub loop-came-preserved : goal.loop-came-preserved
loop-came-preserved c =
    let l = c.loop-came.wire in
    let e = c.in-Some.ensures in
    let due = e.some.0 refl in
    let after = e.after ∙ when_due l c.args.turn due in
    record {
      come = one_more_comes Up c.args.turn c.args.world.now c.loop-came.world c.hear_one.new.world c.args.wire.now l c.due.new.self c.in-Some.came.block.items c.in-Some.came.fate
          c.loop-came.invariant.come due e.came after c.in_ok-hear_one.ensures.stands;
      heard = one_more_heard c.args.turn c.args.world.now c.loop-came.world c.hear_one.new.world c.args.news.now c.loop-came.news c.hear_one.new.news c.args.wire.now.copies l.copies c.due.new.self.copies
          c.in-Some.came.block.items c.in-Some.came.fate c.loop-came.invariant.heard due e.came (ap (λ (x : Line). x.copies) after) c.in_ok-hear_one.ensures.stands c.in_ok-hear_one.ensures.news;
    }

pub returns-clause-stands : goal.returns-clause-stands
returns-clause-stands c =
    let l = c.loop-came.wire in
    all_have_come Up c.args.turn c.args.world.now c.loop-came.world c.args.wire.now l c.loop-came.invariant.come (not_due (is_oldest_due c.args.turn l.copies) c.in_default.ensures.some.1)

pub returns-clause-line : goal.returns-clause-line
returns-clause-line c =
    let l = c.loop-came.wire in
    let none = not_due (is_oldest_due c.args.turn l.copies) c.in_default.ensures.some.1 in
    c.in_default.ensures.after ∙ when_not l c.args.turn none ∙ line_after Up c.args.turn c.args.world.now c.loop-came.world c.args.wire.now l c.loop-came.invariant.come none

pub returns-clause-news : goal.returns-clause-news
returns-clause-news c =
    let l = c.loop-came.wire in
    all_heard c.args.turn c.args.world.now c.loop-came.world c.args.news.now c.loop-came.news c.args.wire.now.copies l.copies c.loop-came.invariant.heard (not_due (is_oldest_due c.args.turn l.copies) c.in_default.ensures.some.1)
