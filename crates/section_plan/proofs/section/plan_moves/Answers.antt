use Rattle.std.proofs.Common.{◌∙◌, ◌/◌, arith, below_more}
use Rattle.plan_types.specs.Clock.{turn_ns}
use Rattle.plan_types.specs.Sections.{stepper_end, stepper_plan}
use Rattle.section_plan.proofs.Latest.{for-each-more, latest-more}
use Rattle.section_plan.proofs.section.plan_moves.Goals as goal

pub loop-place-preserved : goal.loop-place-preserved
loop-place-preserved c =
    let m = c.args.machine.now in
    let clocks = c.args.clocks.now in
    let moves = c.args.moves.now in
    let turn = c.args.turn in
    let i = c.loop-place.place in
    let before = c.loop-place.invariant in
    let plan = c.in_ok-plan.ensures in
    let latest_is = c.max-end.ensures in
    record {
      plans = for-each-more (stepper_plan m clocks moves turn) i c.loop-place.steps.items c.push.new.self.items c.in_ok-plan.plan.steps before.plans c.in_ok-push.ensures.items plan.steps;
      end_is = rw latest_is (latest-more (stepper_end m clocks moves turn) i (c.end_of-over.result / turn_ns) c.loop-place.end c.in_ok-plan.plan.end before.end_is plan.end);
      last_is = c.later-last.ensures ∙ latest-more (stepper_end m clocks moves turn) i 0 c.loop-place.last c.in_ok-plan.plan.end before.last_is plan.end;
      soon = λ alone. (let soon_before = before.soon alone in let soon_here = plan.soon alone in rw latest_is (omega (arith, soon_before, soon_here)));
      spaced = below_more _ _ before.spaced plan.spaced;
      small = below_more _ _ before.small plan.small;
    }

pub returns-clause-small : goal.returns-clause-small
returns-clause-small c = λ s h. c.loop-place.invariant.small s (let over = c.loop-place-test.false in omega arith)
