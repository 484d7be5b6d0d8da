use Rattle.std.proofs.Common.{[], ◌*◌, arith, ap, subst, ◌∙◌}
use Rattle.plan_types.specs.Lines.{Clocks}
use Rattle.section_feed.specs.Boards.{MayStart}
use Rattle.section_feed.proofs.Changing.{any-default}
use Rattle.motion_stream.proofs.Taking.{may_start, new_on}
use Rattle.motion_stream.proofs.section.new_section.Goals as goal

pub new-requires-clause-start : goal.new-requires-clause-start
new-requires-clause-start c = λ b d lt. (
    let m = c.args.machine.now in
    let clocks = c.args.lines.now in
    let count = c.requires.clocks.count in
    subst (λ (x : Clocks). MayStart x c.args.start) (any-default {A = Clocks} (λ n x y. Unit {0}) clocks b _ d lt) (may_start m clocks c.args.start b c.requires.clocks c.requires.early c.requires.small (omega (arith, lt, count))))

pub returns-clause-on : goal.returns-clause-on
returns-clause-on c =
    let q = c.new-queue in
    let n = c.in_ok-section.ensures in
    new_on c.args.machine.now c.args.lines.now c.args.start c.args.homes c.in_ok-section.section q.result c.requires.machine c.requires.clocks c.requires.early c.requires.late c.requires.small (n.empty c.args.machine.now.scv [] q.ensures.empty) n.boards n.sets n.queue q.ensures.cruise
    (q.ensures.from ∙ ap (λ x. x * 1_000_000) c.from-begin.ensures)
