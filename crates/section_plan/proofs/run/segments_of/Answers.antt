use Rattle.std.proofs.Common.{◌≡◌, ◌+◌, ◌*◌, arith, get_or, map, length, All, ap}
use Rattle.std.proofs.lemmas.List.Elements.{All-append}
use Rattle.plan_types.specs.Clock.{tick}
use Rattle.plan_types.specs.Machines.{no_move}
use Rattle.plan_types.specs.Sections.{duration, segment_of, timed}
use Rattle.clock_line.proofs.Holding.{tick-mono}
use Rattle.section_plan.specs.Runs.{IsGoodSegment, IsShortMove, move_ns}
use Rattle.section_plan.proofs.Counts.{few-steps, steps-more}
use Rattle.section_plan.proofs.Goods.{good-move}
use Rattle.section_plan.proofs.Timings.{segments-more}
use Rattle.section_plan.proofs.run.segments_of.Goals as goal

pub push_parts-requires-clause-small : goal.push_parts-requires-clause-small
push_parts-requires-clause-small c =
    let soon = c.parts_of-parts.ensures.soon in
    let so_far = c.loop-i.invariant.soon in
    let room = c.requires.room.room in
    let up = tick-mono c.args.drive.now.line (c.loop-i.time + duration c.parts_of-parts.result) (c.args.begin + length c.args.moves.now * move_ns) (omega arith) in
    omega arith

pub loop-i-preserved : goal.loop-i-preserved
loop-i-preserved c =
    let moves = c.args.moves.now in
    let drive = c.args.drive.now in
    let i = c.loop-i.i in
    let m = get_or moves i no_move in
    let ps = c.parts_of-parts.result in
    let F = segment_of drive.corexy drive.number drive.line in
    let top = tick drive.line (c.args.begin + length moves * move_ns) in
    let before = c.loop-i.invariant in
    let room = c.requires.room in
    let run = c.requires.run in
    let short : IsShortMove m = run.moves_short i no_move c.loop-i-test.true in
    let soon = c.parts_of-parts.ensures.soon in
    let takes = c.duration-time.ensures in
    let adds = c.in_ok-push_parts.ensures in
    let here = map F (timed m 0 c.loop-i.time ps) in
    let so_far = before.soon in
    let begun = before.begun in
    let line_before = room.before in
    let up = tick-mono drive.line (c.loop-i.time + duration ps) (c.args.begin + length moves * move_ns) (omega arith) in
    let three : length ps ≡ 3 = ap length c.parts_of-parts.ensures.value in
    let good : All (IsGoodSegment drive.line top) here = good-move drive.corexy drive.number drive.line m c.loop-i.time top ps c.requires.drive room.valid short c.parts_of-parts.ensures.timed c.parts_of-parts.ensures.whole (omega arith) up room.room in
    record {
      whole = segments-more F c.args.cruise moves c.args.speeds.now i c.loop-i.time c.duration-time.result c.loop-i.made.items c.push_parts.new.made.items ps _ c.loop-i-test.true run.count before.whole c.parts_of-parts.ensures.value takes adds;
      good = rw adds (All-append (IsGoodSegment drive.line top) c.loop-i.made.items here before.good good);
      steps = λ g f gear. steps-more g f i c.loop-i.made.items here c.push_parts.new.made.items adds (before.steps g f gear) (few-steps g f drive.corexy drive.number drive.line m c.loop-i.time ps gear short.valid c.requires.drive three c.parts_of-parts.ensures.whole);
      soon = omega arith;
      begun = omega arith;
    }
