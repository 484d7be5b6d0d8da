use Rattle.std.proofs.Common.{true, ◌+◌, arith, refl}
use Rattle.step_feed.specs.Streams.{next_turn}
use Rattle.section_feed.proofs.Merging.{due-none}
use Rattle.section_feed.proofs.Onboard.{board-new, up-none}
use Rattle.section_feed.proofs.board.BoardStream.new.Goals as goal

pub returns-clause-empty : goal.returns-clause-empty
returns-clause-empty c = λ kinds. board-new c.new-2.result c.args.lines 0 kinds _ c.new.result.items c.new.ensures.items refl (c.new-2.ensures.fed c.args.lines)

pub invariant_of-result : goal.invariant_of-result
invariant_of-result c =
    let start = c.requires.start in
    let begun = start.begun in
    let small = start.turn_small in
    let turn = c.from.ensures in
    let next = c.new-2.ensures.next in
    let lead = c.requires.lead in
    record {
      lasting = start.lasting;
      begun = omega arith;
      begun_next = omega arith;
      ahead = λ going. omega arith;
      time_small = omega arith;
      up_to = up-none c.args.lines true _ c.args.turn _ c.new.ensures.items;
      near = omega arith;
      due = due-none (next_turn c.new-2.result + 250) _ c.new.ensures.items;
      handed = λ some. absurd (omega arith);
    }
