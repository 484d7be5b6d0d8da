use Rattle.std.proofs.Common.{◌≡◌, ◌+◌, ◌≤◌, All, true}
use Rattle.gcode_program.specs.Items.{IsGood}
use Rattle.section_feed.specs.Queues.{count_in, is_taking}
use Rattle.section_feed.specs.Sections.{queue_of}
use Rattle.motion_stream.specs.Gone.{HasTaken, moves_ahead}
use Rattle.motion_stream.proofs.section.take_moves.Given as goal

abbrev pub invariant-loop : goal.invariant-loop
invariant-loop l = record {
  taken : HasTaken l.initial.section l.section l.initial.items.items l.items.items;
  good : All IsGood l.items.items;
  takes : is_taking (queue_of l.section) ≡ true;
  few : count_in (queue_of l.section) + moves_ahead l.items.items ≤ 2_000_000;
}
