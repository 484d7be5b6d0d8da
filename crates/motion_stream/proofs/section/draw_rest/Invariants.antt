use Rattle.std.proofs.Common.{◌≡◌, ◌+◌, length}
use Rattle.std.specs.Prelude.{◌-◌}
use Rattle.section_feed.specs.Sections.{next_of}
use Rattle.motion_stream.specs.Gone.{HasGivenRows}
use Rattle.motion_stream.proofs.section.draw_rest.Given as goal

abbrev pub invariant-loop-rows : goal.invariant-loop-rows
invariant-loop-rows l = record {
  given : HasGivenRows l.initial.section l.section l.turn l.rows.items;
  next : next_of l.section ≡ l.at;
  count : l.at ≡ l.turn + length l.rows.items;
}

abbrev pub decreases-loop-rows : goal.decreases-loop-rows
decreases-loop-rows l = 8_796_093_022_208 - l.at
