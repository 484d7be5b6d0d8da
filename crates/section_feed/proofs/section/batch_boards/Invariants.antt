use Rattle.std.proofs.Common.{◌≡◌, ◌-◌, ◌≤◌, [], length, slice_index_or}
use Rattle.section_feed.specs.Changes.{AreChangedTo}
use Rattle.section_feed.specs.Going.{HasBatch}
use Rattle.section_feed.proofs.section.batch_boards.Given as goal

abbrev pub invariant-loop-place : goal.invariant-loop-place
invariant-loop-place l = record {
  boards : AreChangedTo (HasBatch l.turn (λ b. slice_index_or l.batches.items b [])) l.place l.initial.boards.items l.boards.items;
  count : length l.batches.items ≡ l.place;
  within : l.place ≤ length l.boards.items;
}

abbrev pub decreases-loop-place : goal.decreases-loop-place
decreases-loop-place l = length l.boards.items - l.place
