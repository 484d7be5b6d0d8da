use Rattle.std.proofs.Common.{◌-◌, length}
use Rattle.section_feed.specs.Changes.{AreChangedTo}
use Rattle.section_feed.specs.Going.{IsBoardStill}
use Rattle.section_feed.proofs.section.finish_boards.Given as goal

abbrev pub invariant-loop-place : goal.invariant-loop-place
invariant-loop-place l = AreChangedTo (IsBoardStill) l.place l.initial.boards.items l.boards.items

abbrev pub decreases-loop-place : goal.decreases-loop-place
decreases-loop-place l = length l.boards.items - l.place
