use Rattle.std.proofs.Common.{ℕ, ◌<◌, length, slice_index_or}
use Rattle.section_feed.specs.declared.board.BoardStream.{BoardStream}
use Rattle.section_feed.specs.Going.{IsAhead}
use Rattle.section_feed.proofs.section.are_ahead.Given as goal

abbrev pub invariant-loop-board : goal.invariant-loop-board
invariant-loop-board l = (k : ℕ) (d : BoardStream) → k < l.board-index → k < length l.boards → IsAhead l.turn (slice_index_or l.boards k d)
