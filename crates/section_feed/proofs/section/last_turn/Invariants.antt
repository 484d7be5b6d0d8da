use Rattle.std.proofs.Common.{◌≡◌, ℕ, ◌<◌, length, map, max, slice_index_or, take}
use Rattle.plan_types.specs.Sections.{latest}
use Rattle.section_feed.specs.declared.board.BoardStream.{BoardStream}
use Rattle.section_feed.specs.Released.{IsPast, last_in}
use Rattle.section_feed.proofs.section.last_turn.Given as goal

abbrev pub invariant-loop-board : goal.invariant-loop-board
invariant-loop-board l = record {
  past : (k : ℕ) (d : BoardStream) → k < l.board-index → k < length l.boards → IsPast l.last (slice_index_or l.boards k d);
  last : l.last ≡ max l.first (latest (map last_in (take l.board-index l.boards)));
}
