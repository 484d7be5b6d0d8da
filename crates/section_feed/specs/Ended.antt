-- Boards that know that no more moves come.
use Rattle.std.specs.Prelude.{◌≡◌, ℕ, ◌<◌, false, List, length, slice_index_or}
use Rattle.section_feed.specs.declared.board.BoardStream.{BoardStream}
use Rattle.section_feed.specs.declared.queue.MoveQueue.{MoveQueue}
use Rattle.section_feed.specs.Queues.{IsDrawn}
use Rattle.section_feed.specs.Sets.{goes_of}

-- boards know that no more moves come only where they were given all
pub record AreEnded (boards : List BoardStream) (queue : MoveQueue) : Type 0 where
  pub each : (b : ℕ) (d : BoardStream) → b < length boards → goes_of (slice_index_or boards b d) ≡ false → IsDrawn queue
