use Rattle.std.proofs.Common.{length}
use Rattle.board_asking.proofs.drift.+stale.Given as goal

abbrev pub decreases-stale : goal.decreases-stale
decreases-stale l = length l.askings.now
