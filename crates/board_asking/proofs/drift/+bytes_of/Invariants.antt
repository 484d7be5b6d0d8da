use Rattle.std.proofs.Common.{length}
use Rattle.board_asking.proofs.drift.+bytes_of.Given as goal

abbrev pub decreases-bytes_of : goal.decreases-bytes_of
decreases-bytes_of l = length l.commands.now
