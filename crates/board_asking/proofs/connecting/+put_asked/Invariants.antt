use Rattle.std.proofs.Common.{length}
use Rattle.board_asking.proofs.connecting.+put_asked.Given as goal

abbrev pub decreases-put_asked : goal.decreases-put_asked
decreases-put_asked l = length l.askings.now
