use Rattle.std.proofs.Common.{length}
use Rattle.board_asking.proofs.connecting.+put_clocks.Given as goal

abbrev pub decreases-put_clocks : goal.decreases-put_clocks
decreases-put_clocks l = length l.lines.now
