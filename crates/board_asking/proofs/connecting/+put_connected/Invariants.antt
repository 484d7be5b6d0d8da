use Rattle.std.proofs.Common.{length}
use Rattle.board_asking.proofs.connecting.+put_connected.Given as goal

abbrev pub decreases-put_connected : goal.decreases-put_connected
decreases-put_connected l = length l.lines.now
