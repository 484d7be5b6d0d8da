use Rattle.std.proofs.Common.{length}
use Rattle.board_asking.proofs.connecting.+all_connected.Given as goal

abbrev pub decreases-all_connected : goal.decreases-all_connected
decreases-all_connected l = length l.askings.now
