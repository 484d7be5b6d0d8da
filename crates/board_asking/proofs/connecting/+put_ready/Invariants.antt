use Rattle.std.proofs.Common.{length}
use Rattle.board_asking.proofs.connecting.+put_ready.Given as goal

abbrev pub decreases-put_ready : goal.decreases-put_ready
decreases-put_ready l = length l.askings.now
