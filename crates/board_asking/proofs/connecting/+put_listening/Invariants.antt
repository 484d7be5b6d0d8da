use Rattle.std.proofs.Common.{length}
use Rattle.board_asking.proofs.connecting.+put_listening.Given as goal

abbrev pub decreases-put_listening : goal.decreases-put_listening
decreases-put_listening l = length l.askings.now
