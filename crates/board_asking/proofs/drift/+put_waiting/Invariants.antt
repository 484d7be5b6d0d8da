use Rattle.std.proofs.Common.{length}
use Rattle.board_asking.proofs.drift.+put_waiting.Given as goal

abbrev pub decreases-put_waiting : goal.decreases-put_waiting
decreases-put_waiting l = length l.askings.now
