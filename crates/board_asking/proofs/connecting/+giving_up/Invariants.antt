use Rattle.std.proofs.Common.{length}
use Rattle.board_asking.proofs.connecting.+giving_up.Given as goal

abbrev pub decreases-giving_up : goal.decreases-giving_up
decreases-giving_up l = length l.askings.now
