use Rattle.std.proofs.Common.{length}
use Rattle.board_sim.proofs.machine.+all_sleep.Given as goal

abbrev pub decreases-all_sleep : goal.decreases-all_sleep
decreases-all_sleep l = length l.slots.now
