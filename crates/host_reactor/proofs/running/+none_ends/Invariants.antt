use Rattle.std.proofs.Common.{length}
use Rattle.host_reactor.proofs.running.+none_ends.Given as goal

abbrev pub decreases-none_ends : goal.decreases-none_ends
decreases-none_ends l = length l.states.now
