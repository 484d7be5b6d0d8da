use Rattle.std.proofs.Common.{length}
use Rattle.host_reactor.proofs.report.+none_made.Given as goal

abbrev pub decreases-none_made : goal.decreases-none_made
decreases-none_made l = length l.states.now
