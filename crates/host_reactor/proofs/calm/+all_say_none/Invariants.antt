use Rattle.std.proofs.Common.{length}
use Rattle.host_reactor.proofs.calm.+all_say_none.Given as goal

abbrev pub decreases-all_say_none : goal.decreases-all_say_none
decreases-all_say_none l = length l.states.now
