use Rattle.std.proofs.Common.{length}
use Rattle.digital_out.proofs.Carrying.{CarriedSofar}
use Rattle.digital_out.proofs.carry.run_to.Given as goal

abbrev pub invariant-loop-event : goal.invariant-loop-event
invariant-loop-event l = CarriedSofar l.fn.queue l.queue l.until l.fn.made.items l.made.items

abbrev pub decreases-loop-event : goal.decreases-loop-event
decreases-loop-event l = length l.queue.pending
