use Rattle.digital_out.proofs.Timing.{EndsSofar}
use Rattle.digital_out.proofs.plan.ends_of.Given as goal

abbrev pub invariant-loop-i : goal.invariant-loop-i
invariant-loop-i l = EndsSofar l.machine l.clocks.items l.sections l.times.items l.i l.ready
