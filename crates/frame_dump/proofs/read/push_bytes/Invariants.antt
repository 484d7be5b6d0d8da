use Rattle.std.proofs.Common.{length}
use Rattle.frame_dump.specs.Sofar.{BytesSofar}
use Rattle.frame_dump.proofs.read.push_bytes.Given as goal

abbrev pub invariant-loop-rest : goal.invariant-loop-rest
invariant-loop-rest l = BytesSofar l.digits l.initial.into.items l.into.items l.rest

abbrev pub decreases-loop-rest : goal.decreases-loop-rest
decreases-loop-rest l = length l.rest
