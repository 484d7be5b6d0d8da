use Rattle.std.proofs.Common.{length}
use Rattle.frame_dump.specs.Sofar.{DumpSofar}
use Rattle.frame_dump.proofs.listing.dump.Given as goal

abbrev pub invariant-loop-rest : goal.invariant-loop-rest
invariant-loop-rest l = DumpSofar l.d.formats l.fn.trace l.rest l.reader.waiting.items l.reader.scanner l.reader.end l.lines.items

abbrev pub decreases-loop-rest : goal.decreases-loop-rest
decreases-loop-rest l = length l.rest
