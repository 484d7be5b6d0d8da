use Rattle.std.proofs.Common.{◌≡◌, length}
use Rattle.text_core.specs.Bytes.{same_small}
use Rattle.text_core.proofs.bytes.same_small.Given as goal

abbrev pub invariant-loop-rest : goal.invariant-loop-rest
invariant-loop-rest l = same_small l.rest l.wanted ≡ same_small l.fn.text l.fn.name

abbrev pub decreases-loop-rest : goal.decreases-loop-rest
decreases-loop-rest l = length l.rest
