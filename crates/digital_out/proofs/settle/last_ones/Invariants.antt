use Rattle.std.proofs.Common.{◌≡◌, ◌++◌, length}
use Rattle.digital_out.specs.Wants.{last_ones}
use Rattle.digital_out.proofs.settle.last_ones.Given as goal

abbrev pub invariant-loop-rest : goal.invariant-loop-rest
invariant-loop-rest l = l.kept.items ++ last_ones l.rest ≡ last_ones l.fn.wants

abbrev pub decreases-loop-rest : goal.decreases-loop-rest
decreases-loop-rest l = length l.rest
