use Rattle.std.proofs.Common.{◌≡◌, ◌++◌, length, false}
use Rattle.digital_out.specs.Wants.{changes}
use Rattle.digital_out.proofs.settle.changes.Given as goal

abbrev pub invariant-loop-rest : goal.invariant-loop-rest
invariant-loop-rest l = l.kept.items ++ changes l.level l.rest ≡ changes false l.fn.wants

abbrev pub decreases-loop-rest : goal.decreases-loop-rest
decreases-loop-rest l = length l.rest
