use Rattle.std.proofs.Common.{◌≡◌, length}
use Rattle.log_check.specs.Faults.{lacks}
use Rattle.log_check.proofs.fault.lacks.Given as goal

abbrev pub invariant-loop-rest : goal.invariant-loop-rest
invariant-loop-rest l = lacks l.rest l.more ≡ lacks l.fn.plans l.fn.tallies

abbrev pub decreases-loop-rest : goal.decreases-loop-rest
decreases-loop-rest l = length l.rest
