use Rattle.std.proofs.Common.{◌≡◌, length}
use Rattle.plan_types.specs.Lines.{one_line}
use Rattle.log_check.specs.Behind.{with_further}
use Rattle.log_check.proofs.further.lines_with.Given as goal

abbrev pub invariant-loop-rest : goal.invariant-loop-rest
invariant-loop-rest l = with_further l.machine l.board l.rest l.lines ≡ with_further l.machine l.board l.fn.further (one_line l.fn.first)

abbrev pub decreases-loop-rest : goal.decreases-loop-rest
decreases-loop-rest l = length l.rest
