use Rattle.std.proofs.Common.{◌≡◌, length}
use Rattle.board_asking.specs.Asking.{hears_first}
use Rattle.board_asking.proofs.asking.hears.Given as goal

abbrev pub invariant-loop-rest : goal.invariant-loop-rest
invariant-loop-rest l = hears_first l.turn l.rest l.a ≡ hears_first l.turn l.fn.news l.a

abbrev pub decreases-loop-rest : goal.decreases-loop-rest
decreases-loop-rest l = length l.rest
