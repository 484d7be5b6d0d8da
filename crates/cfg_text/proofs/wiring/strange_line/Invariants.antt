use Rattle.std.proofs.Common.{◌≡◌, length}
use Rattle.cfg_text.specs.Wiring.{first_strange}
use Rattle.cfg_text.proofs.wiring.strange_line.Given as goal

abbrev pub invariant-loop-rest : goal.invariant-loop-rest
invariant-loop-rest l = first_strange l.boards l.rest ≡ first_strange l.fn.boards l.fn.entries

abbrev pub decreases-loop-rest : goal.decreases-loop-rest
decreases-loop-rest l = length l.rest
