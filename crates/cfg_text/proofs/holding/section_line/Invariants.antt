use Rattle.std.proofs.Common.{◌≡◌, length}
use Rattle.cfg_text.specs.Holding.{first_line_of}
use Rattle.cfg_text.proofs.holding.section_line.Given as goal

abbrev pub invariant-loop-rest : goal.invariant-loop-rest
invariant-loop-rest l = first_line_of l.section l.rest ≡ first_line_of l.fn.section l.fn.entries

abbrev pub decreases-loop-rest : goal.decreases-loop-rest
decreases-loop-rest l = length l.rest
