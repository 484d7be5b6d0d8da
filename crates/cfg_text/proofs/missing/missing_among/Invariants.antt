use Rattle.std.proofs.Common.{◌≡◌, length}
use Rattle.cfg_text.specs.Missing.{missing_of}
use Rattle.cfg_text.proofs.missing.missing_among.Given as goal

abbrev pub invariant-loop-rest : goal.invariant-loop-rest
invariant-loop-rest l = missing_of l.entries l.section l.rest ≡ missing_of l.fn.entries l.fn.section l.fn.keys

abbrev pub decreases-loop-rest : goal.decreases-loop-rest
decreases-loop-rest l = length l.rest
