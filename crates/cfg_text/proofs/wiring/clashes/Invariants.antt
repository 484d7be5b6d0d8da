use Rattle.std.proofs.Common.{◌≡◌, length}
use Rattle.cfg_text.specs.Wiring.{clashes}
use Rattle.cfg_text.proofs.wiring.clashes.Given as goal

abbrev pub invariant-loop-rest : goal.invariant-loop-rest
invariant-loop-rest l = clashes l.one l.rest ≡ clashes l.fn.one l.fn.others

abbrev pub decreases-loop-rest : goal.decreases-loop-rest
decreases-loop-rest l = length l.rest
