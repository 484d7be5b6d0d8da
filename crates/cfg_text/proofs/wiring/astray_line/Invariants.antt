use Rattle.std.proofs.Common.{◌≡◌, length}
use Rattle.cfg_text.specs.Wiring.{first_astray}
use Rattle.cfg_text.proofs.wiring.astray_line.Given as goal

abbrev pub invariant-loop-rest : goal.invariant-loop-rest
invariant-loop-rest l = first_astray l.uses l.rest ≡ first_astray l.fn.uses l.fn.uses

abbrev pub decreases-loop-rest : goal.decreases-loop-rest
decreases-loop-rest l = length l.rest
