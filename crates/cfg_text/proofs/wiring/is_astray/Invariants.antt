use Rattle.std.proofs.Common.{◌≡◌, length}
use Rattle.cfg_text.specs.Wiring.{is_astray}
use Rattle.cfg_text.proofs.wiring.is_astray.Given as goal

abbrev pub invariant-loop-rest : goal.invariant-loop-rest
invariant-loop-rest l = is_astray l.one l.rest ≡ is_astray l.fn.one l.fn.others

abbrev pub decreases-loop-rest : goal.decreases-loop-rest
decreases-loop-rest l = length l.rest
