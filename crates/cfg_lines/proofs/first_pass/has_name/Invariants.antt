use Rattle.std.proofs.Common.{◌≡◌, length}
use Rattle.cfg_lines.specs.Items.{has_name}
use Rattle.cfg_lines.proofs.first_pass.has_name.Given as goal

abbrev pub invariant-loop-rest : goal.invariant-loop-rest
invariant-loop-rest l = has_name l.rest l.fn.name ≡ has_name l.fn.names l.fn.name

abbrev pub decreases-loop-rest : goal.decreases-loop-rest
decreases-loop-rest l = length l.rest
