use Rattle.std.proofs.Common.{◌≡◌, ◌++◌, length}
use Rattle.frame_dump.specs.Text.{params_text}
use Rattle.frame_dump.proofs.print.put_params.Given as goal

abbrev pub invariant-loop-rest : goal.invariant-loop-rest
invariant-loop-rest l = l.out.items ++ params_text l.rest ≡ l.fn.out.items ++ params_text l.params

abbrev pub decreases-loop-rest : goal.decreases-loop-rest
decreases-loop-rest l = length l.rest
