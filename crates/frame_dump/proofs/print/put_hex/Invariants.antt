use Rattle.std.proofs.Common.{◌≡◌, ◌++◌, length}
use Rattle.frame_dump.specs.Text.{hex_text}
use Rattle.frame_dump.proofs.print.put_hex.Given as goal

abbrev pub invariant-loop-rest : goal.invariant-loop-rest
invariant-loop-rest l = l.out.items ++ hex_text l.rest ≡ l.fn.out.items ++ hex_text l.bytes

abbrev pub decreases-loop-rest : goal.decreases-loop-rest
decreases-loop-rest l = length l.rest
