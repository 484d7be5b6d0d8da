use Rattle.std.proofs.Common.{◌≡◌, ◌++◌, length}
use Rattle.frame_dump.specs.Text.{dump_text}
use Rattle.frame_dump.proofs.print.dump_text.Given as goal

abbrev pub invariant-loop-rest : goal.invariant-loop-rest
invariant-loop-rest l = l.text.items ++ dump_text l.rest ≡ dump_text l.lines

abbrev pub decreases-loop-rest : goal.decreases-loop-rest
decreases-loop-rest l = length l.rest
