use Rattle.std.proofs.Common.{◌≡◌, ◌++◌, length}
use Rattle.frame_dump.specs.Text.{pulses_text}
use Rattle.frame_dump.proofs.print.put_pulses.Given as goal

abbrev pub invariant-loop-rest : goal.invariant-loop-rest
invariant-loop-rest l = l.out.items ++ pulses_text l.board l.rest ≡ l.fn.out.items ++ pulses_text l.board l.pulses

abbrev pub decreases-loop-rest : goal.decreases-loop-rest
decreases-loop-rest l = length l.rest
