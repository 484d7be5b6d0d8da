use Rattle.std.proofs.Common.{length}
use Rattle.board_asking.proofs.drift.+put_new_lines.Given as goal

abbrev pub decreases-put_new_lines : goal.decreases-put_new_lines
decreases-put_new_lines l = length l.before.now
