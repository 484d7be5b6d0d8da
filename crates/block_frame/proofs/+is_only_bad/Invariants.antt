use Rattle.std.proofs.Common.{length}
use Rattle.block_frame.proofs.+is_only_bad.Given as goal

abbrev pub decreases-is_only_bad : goal.decreases-is_only_bad
decreases-is_only_bad l = length l.bytes.now
