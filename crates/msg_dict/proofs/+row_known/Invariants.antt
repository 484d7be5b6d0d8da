use Rattle.std.proofs.Common.{length}
use Rattle.msg_dict.proofs.+row_known.Given as goal

abbrev pub decreases-row_known : goal.decreases-row_known
decreases-row_known l = length l.formats.now
