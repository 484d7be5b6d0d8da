use Rattle.std.proofs.Common.{length}
use Rattle.msg_dict.proofs.+id_among.Given as goal

abbrev pub decreases-id_among : goal.decreases-id_among
decreases-id_among l = length l.formats.now
