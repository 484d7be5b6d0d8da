use Rattle.std.proofs.Common.{arith}
use Rattle.block_frame.proofs.Checks.{words}
use Rattle.block_frame.proofs.taken_in.Goals as goal

pub returns : goal.returns
returns c = rw c.from.ensures (words c.args.crc c.args.byte (omega arith) (omega arith))
