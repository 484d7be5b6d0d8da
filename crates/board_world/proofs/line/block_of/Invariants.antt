use Rattle.std.proofs.Common.{◌≡◌, take}
use Rattle.board_world.proofs.line.block_of.Given as goal

abbrev pub invariant-loop-byte : goal.invariant-loop-byte
invariant-loop-byte l = l.block.items ≡ take l.byte-index l.bytes
