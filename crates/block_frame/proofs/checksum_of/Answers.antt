use Rattle.std.proofs.Common.{◌<◌, length, refl}
use Rattle.std.proofs.lemmas.List.{take_more}
use Rattle.block_frame.proofs.Checks.{checksum_after_append}
use Rattle.block_frame.proofs.checksum_of.Goals as goal

pub loop-byte-preserved : goal.loop-byte-preserved
loop-byte-preserved c =
    let bytes = c.args.bytes.now in
    let i = c.loop-byte.byte-index in
    let within : i < length bytes = c.loop-byte-test.true in
    rw (c.taken_in-crc.ensures, take_more bytes i 0, checksum_after_append, c.loop-byte.invariant) refl
