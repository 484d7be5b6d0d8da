use Rattle.std.proofs.Common.{◌∙◌, sym, arith}
use Rattle.frame_dump.proofs.Reading.{all_bytes, more_bytes, no_byte, odd_byte}
use Rattle.frame_dump.proofs.read.push_bytes.Goals as goal

pub loop-rest-preserved : goal.loop-rest-preserved
loop-rest-preserved c = more_bytes _ _ _ _ c.loop-rest.rest.now _ c.in-len2-up.len_at_least (sym c.byte_of.ensures ∙ c.in-Some.is) c.in_ok-push.ensures.items c.loop-rest.invariant
