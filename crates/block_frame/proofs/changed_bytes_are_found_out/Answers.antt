use Rattle.block_frame.proofs.Changed.{changed_is_no_block}
use Rattle.block_frame.proofs.changed_bytes_are_found_out.Goals as goal

pub returns : goal.returns
returns c = changed_is_no_block
