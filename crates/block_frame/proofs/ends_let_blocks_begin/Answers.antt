use Rattle.block_frame.proofs.Begin.{begin_behind_ends}
use Rattle.block_frame.proofs.ends_let_blocks_begin.Goals as goal

pub returns : goal.returns
returns c = begin_behind_ends
