use Rattle.block_frame.proofs.Many.{all_pieces}
use Rattle.block_frame.proofs.pieces_have_the_same_blocks.Goals as goal

pub returns : goal.returns
returns c = all_pieces
