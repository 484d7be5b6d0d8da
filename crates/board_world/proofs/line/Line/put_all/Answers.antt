use Rattle.std.proofs.Common.{◌∙◌}
use Rattle.board_world.proofs.Texts.{put_more}
use Rattle.board_world.proofs.line.Line.put_all.Goals as goal

pub loop-block-preserved : goal.loop-block-preserved
loop-block-preserved c =
    put_more c.args.blocks.now c.loop-block.block-index c.block-item.result c.args.self.now c.loop-block.self c.put.new.self c.block_of.result.items c.loop-block-test.true c.block-item.is
    c.loop-block.invariant (c.block_of.ensures ∙ c.as_slice.ensures.value) c.in_ok-put.ensures
