use Rattle.msg_dict.proofs.OwnSteps.{row_put}
use Rattle.msg_dict.proofs.own.rows.Goals as goal

pub loop-row-preserved : goal.loop-row-preserved
loop-row-preserved c =
    row_put c.args.rows.now c.loop-row.row-index _ c.format.result.now c.own_id.result _ _ _ _ c.loop-row-test.true c.format.ensures c.own_id.ensures c.from.ensures c.in_ok-put.ensures.ok c.loop-row.invariant
