use Rattle.std.proofs.Common.{◌∙◌}
use Rattle.msg_dict.proofs.OwnSteps.{row_listed}
use Rattle.msg_dict.proofs.own.formats.Goals as goal

pub loop-row-preserved : goal.loop-row-preserved
loop-row-preserved c =
    row_listed c.args.rows.now c.loop-row.row-index _ c.new.result c.loop-row.formats.items c.push.new.self.items c.loop-row-test.true
    (c.new.ensures.text ∙ c.in_ok-text.ensures.items ∙ c.as_bytes.ensures.value ∙ c.format.ensures) (c.new.ensures.id ∙ c.own_id.ensures) c.in_ok-push.ensures.items c.loop-row.invariant
