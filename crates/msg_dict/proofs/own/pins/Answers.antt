use Rattle.msg_dict.proofs.OwnSteps.{pin_put}
use Rattle.msg_dict.proofs.own.pins.Goals as goal

pub loop-number-preserved : goal.loop-number-preserved
loop-number-preserved c =
    pin_put c.args.names.now c.loop-number.number c.index-names-number.result c.as_bytes.result.now _ _ _ c.loop-number-test.true c.index-names-number.is c.as_bytes.ensures.bytes c.in_ok-add_pin.ensures c.loop-number.invariant
