use Rattle.serde_json.specs.View.{view, members_view}
use Rattle.msg_dict.proofs.Pins.{pin_put, pin_left}
use Rattle.msg_dict.proofs.own.add_pin.Goals as goal

pub returns-in_ok-put-in-Ok : goal.returns-in_ok-put-in-Ok
returns-in_ok-put-in-Ok c =
    let text = c.in-Ok.ensures.cases in
    pin_put c.args.name.now c.in-Ok.text.now c.args.number (view c.from.result) (members_view c.args.map.now.entries) (members_view c.put.new.map.entries) text.1 text.0 c.from.ensures
    c.in_ok-put-in-Ok.ensures.ok

pub returns-in-Err : goal.returns-in-Err
returns-in-Err c = pin_left c.args.name.now c.args.number (members_view c.args.map.now.entries) c.in-Err.ensures.cases.0
