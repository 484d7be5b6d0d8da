use Rattle.std.proofs.Common.{◌≡◌, drop}
use Rattle.serde_json.specs.Data.{no_members}
use Rattle.serde_json.specs.View.{members_view}
use Rattle.msg_dict.specs.Own.{with_pins}
use Rattle.msg_dict.proofs.own.pins.Given as goal

abbrev pub invariant-loop-number : goal.invariant-loop-number
invariant-loop-number l = with_pins l.number (drop l.number l.names) (members_view l.map.entries) ≡ with_pins 0 l.names no_members
