use Rattle.std.proofs.Common.{◌≡◌, ◌++◌, map}
use Rattle.serde_json.specs.View.{members_view}
use Rattle.msg_dict.specs.Kept.{constant_of}
use Rattle.msg_dict.specs.Reading.{constants_of}
use Rattle.msg_dict.proofs.read.constants_of.Given as goal

abbrev pub invariant-loop-key : goal.invariant-loop-key
invariant-loop-key l = map constant_of l.out.items ++ constants_of (members_view l.key-iterator) ≡ constants_of (members_view l.object.entries)
