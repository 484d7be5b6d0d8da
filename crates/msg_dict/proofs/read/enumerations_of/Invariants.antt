use Rattle.std.proofs.Common.{◌≡◌, ◌++◌, map}
use Rattle.serde_json.specs.View.{members_view}
use Rattle.msg_dict.specs.Kept.{choice_of}
use Rattle.msg_dict.specs.Reading.{enumerations_of}
use Rattle.msg_dict.proofs.read.enumerations_of.Given as goal

abbrev pub invariant-loop-key : goal.invariant-loop-key
invariant-loop-key l = map choice_of l.out.items ++ enumerations_of (members_view l.key-iterator) ≡ enumerations_of (members_view l.object.entries)
