use Rattle.std.proofs.Common.{◌≡◌, ◌++◌, map}
use Rattle.serde_json.specs.View.{members_view}
use Rattle.msg_dict.specs.Kept.{choice_of}
use Rattle.msg_dict.specs.Reading.{choices_of}
use Rattle.msg_dict.proofs.read.add_choices.Given as goal

abbrev pub invariant-loop-key : goal.invariant-loop-key
invariant-loop-key l =
    map choice_of l.out.items ++ choices_of l.enumeration (members_view l.key-iterator)
    ≡ map choice_of l.initial.out.items ++ choices_of l.enumeration (members_view l.object.entries)
