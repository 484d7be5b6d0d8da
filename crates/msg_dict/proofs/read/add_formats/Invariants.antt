use Rattle.std.proofs.Common.{◌≡◌, List, ◌++◌, map}
use Rattle.serde_json.specs.View.{members_view}
use Rattle.msg_dict.specs.Dictionary.{Named}
use Rattle.msg_dict.specs.Kept.{format_of}
use Rattle.msg_dict.specs.Reading.{formats_of}
use Rattle.msg_dict.proofs.ReadSteps.{prefixed}
use Rattle.msg_dict.proofs.read.add_formats.Given as goal

abbrev pub invariant-loop-name : goal.invariant-loop-name
invariant-loop-name l =
    (seen : List Named) × (map format_of l.out.items ≡ map format_of l.initial.out.items ++ seen)
    × (formats_of (members_view l.object.entries) ≡ prefixed seen (formats_of (members_view l.name-iterator)))
