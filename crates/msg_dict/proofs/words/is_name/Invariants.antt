use Rattle.std.proofs.Common.{◌≡◌, drop}
use Rattle.std.specs.List.{list_all}
use Rattle.msg_dict.specs.Format.{name_byte}
use Rattle.msg_dict.proofs.words.is_name.Given as goal

abbrev pub invariant-loop-b : goal.invariant-loop-b
invariant-loop-b l = list_all name_byte (drop l.b-index l.word) ≡ list_all name_byte l.word
