use Rattle.std.proofs.Common.{◌≡◌, [], take, drop}
use Rattle.msg_dict.specs.Format.{parameter_from}
use Rattle.msg_dict.proofs.words.is_parameter.Given as goal

abbrev pub invariant-loop-i : goal.invariant-loop-i
invariant-loop-i l = parameter_from (take l.i l.word) (drop l.i l.word) ≡ parameter_from [] l.word
