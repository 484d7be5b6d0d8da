use Rattle.std.proofs.Common.{◌≡◌, ◌≤◌, true, [], drop}
use Rattle.std.specs.Prelude.{slice_range}
use Rattle.msg_dict.specs.Format.{are_words}
use Rattle.msg_dict.proofs.words.is_format.Given as goal

abbrev pub invariant-loop-at : goal.invariant-loop-at
invariant-loop-at l = record {
  within : l.from ≤ l.at;
  same : are_words l.first (slice_range l.text l.from l.at) (drop l.at l.text) ≡ are_words true [] l.text;
}
