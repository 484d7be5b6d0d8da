use Rattle.std.proofs.Common.{◌≡◌, ◌+◌, length}
use Rattle.text_core.specs.Bytes.{front}
use Rattle.text_core.specs.Words.{is_inside}
use Rattle.text_core.proofs.word.word_length.Given as goal

abbrev pub invariant-loop-rest : goal.invariant-loop-rest
invariant-loop-rest l = record {
  count : l.count + length (front is_inside l.rest) ≡ length (front is_inside l.fn.text);
  room : l.count + length l.rest ≡ length l.fn.text;
}

abbrev pub decreases-loop-rest : goal.decreases-loop-rest
decreases-loop-rest l = length l.rest
