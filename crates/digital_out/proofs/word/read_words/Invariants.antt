use Rattle.std.proofs.Common.{◌≡◌, ◌+◌, ◌-◌, ◌≤◌, length}
use Rattle.text_core.specs.Lines.{lines_of}
use Rattle.digital_out.specs.Words.{fan_words_in}
use Rattle.digital_out.proofs.Reading.{AreWordsSofar}
use Rattle.digital_out.proofs.word.read_words.Given as goal

abbrev pub invariant-loop-rest : goal.invariant-loop-rest
invariant-loop-rest l = record {
  rest_is : length l.rest ≡ length l.fn.text - l.start;
  near : l.start ≤ 1073741825;
  size_is : l.size ≡ length l.fn.text;
  few : l.modes.lines ≤ l.start;
  number_few : l.number ≤ l.start + 1;
  moves_few : l.moves ≤ l.modes.count;
  words : AreWordsSofar (length l.fn.text) l.modes l.number l.start l.moves (lines_of l.rest) l.words.items (fan_words_in l.fn.machine l.fn.text);
}

abbrev pub decreases-loop-rest : goal.decreases-loop-rest
decreases-loop-rest l = length l.rest
