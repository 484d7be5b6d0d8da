use Rattle.std.proofs.Common.{◌≡◌, length, true}
use Rattle.text_core.specs.Bytes.{ends_or_begins, is_letter}
use Rattle.gcode_text.specs.Lines.{row, no_words}
use Rattle.gcode_text.proofs.line.words.Given as goal

abbrev pub invariant-loop-rest : goal.invariant-loop-rest
invariant-loop-rest l = record {
  letters : length l.letters ≡ 26;
  next : ends_or_begins is_letter l.rest ≡ true;
  words : row l.bare l.letters l.rest ≡ row l.bare no_words l.fn.text;
}

abbrev pub decreases-loop-rest : goal.decreases-loop-rest
decreases-loop-rest l = length l.rest
