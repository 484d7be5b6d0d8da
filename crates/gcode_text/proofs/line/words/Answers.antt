use Rattle.std.proofs.Common.{rules}
use Rattle.gcode_text.specs.Lines.{no_words}
use Rattle.gcode_text.proofs.Rows.{row-blanks}
use Rattle.gcode_text.proofs.line.words.Goals as goal

pub loop-rest-init : goal.loop-rest-init
loop-rest-init c = record {
  letters = search rules;
  next = search rules;
  words = rw (c.new-letters.ensures, c.in_ok-rest.ensures.rest) (row-blanks c.args.text.now c.args.bare no_words);
}
