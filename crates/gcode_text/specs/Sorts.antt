-- A line sorted by its command, before its words are read.
use Rattle.std.specs.Prelude.{Result, Ok, Err}
use Rattle.gcode_text.specs.declared.word.Word.{Word}
use Rattle.gcode_text.specs.declared.word.Word.TheVariants as words
use Rattle.gcode_text.specs.declared.fault.FaultKind.{FaultKind}
use Rattle.gcode_text.specs.declared.line.Sorted.{Sorted}
use Rattle.gcode_text.specs.declared.line.Sorted.TheVariants as sorts
use Rattle.gcode_text.specs.Lines.{given_words, takes_bare, word_with, ◌>>=◌}

-- what the line is when its words are read
abbrev pub finished : Result Sorted FaultKind → Result Word FaultKind
finished (Ok sorts.Blank) = Ok words.Blank
finished (Ok sorts.Passed) = Ok words.Passed
finished (Ok (sorts.Row name text)) = given_words (takes_bare name) text.now >>= λ slots. Ok (word_with name slots)
finished (Err kind) = Err kind
