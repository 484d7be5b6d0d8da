use Rattle.std.proofs.Common.{◌≡◌, ◌+◌, ◌≤◌, length}
use Rattle.text_core.specs.Lines.{lines_of}
use Rattle.text_core.specs.Words.{worded_lines}
use Rattle.text_core.proofs.line.next_line.Given as goal

-- the lines so far have no words
abbrev pub invariant-loop-rest : goal.invariant-loop-rest
invariant-loop-rest l = record {
  same : worded_lines l.comment l.number (lines_of l.rest) ≡ worded_lines l.comment l.fn.number (lines_of l.fn.text);
  short : length l.rest ≤ length l.fn.text;
  small : l.number + length l.rest ≤ l.fn.number + length l.fn.text;
}

abbrev pub decreases-loop-rest : goal.decreases-loop-rest
decreases-loop-rest l = length l.rest
