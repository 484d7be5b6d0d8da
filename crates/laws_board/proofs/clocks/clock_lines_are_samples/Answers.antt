use Rattle.laws_board.proofs.clocks.Fresh.{fresh_lines}
use Rattle.laws_board.proofs.clocks.Lines.{known_lines, told_lines}
use Rattle.laws_board.proofs.clocks.clock_lines_are_samples.Goals as goal

pub returns : goal.returns
returns c = record {
  told = told_lines;
  known = known_lines;
  further = fresh_lines;
}
