use Rattle.laws_board.proofs.clocks.Exact.{lines_exact, none_disturbs}
use Rattle.laws_board.proofs.clocks.clear_links_give_exact_lines.Goals as goal

pub returns : goal.returns
returns c = record { exact = lines_exact; unused = none_disturbs }
