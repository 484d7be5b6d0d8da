use Rattle.laws_run.proofs.run_clocks.Printed.{run_printed}
use Rattle.laws_run.proofs.run_clocks.board_lines_follow_clocks.Goals as goal

pub returns : goal.returns
returns g c = λ m s name files files' out out' kept kept' t r v other. run_printed g.F.Files g.S.Sink m s name files files' out out' kept kept' t r v other
