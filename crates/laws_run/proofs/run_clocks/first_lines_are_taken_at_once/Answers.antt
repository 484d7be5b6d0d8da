use Rattle.laws_run.proofs.run_clocks.First.{run_first}
use Rattle.laws_run.proofs.run_clocks.first_lines_are_taken_at_once.Goals as goal

pub returns : goal.returns
returns g c = λ m s name files files' out out' kept kept' t r v other made heard told. run_first g.F.Files g.S.Sink m s name files files' out out' kept kept' t r v other made heard told
