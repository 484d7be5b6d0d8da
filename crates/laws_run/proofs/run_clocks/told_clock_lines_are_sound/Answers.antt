use Rattle.laws_run.proofs.run_clocks.Sound.{run_sound}
use Rattle.laws_run.proofs.run_clocks.told_clock_lines_are_sound.Goals as goal

pub returns : goal.returns
returns g c = λ m s name files files' out out' kept kept' t r v other made heard told. run_sound g.F.Files g.S.Sink m s name files files' out out' kept kept' t r v other made heard told
