use Rattle.laws_run.proofs.home_headline.Switches.{run_ends}
use Rattle.laws_run.proofs.home_headline.homing_runs_tell_of_switches.Goals as goal

pub returns : goal.returns
returns g c = λ m s name files files' out out' kept kept' t r v text told at. run_ends g.F.Files g.S.Sink m s name files files' out out' kept kept' t r v text told at
