use Rattle.laws_run.proofs.home_headline.Switches.{run_last}
use Rattle.laws_run.proofs.home_headline.last_turns_tell_of_no_switch.Goals as goal

pub returns : goal.returns
returns g c = λ m s name files files' out out' kept kept' t r v text told at. run_last g.F.Files g.S.Sink m s name files files' out out' kept kept' t r v text told at
