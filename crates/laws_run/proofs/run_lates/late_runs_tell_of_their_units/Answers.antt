use Rattle.laws_run.proofs.run_lates.Naming.{run_home_units}
use Rattle.laws_run.proofs.run_lates.late_runs_tell_of_their_units.Goals as goal

pub returns : goal.returns
returns g c = λ m s name files files' out out' kept kept' t r v short text told at board first arrival spoiled spill e little.
    run_home_units g.F.Files g.S.Sink m s name files files' out out' kept kept' t r v short board first arrival spoiled spill text told at e little
