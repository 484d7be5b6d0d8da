use Rattle.laws_run.proofs.lanes.Whole.{have_controls}
use Rattle.laws_run.proofs.lanes.controls_are_for_all_boards.Goals as goal

pub returns : goal.returns
returns g c = have_controls g.A.ReactorMachine g.O.Outside
