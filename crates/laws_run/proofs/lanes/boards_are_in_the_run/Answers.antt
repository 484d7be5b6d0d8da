use Rattle.laws_run.proofs.lanes.Whole.{in_whole}
use Rattle.laws_run.proofs.lanes.boards_are_in_the_run.Goals as goal

pub returns : goal.returns
returns g c = in_whole g.M.MotionMachine g.L.LinkMachine g.A.ReactorMachine g.O.Outside
