use Rattle.laws_run.proofs.run_ends.Unstopped.{never_stop}
use Rattle.laws_run.proofs.run_ends.boards_are_not_stopped.Goals as goal

pub returns : goal.returns
returns c = never_stop
