use Rattle.laws_run.proofs.run_ends.Ending.{stops_so}
use Rattle.laws_run.proofs.run_ends.stops_are_asked_for.Goals as goal

pub returns : goal.returns
returns c = stops_so
