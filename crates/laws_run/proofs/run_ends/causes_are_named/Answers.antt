use Rattle.laws_run.proofs.run_ends.Ending.{ends_so}
use Rattle.laws_run.proofs.run_ends.causes_are_named.Goals as goal

pub returns : goal.returns
returns c = ends_so
