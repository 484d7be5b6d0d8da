use Rattle.laws_run.proofs.run_ends.Counting.{run_counts}
use Rattle.laws_run.proofs.run_ends.sections_are_counted.Goals as goal

pub returns : goal.returns
returns c = run_counts
