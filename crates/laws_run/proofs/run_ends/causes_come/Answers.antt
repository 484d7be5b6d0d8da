use Rattle.laws_run.proofs.run_ends.Coming.{first_comes, none_comes}
use Rattle.laws_run.proofs.run_ends.causes_come.Goals as goal

pub returns : goal.returns
returns c = record { none = none_comes; first = first_comes }
