use Rattle.laws_run.proofs.clear_runs.Through.{sends_hold}
use Rattle.laws_run.proofs.clear_runs.clear_links_hold_nothing_long.Goals as goal

pub returns : goal.returns
returns c = λ m s text planned turns clear. sends_hold m s text planned clear turns
