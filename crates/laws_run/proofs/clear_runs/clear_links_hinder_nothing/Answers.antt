use Rattle.laws_run.proofs.clear_runs.Clearing.{run_unhindered}
use Rattle.laws_run.proofs.clear_runs.clear_links_hinder_nothing.Goals as goal

pub returns : goal.returns
returns c = run_unhindered
