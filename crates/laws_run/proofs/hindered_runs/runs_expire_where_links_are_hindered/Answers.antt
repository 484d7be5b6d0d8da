use Rattle.laws_run.proofs.hindered_runs.Ending.{run_hindered}
use Rattle.laws_run.proofs.hindered_runs.runs_expire_where_links_are_hindered.Goals as goal

pub returns : goal.returns
returns g c = λ m s name files files' out out' kept kept' t r v short text told at board turn e little reads.
    run_hindered g.F.Files g.S.Sink m s name files files' out out' kept kept' t r v short text told at board turn e little reads
