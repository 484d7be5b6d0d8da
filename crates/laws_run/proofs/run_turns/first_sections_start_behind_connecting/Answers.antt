use Rattle.laws_run.proofs.run_turns.Starting.{starts}
use Rattle.laws_run.proofs.run_turns.Words.{run_taken}
use Rattle.laws_run.proofs.run_turns.first_sections_start_behind_connecting.Goals as goal

pub returns : goal.returns
returns g c = λ m s name files files' out out' kept kept' t r v front later cut p heard told. starts m v s front p heard r.runs.2 told r.runs.1 (run_taken g.F.Files g.S.Sink m s name files files' out out' kept kept' t r front later cut)
