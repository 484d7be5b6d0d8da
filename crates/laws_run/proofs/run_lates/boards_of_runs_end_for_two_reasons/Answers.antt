use Rattle.laws_run.proofs.run_lates.Ending.{run_front_tells, run_home_tells}
use Rattle.laws_run.proofs.run_lates.boards_of_runs_end_for_two_reasons.Goals as goal

pub returns-clause-whole : goal.returns-clause-whole
returns-clause-whole g c = λ m s name files files' out out' kept kept' t r v short text told at other little.
    run_home_tells g.F.Files g.S.Sink m s name files files' out out' kept kept' t r v short text told at other little

pub returns-clause-before : goal.returns-clause-before
returns-clause-before g c = λ m s name files files' out out' kept kept' t r v short text told at turns last cut.
    run_front_tells g.F.Files g.S.Sink m s name files files' out out' kept kept' t r v short text told at turns last cut
