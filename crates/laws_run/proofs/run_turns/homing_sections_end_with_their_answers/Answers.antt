use Rattle.laws_run.proofs.run_turns.Ending.{ends, turns_end}
use Rattle.laws_run.proofs.run_turns.Words.{run_taken}
use Rattle.laws_run.proofs.run_turns.homing_sections_end_with_their_answers.Goals as goal

pub returns : goal.returns
returns g c = record {
  ends = λ m s name files files' out out' kept kept' t r front later cut p past x others axis.
      ends m s front p r.runs.1 (run_taken g.F.Files g.S.Sink m s name files files' out out' kept kept' t r front later cut) past x others axis;
  cuts = λ m s name files files' out out' kept kept' t r front later cut p. turns_end m s front p r.runs.1 (run_taken g.F.Files g.S.Sink m s name files files' out out' kept kept' t r front later cut);
}
