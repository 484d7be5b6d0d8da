use Rattle.std.proofs.Common.{◌≡◌, ℕ, ◌+◌, ◌*◌, ◌≤◌, List, drop}
use Rattle.plan_types.specs.declared.plan.Move.{Move}
use Rattle.plan_types.specs.Sections.{end_time}
use Rattle.section_plan.specs.Runs.{move_ns}
use Rattle.section_plan.proofs.run.end_of.Given as goal

-- the moves that are left end when all do
pub record HasEnd (cruise : ℕ) (moves : List Move) (speeds : List ℕ) (begin time i : ℕ) : Type 0 where
  pub whole : end_time cruise (drop i moves) (drop i speeds) time ≡ end_time cruise moves speeds begin
  pub soon : time ≤ begin + i * move_ns

abbrev pub invariant-loop-i : goal.invariant-loop-i
invariant-loop-i l = HasEnd l.cruise l.moves l.speeds l.begin l.time l.i
