use Rattle.std.proofs.Common.{◌≡◌, ℕ, ◌+◌, ◌*◌, ◌≤◌, ◌++◌, List, drop}
use Rattle.plan_types.specs.declared.plan.Move.{Move}
use Rattle.section_plan.specs.Ends.{move_ends}
use Rattle.section_plan.specs.Runs.{move_ns}
use Rattle.section_plan.proofs.ends.put_ends.Given as goal

-- the ends of the moves so far, and of those that are left, are those of all
pub record HasEnds (cruise : ℕ) (moves : List Move) (speeds : List ℕ) (begin time i : ℕ) (old made : List ℕ) : Type 0 where
  pub whole : made ++ move_ends cruise (drop i moves) (drop i speeds) time ≡ old ++ move_ends cruise moves speeds begin
  pub soon : time ≤ begin + i * move_ns

abbrev pub invariant-loop-i : goal.invariant-loop-i
invariant-loop-i l = HasEnds l.cruise l.moves l.speeds l.begin l.time l.i l.fn.out.items l.out.items
