use Rattle.std.proofs.Common.{◌≡◌, ◌+◌, ◌≤◌, ◌==◌, length, count_by}
use Rattle.cfg_text.proofs.build.steppers_on.Given as goal

abbrev pub invariant-loop-rest : goal.invariant-loop-rest
invariant-loop-rest l = record { value : l.count + count_by (λ s. s.board == l.board) l.rest ≡ count_by (λ s. s.board == l.fn.board) l.fn.steppers; few : l.count + length l.rest ≤ length l.fn.steppers }

abbrev pub decreases-loop-rest : goal.decreases-loop-rest
decreases-loop-rest l = length l.rest
