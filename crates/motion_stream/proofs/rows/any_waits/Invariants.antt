use Rattle.std.proofs.Common.{◌≡◌, ℕ, ◌<◌, []}
use Rattle.motion_stream.specs.Courses.{row_at}
use Rattle.motion_stream.proofs.rows.any_waits.Given as goal

abbrev pub invariant-loop-place : goal.invariant-loop-place
invariant-loop-place l = (i b : ℕ) → i < l.place → b < l.boards → row_at l.rows.items i b ≡ []
