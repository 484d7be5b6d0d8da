use Rattle.std.proofs.Common.{◌≡◌, ℕ, ◌<◌, []}
use Rattle.motion_stream.specs.Rows.{units_in}
use Rattle.motion_stream.proofs.rows.row_waits.Given as goal

abbrev pub invariant-loop-board : goal.invariant-loop-board
invariant-loop-board l = (b : ℕ) → b < l.board → units_in l.row b ≡ []
