use Rattle.std.proofs.Common.{◌≡◌, ℕ, ◌++◌, map}
use Rattle.std.specs.List.{range_with_len}
use Rattle.motion_stream.specs.Rows.{units_in}
use Rattle.motion_stream.proofs.rows.joined.Given as goal

abbrev pub invariant-loop-board : goal.invariant-loop-board
invariant-loop-board l = l.row ≡ map (λ (b : ℕ). units_in l.one b ++ units_in l.two b) (range_with_len 0 l.board)
