use Rattle.std.proofs.Common.{◌≡◌, ℕ, ◌≤◌, []}
use Rattle.motion_work.specs.Feeds.{AreOfTurn}
use Rattle.motion_stream.specs.Rows.{batches_of, units_in}
use Rattle.motion_stream.proofs.rows.row_batches.Given as goal

abbrev pub invariant-loop-board : goal.invariant-loop-board
invariant-loop-board l =
    (l.made.items ≡ batches_of l.board l.turn [] l.fn.row.items)
    × AreOfTurn l.turn l.board l.made.items
    × ((b : ℕ) → l.board ≤ b → units_in l.row.items b ≡ units_in l.fn.row.items b)
