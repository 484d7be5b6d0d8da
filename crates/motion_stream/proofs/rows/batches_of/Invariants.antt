use Rattle.std.proofs.Common.{◌≡◌}
use Rattle.motion_work.specs.Feeds.{AreOfTurn}
use Rattle.motion_stream.specs.Rows.{batches_of}
use Rattle.motion_stream.proofs.rows.batches_of.Given as goal

abbrev pub invariant-loop-board : goal.invariant-loop-board
invariant-loop-board l = (l.made.items ≡ batches_of l.board l.turn l.one l.two) × AreOfTurn l.turn l.board l.made.items
