use Rattle.std.proofs.Common.{◌≡◌, []}
use Rattle.motion_work.specs.Feeds.{AreOfTurn}
use Rattle.motion_stream.specs.Rows.{batches_of}
use Rattle.motion_stream.proofs.rows.bare_batches.Given as goal

abbrev pub invariant-loop : goal.invariant-loop
invariant-loop l = (l.made.items ≡ batches_of l.counter l.turn [] []) × AreOfTurn l.turn l.counter l.made.items
