use Rattle.std.proofs.Common.{◌≡◌, length}
use Rattle.motion_stream.proofs.Rowing.{AreJoining}
use Rattle.motion_stream.proofs.rows.merged.Given as goal

abbrev pub invariant-loop : goal.invariant-loop
invariant-loop l = record {
  joining : AreJoining l.boards l.initial.one.items l.initial.two.items l.one.items l.two.items l.rows.items;
  count : length l.rows.items ≡ l.counter;
}
