use Rattle.std.proofs.Common.{◌≡◌, ◌+◌}
use Rattle.lane_queue.specs.Ends.{IsTakeOf, next_take}
use Rattle.lane_queue.proofs.tests.take_all.Given as goal

abbrev pub invariant-loop-place : goal.invariant-loop-place
invariant-loop-place g l = record {
  pass_of : IsTakeOf l.lane l.pass;
  next : next_take l.pass ≡ 7 + l.place;
}
