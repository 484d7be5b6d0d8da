use Rattle.std.proofs.Common.{◌≡◌, ◌+◌}
use Rattle.lane_queue.specs.Ends.{IsSendOf, next_put}
use Rattle.lane_queue.proofs.tests.put_all.Given as goal

abbrev pub invariant-loop-place : goal.invariant-loop-place
invariant-loop-place g l = record {
  pass_of : IsSendOf l.lane l.pass;
  next : next_put l.pass ≡ 7 + l.place;
}
