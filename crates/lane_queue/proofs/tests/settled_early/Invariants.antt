use Rattle.std.proofs.Common.{◌≡◌, length}
use Rattle.lane_queue.specs.Ends.{IsSendOf, IsTakeOf, put_first, put}
use Rattle.lane_queue.proofs.tests.settled_early.Given as goal

abbrev pub invariant-loop-place : goal.invariant-loop-place
invariant-loop-place g l = record {
  send_of : IsSendOf l.lane l.send;
  take_of : IsTakeOf l.lane l.take;
  send_first : put_first l.send ≡ 7;
  so_many : length (put l.send) ≡ l.place;
  take_same : l.take ≡ l.initial.take;
}
