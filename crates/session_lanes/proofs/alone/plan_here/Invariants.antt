use Rattle.std.proofs.Common.{◌≡◌, ◌+◌, ◌≤◌, length}
use Rattle.std.specs.VecDeque.{deque_capacity}
use Rattle.session_work.specs.Lates.{AreLate}
use Rattle.session_work.specs.Motions.{IsMotionAt}
use Rattle.session_work.specs.Alone.{OwesServing}
use Rattle.session_lanes.specs.Levels.{most_late}
use Rattle.session_lanes.proofs.alone.plan_here.Given as goal

abbrev pub invariant-loop-n : goal.invariant-loop-n
invariant-loop-n g l = record {
  motion : IsMotionAt g.M.MotionMachine l.place.lanes l.both.next l.place.start.now.value l.both.motion;
  late : AreLate (length l.place.lanes.batches.now) l.k l.both.motion.late.items;
  at : l.both.next ≡ l.n;
  count : l.both.next ≡ l.k + length l.both.motion.late.items;
  room : most_late ≤ deque_capacity l.both.motion.late;
  reactor : OwesServing g.A.ReactorMachine g.O.Outside l.place.lanes l.k l.place.first.now.value l.both.owed.items l.both.hand;
}
