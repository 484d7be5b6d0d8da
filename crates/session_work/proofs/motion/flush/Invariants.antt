use Rattle.std.proofs.Common.{◌≡◌, ◌+◌, length}
use Rattle.session_work.specs.Lates.{AreLate}
use Rattle.session_work.specs.Motions.{IsMotionAt}
use Rattle.session_work.proofs.motion.flush.Given as goal

abbrev pub invariant-loop-i : goal.invariant-loop-i
invariant-loop-i g l = record {
  at : IsMotionAt g.M.MotionMachine l.lanes l.n l.start.value l.motion;
  late : AreLate (length l.lanes.batches.now) l.i l.motion.late.items;
  count : l.n ≡ l.i + length l.motion.late.items;
}
