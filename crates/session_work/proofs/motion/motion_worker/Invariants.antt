use Rattle.std.proofs.Common.{◌≡◌, []}
use Rattle.session_work.specs.Motions.{IsMotionAt}
use Rattle.session_work.proofs.motion.motion_worker.Given as goal

abbrev pub invariant-loop-k : goal.invariant-loop-k
invariant-loop-k g l = IsMotionAt g.M.MotionMachine l.lanes l.k l.start.value l.motion × (l.motion.late.items ≡ [])
