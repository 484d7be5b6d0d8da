use Rattle.std.proofs.Common.{◌≡◌}
use Rattle.session_work.specs.Motions.{IsHearing}
use Rattle.session_work.proofs.motion.hear_more.Given as goal

abbrev pub invariant-loop : goal.invariant-loop
invariant-loop g l =
    (goal.iterator-loop g).can_next l.iterator' × (goal.iterator-loop g).is_finite l.iterator'
    × IsHearing g.M.MotionMachine l.lanes l.k l.start.value l.motion
    × (l.motion.late ≡ l.initial.motion.late)
