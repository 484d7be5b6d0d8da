use Rattle.std.proofs.Common.{◌≡◌}
use Rattle.session_work.specs.Motions.{IsFeeding}
use Rattle.session_work.proofs.motion.feed.Given as goal

abbrev pub invariant-loop : goal.invariant-loop
invariant-loop g l =
    (goal.iterator-loop g).can_next l.iterator' × (goal.iterator-loop g).is_finite l.iterator'
    × IsFeeding g.M.MotionMachine l.lanes l.k l.start.value l.motion
    × (l.motion.late ≡ l.initial.motion.late)
