use Rattle.std.proofs.Common.{drop}
use Rattle.step_feed.specs.Rings.{AreAtLeast}
use Rattle.step_feed.proofs.ring.place.Given as goal

abbrev pub invariant-loop-i : goal.invariant-loop-i
invariant-loop-i l = AreAtLeast l.last (drop l.i l.ends.items)
