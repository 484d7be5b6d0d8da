use Rattle.std.proofs.Common.{◌+◌, ◌-◌, length}
use Rattle.step_feed.specs.Fed.{AreGrown}
use Rattle.step_feed.proofs.stream.grow.Given as goal

abbrev pub invariant-loop-alloc : goal.invariant-loop-alloc
invariant-loop-alloc l = AreGrown l.slots l.fn.rings.items l.rings.items

abbrev pub decreases-loop-alloc : goal.decreases-loop-alloc
decreases-loop-alloc l = l.stepper + 1 - length l.rings.items
