use Rattle.std.proofs.Common.{◌≡◌, ◌-◌, ◌≤◌, drop, length}
use Rattle.plan_types.specs.Plan.{filtered}
use Rattle.step_ticks.proofs.stream.StepStream.is_given.Given as goal

abbrev pub invariant-loop-next : goal.invariant-loop-next
invariant-loop-next l = record {
  within : l.next ≤ length l.self.raw.items;
  same : filtered l.self.reach (drop l.next l.self.raw.items) ≡ filtered l.self.reach (drop l.self.next l.self.raw.items);
}

abbrev pub decreases-loop-next : goal.decreases-loop-next
decreases-loop-next l = length l.self.raw.items - l.next
