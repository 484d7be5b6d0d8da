use Rattle.std.proofs.Common.{◌≡◌, ◌-◌, ◌≤◌, map, length}
use Rattle.std.specs.List.{range_with_len}
use Rattle.log_check.specs.Faults.{no_tally}
use Rattle.log_check.proofs.check.no_tallies.Given as goal

abbrev pub invariant-loop-tallies : goal.invariant-loop-tallies
invariant-loop-tallies l = record {
  few : length l.tallies.items ≤ length l.machine.steppers;
  same : l.tallies.items ≡ map (λ s. no_tally) (range_with_len 0 (length l.tallies.items));
}

abbrev pub decreases-loop-tallies : goal.decreases-loop-tallies
decreases-loop-tallies l = length l.machine.steppers - length l.tallies.items
