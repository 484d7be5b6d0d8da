use Rattle.std.proofs.Common.{◌≡◌, ℕ, ◌-◌, ◌%◌, ◌≤◌, length}
use Rattle.frame_dump.specs.Sofar.{LineSofar}
use Rattle.frame_dump.proofs.listing.list_line.Given as goal

abbrev pub invariant-loop-end : goal.invariant-loop-end
invariant-loop-end l = record {
  within : l.at ≤ length l.bytes;
  sofar : (taken : ℕ) → l.initial.end ≡ taken % 16 → LineSofar l.d.formats l.turn taken l.initial.scanner l.bytes l.initial.lines.items l.at l.scanner l.end l.lines.items;
}

abbrev pub decreases-loop-end : goal.decreases-loop-end
decreases-loop-end l = length l.bytes - l.at
