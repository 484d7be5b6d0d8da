use Rattle.std.proofs.Common.{◌≡◌, ◌≤◌, ◌+◌, ◌-◌, ℕ, List, Some, length}
use Rattle.host_cli.specs.Outside.{IsFrontOf}
use Rattle.host_cli.proofs.source.read_text.Given as goal

abbrev pub invariant-loop-files : goal.invariant-loop-files
invariant-loop-files g l = record {
  faults : g.F.Files.faults l.files ≡ g.F.Files.faults l.fn.files;
  told : (other : List ℕ) → g.F.Files.told l.files other ≡ g.F.Files.told l.fn.files other;
  size : length l.text.items ≤ l.limit + 4096;
  front : (bytes : List ℕ) → g.F.Files.told l.fn.files l.name ≡ Some bytes → IsFrontOf bytes l.text.items;
}

abbrev pub decreases-loop-files : goal.decreases-loop-files
decreases-loop-files g l = l.limit + 1 - length l.text.items
