use Rattle.std.proofs.Common.{◌≡◌, ◌≤◌, ◌+◌, ◌-◌, ℕ, List, Some, false, length, drop, take, if◌then◌else◌}
use Rattle.session_run.proofs.read.read_piece.Given as goal

abbrev pub invariant-loop-more : goal.invariant-loop-more
invariant-loop-more g l = record {
  faults : g.F.Files.faults l.files ≡ g.F.Files.faults l.fn.files;
  told : (other : List ℕ) → g.F.Files.told l.files other ≡ g.F.Files.told l.fn.files other;
  size : length l.bytes.items ≤ 4_096;
  front : (text : List ℕ) → g.F.Files.told l.fn.files l.name ≡ Some text → l.bytes.items ≡ take (length l.bytes.items) (drop l.at text);
  ended : l.more ≡ false → (text : List ℕ) → g.F.Files.told l.fn.files l.name ≡ Some text → length (drop l.at text) ≤ length l.bytes.items;
}

abbrev pub decreases-loop-more : goal.decreases-loop-more
decreases-loop-more g l = (if l.more then 1 else 0) + (4_096 - length l.bytes.items)
