use Rattle.std.proofs.Common.{◌≡◌, ◌++◌, ◌+◌, ◌≤◌, length}
use Rattle.vlq_code.specs.Spelling.{low_bytes}
use Rattle.vlq_code.proofs.put.Given as goal

abbrev pub invariant-loop-place : goal.invariant-loop-place
invariant-loop-place l =
    (l.out.items ++ low_bytes l.place l.n ≡ l.fn.out.items ++ low_bytes l.len l.n) × (length l.out.items + l.place ≤ 64) × (1 ≤ l.place)
