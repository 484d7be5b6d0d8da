use Rattle.std.proofs.Common.{◌≡◌, ◌++◌, replicate}
use Rattle.block_frame.proofs.add_ends.Given as goal

abbrev pub invariant-loop : goal.invariant-loop
invariant-loop l = l.bytes.items ≡ l.fn.bytes.items ++ replicate l.counter 126
