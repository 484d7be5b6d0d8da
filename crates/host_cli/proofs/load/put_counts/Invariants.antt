use Rattle.std.proofs.Common.{◌≡◌, ◌++◌, take}
use Rattle.host_cli.specs.Counts.{count_lines}
use Rattle.host_cli.proofs.load.put_counts.Given as goal

abbrev pub invariant-loop-s : goal.invariant-loop-s
invariant-loop-s l = l.out.items ≡ l.initial.out.items ++ count_lines 0 (take l.s l.counts)
