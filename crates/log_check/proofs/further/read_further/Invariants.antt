use Rattle.std.proofs.Common.{◌≡◌, ◌<◌, ◌++◌, ◌^◌, All, length}
use Rattle.text_core.specs.Lines.{lines_of}
use Rattle.log_check.proofs.Furthers.{furthers}
use Rattle.log_check.proofs.further.read_further.Given as goal

-- those found so far, and those of the lines that are left, are all
abbrev pub invariant-loop-rest : goal.invariant-loop-rest
invariant-loop-rest l = record {
  whole : l.found.items ++ furthers l.machine (lines_of l.rest) ≡ furthers l.machine (lines_of l.fn.text);
  early : All (λ f. f.from < 2 ^ 64) l.found.items;
}

abbrev pub decreases-loop-rest : goal.decreases-loop-rest
decreases-loop-rest l = length l.rest
