use Rattle.std.proofs.Common.{length}
use Rattle.text_core.specs.Words.{words_of}
use Rattle.bed_mesh.specs.Taken.{IsSoFar}
use Rattle.bed_mesh.proofs.table.push_numbers.Given as goal

abbrev pub invariant-loop-word : goal.invariant-loop-word
invariant-loop-word l = IsSoFar (words_of l.words) l.count l.initial.into.items l.into.items l.left (words_of l.rest)

abbrev pub decreases-loop-word : goal.decreases-loop-word
decreases-loop-word l = length l.rest
