use Rattle.std.proofs.Common.{refl}
use Rattle.generated_load.specs.Text.{load_text}
use Rattle.generated_load.proofs.load_file.LoadFiles.at_start.Goals as goal

pub invariant_of-result : goal.invariant_of-result
unfolding load_text
invariant_of-result c = record { place = rw c.first_line.ensures refl }
