use Rattle.std.proofs.Common.{rules}
use Rattle.generated_load.proofs.load_file.LoadFiles.seek.Goals as goal
use Rattle.generated_load.proofs.load_file.LoadFiles.seek.Goals.{then-from-self, else-from-self}

pub lines-init : goal.lines-init
lines-init c = elim c.if-from-self.branch [
  | then-from-self w ↦ record { seed = search rules; moves = search rules; before = search rules }
  | else-from-self w ↦ record { seed = search rules; moves = search rules; before = search rules }
]
