use Rattle.bed_mesh.proofs.Head.{after_relative, settled}
use Rattle.bed_mesh.proofs.file.read_relative.Goals as goal

pub returns : goal.returns
returns c = settled _ _ _ _ c.read_back-read.ensures.value (after_relative c.args.modes.now)
