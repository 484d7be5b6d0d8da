use Rattle.bed_mesh.proofs.Head.{after_absolute, settled}
use Rattle.bed_mesh.proofs.file.read_absolute.Goals as goal

pub returns : goal.returns
returns c = settled _ _ _ _ c.read_back-read.ensures.value (after_absolute c.args.modes.now)
