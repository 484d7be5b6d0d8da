use Rattle.motion_stream.proofs.Units.{end_told}
use Rattle.motion_stream.proofs.laws.ends_are_told.Goals as goal

pub returns : goal.returns
returns c = end_told
