use Rattle.motion_stream.proofs.Planning.{are_planned}
use Rattle.motion_stream.proofs.laws.texts_are_planned.Goals as goal

pub returns : goal.returns
returns c = are_planned
