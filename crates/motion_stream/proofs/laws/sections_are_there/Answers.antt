use Rattle.motion_stream.proofs.Wholing.{are_there}
use Rattle.motion_stream.proofs.laws.sections_are_there.Goals as goal

pub returns : goal.returns
returns c = are_there
