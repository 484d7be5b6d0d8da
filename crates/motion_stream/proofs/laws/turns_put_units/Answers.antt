use Rattle.motion_stream.proofs.Units.{turn_told}
use Rattle.motion_stream.proofs.laws.turns_put_units.Goals as goal

pub returns : goal.returns
returns c = turn_told
