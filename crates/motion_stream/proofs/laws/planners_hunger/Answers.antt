use Rattle.motion_stream.proofs.Hunger.{hungry_lacks, sated_is, wants_is}
use Rattle.motion_stream.proofs.laws.planners_hunger.Goals as goal

pub returns : goal.returns
returns c = record { wants = wants_is; hungry = hungry_lacks; sated = sated_is }
