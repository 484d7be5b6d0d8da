use Rattle.laws_homing.proofs.home_parts.Limits.{turns_fit}
use Rattle.laws_homing.proofs.home_parts.homing_units_keep_their_limit.Goals as goal

pub returns : goal.returns
returns c = turns_fit
