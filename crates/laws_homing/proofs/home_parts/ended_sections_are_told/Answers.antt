use Rattle.laws_homing.proofs.home_parts.Told.{all_told}
use Rattle.laws_homing.proofs.home_parts.ended_sections_are_told.Goals as goal

pub returns : goal.returns
returns c = all_told
