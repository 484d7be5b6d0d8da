use Rattle.laws_homing.proofs.home_parts.Set.{all_set}
use Rattle.laws_homing.proofs.home_parts.begun_clocks_are_set.Goals as goal

pub returns : goal.returns
returns c = all_set
