use Rattle.laws_homing.proofs.home_parts.Movers.{all_movers}
use Rattle.laws_homing.proofs.home_parts.begun_steppers_move.Goals as goal

pub returns : goal.returns
returns c = all_movers
