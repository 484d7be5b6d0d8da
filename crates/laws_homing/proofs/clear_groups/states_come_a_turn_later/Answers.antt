use Rattle.laws_homing.proofs.clear_groups.Noted.{states_of_turn}
use Rattle.laws_homing.proofs.clear_groups.states_come_a_turn_later.Goals as goal

pub returns : goal.returns
returns g = λ m switches pins entries c before all have runs. states_of_turn m switches pins entries c before all have runs
