use Rattle.laws_homing.proofs.clear_boards.Ordered.{turn_ordered}
use Rattle.laws_homing.proofs.clear_boards.homing_turns_are_ordered.Goals as goal

pub returns : goal.returns
returns e = λ m switches pins entries b c before t turns h r is n goes. turn_ordered m switches pins entries b c before t turns h r is n goes
