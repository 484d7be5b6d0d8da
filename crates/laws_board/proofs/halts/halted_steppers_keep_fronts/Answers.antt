use Rattle.laws_board.proofs.sections.Halted.{all_fair, reason_is, fronts}
use Rattle.laws_board.proofs.sections.Seeking.{late_unit}
use Rattle.laws_board.proofs.halts.halted_steppers_keep_fronts.Goals as goal

pub returns : goal.returns
returns c = record { fair = all_fair; reason = reason_is; fronts = fronts; late = late_unit }
