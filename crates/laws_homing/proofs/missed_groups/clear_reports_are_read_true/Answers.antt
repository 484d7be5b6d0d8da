use Rattle.laws_homing.proofs.missed_groups.Reading.{runs_read}
use Rattle.laws_homing.proofs.missed_groups.clear_reports_are_read_true.Goals as goal

pub returns : goal.returns
returns g = λ m switches pins entries lines ready until v none tracks c before all r reach b low. runs_read m v switches pins entries none lines ready until tracks c before all r reach b low
