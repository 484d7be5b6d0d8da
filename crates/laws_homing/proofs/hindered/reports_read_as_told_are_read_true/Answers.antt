use Rattle.laws_homing.proofs.hindered.Told.{told_switch, told_true}
use Rattle.laws_homing.proofs.hindered.reports_read_as_told_are_read_true.Goals as goal

pub returns : goal.returns
returns g = λ m switches b c before turns k. (told_true m switches b c before turns k, told_switch m switches b c before turns k)
