use Rattle.laws_homing.proofs.clear_boards.Held.{all_told}
use Rattle.laws_homing.proofs.clear_boards.triggers_expire_where_time_passes_them.Goals as goal

pub returns : goal.returns
returns c = λ tick steps r all fit. all_told tick steps r all fit
