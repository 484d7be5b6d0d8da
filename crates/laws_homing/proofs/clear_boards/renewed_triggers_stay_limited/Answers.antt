use Rattle.laws_homing.proofs.clear_boards.Limited.{stays_limited}
use Rattle.laws_homing.proofs.clear_boards.renewed_triggers_stay_limited.Goals as goal

pub returns : goal.returns
returns c = λ oid tick limit r steps k n. stays_limited oid tick limit steps r k n
