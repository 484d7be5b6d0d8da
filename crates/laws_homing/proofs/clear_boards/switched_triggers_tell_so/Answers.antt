use Rattle.laws_homing.proofs.clear_boards.Firing.{passes_gone}
use Rattle.laws_homing.proofs.clear_boards.switched_triggers_tell_so.Goals as goal

pub returns : goal.returns
returns c = λ oid base until limit r s far here all. passes_gone oid base until limit r s far here all
