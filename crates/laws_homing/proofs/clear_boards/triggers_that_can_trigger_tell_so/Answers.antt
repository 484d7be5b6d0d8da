use Rattle.laws_homing.proofs.clear_boards.Reports.{reports_told}
use Rattle.laws_homing.proofs.clear_boards.triggers_that_can_trigger_tell_so.Goals as goal

pub returns : goal.returns
returns c = λ n oid until report r s here regular tick less is. reports_told n oid until report r s here regular tick less is
