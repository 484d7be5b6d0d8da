use Rattle.laws_run.proofs.clear_homes.Clear.{moves_close}
use Rattle.laws_run.proofs.clear_homes.texts_of_moves_close.Goals as goal

pub returns : goal.returns
returns c = moves_close
