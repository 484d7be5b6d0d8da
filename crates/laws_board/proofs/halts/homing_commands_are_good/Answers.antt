use Rattle.laws_board.proofs.sections.HomeAll.{run_split}
use Rattle.laws_board.proofs.halts.homing_commands_are_good.Goals as goal

pub returns : goal.returns
returns c = run_split
