use Rattle.laws_homing.proofs.home_runs.Joining.{answered_halt}
use Rattle.laws_homing.proofs.home_runs.answered_sections_are_halted.Goals as goal

pub returns : goal.returns
returns c = answered_halt
