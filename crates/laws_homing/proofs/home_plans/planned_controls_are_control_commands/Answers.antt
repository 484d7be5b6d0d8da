use Rattle.laws_homing.proofs.home_plans.Controlling.{all_hold}
use Rattle.laws_homing.proofs.home_plans.planned_controls_are_control_commands.Goals as goal

pub returns : goal.returns
returns c = all_hold
