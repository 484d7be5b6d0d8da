use Rattle.laws_homing.proofs.home_parts.Controls.{controls_held}
use Rattle.laws_homing.proofs.home_parts.begun_controls_are_control_commands.Goals as goal

pub returns : goal.returns
returns c = controls_held
