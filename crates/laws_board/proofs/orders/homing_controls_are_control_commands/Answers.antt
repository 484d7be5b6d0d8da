use Rattle.laws_board.proofs.orders.Homing.{controls_in}
use Rattle.laws_board.proofs.orders.homing_controls_are_control_commands.Goals as goal

pub returns : goal.returns
returns c = controls_in
