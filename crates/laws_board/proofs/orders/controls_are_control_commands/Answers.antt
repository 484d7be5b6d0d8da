use Rattle.laws_board.proofs.orders.Controlled.{controls_plain}
use Rattle.laws_board.proofs.orders.controls_are_control_commands.Goals as goal

pub returns : goal.returns
returns c = controls_plain
