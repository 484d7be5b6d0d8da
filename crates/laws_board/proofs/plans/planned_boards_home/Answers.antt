use Rattle.laws_board.proofs.plans.Homed.{home_orders, home_run, home_sections}
use Rattle.laws_board.proofs.plans.planned_boards_home.Goals as goal

pub returns : goal.returns
returns c = record { orders = home_orders; sections = home_sections; run = home_run }
