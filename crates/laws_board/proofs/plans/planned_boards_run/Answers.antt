use Rattle.laws_board.proofs.plans.Running.{all_sent, orders_are, run_is, sections_are}
use Rattle.laws_board.proofs.plans.planned_boards_run.Goals as goal

pub returns : goal.returns
returns c = record { orders = orders_are; sections = sections_are; sent = all_sent; run = run_is }
