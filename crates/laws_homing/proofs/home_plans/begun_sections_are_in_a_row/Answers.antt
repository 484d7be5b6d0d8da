use Rattle.laws_board.proofs.plans.Rows.{begun_row}
use Rattle.laws_homing.proofs.home_plans.begun_sections_are_in_a_row.Goals as goal

pub returns : goal.returns
returns c = begun_row
