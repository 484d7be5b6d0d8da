use Rattle.laws_homing.proofs.home_runs.Ordering.{taken_in_order}
use Rattle.laws_homing.proofs.home_runs.set_ups_are_taken_in_order.Goals as goal

pub returns : goal.returns
returns c = taken_in_order
