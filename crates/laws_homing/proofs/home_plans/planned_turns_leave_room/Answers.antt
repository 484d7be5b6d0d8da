use Rattle.laws_homing.proofs.home_plans.Starting.{all_far, all_room}
use Rattle.laws_homing.proofs.home_plans.planned_turns_leave_room.Goals as goal

pub returns : goal.returns
returns c = record { far = all_far; room = all_room }
