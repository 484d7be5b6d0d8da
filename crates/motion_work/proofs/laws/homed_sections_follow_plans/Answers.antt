use Rattle.motion_work.proofs.Following.{homed_before, homed_front}
use Rattle.motion_work.proofs.Staying.{homed_stays}
use Rattle.motion_work.proofs.laws.homed_sections_follow_plans.Goals as goal

pub returns : goal.returns
returns c = record { front = homed_front; before = homed_before; stay = homed_stays }
