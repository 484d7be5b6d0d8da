use Rattle.laws_homing.proofs.home_plans.Knowing.{now_was}
use Rattle.laws_homing.proofs.home_plans.known_sections_were_begun.Goals as goal

pub returns : goal.returns
returns c = now_was
