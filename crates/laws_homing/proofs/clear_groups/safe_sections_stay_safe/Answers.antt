use Rattle.laws_homing.proofs.clear_groups.Sections.{rests_safe}
use Rattle.laws_homing.proofs.clear_groups.safe_sections_stay_safe.Goals as goal

pub returns : goal.returns
returns e = λ m switches pins entries lines ready from start last until at members followed early low far c before all s reach l safe. rests_safe m switches pins entries lines ready from start last until at members followed early low far c before all s reach l safe
