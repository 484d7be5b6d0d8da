use Rattle.laws_homing.proofs.clear_groups.Ended.{never_any}
use Rattle.laws_homing.proofs.clear_groups.safe_groups_answer_of_no_expiry.Goals as goal

pub returns : goal.returns
returns e = λ m switches pins entries lines ready from start last until at members followed early low far first c before all s reach l safe h is b turn ends.
    never_any m switches pins entries lines ready from start last until at members followed early low far first c before all s reach l safe h is b turn ends
