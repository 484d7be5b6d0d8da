use Rattle.laws_homing.proofs.clear_groups.Newly.{begun_never}
use Rattle.laws_homing.proofs.clear_groups.begun_sections_answer_of_no_expiry.Goals as goal

pub returns : goal.returns
returns g = λ m switches pins entries lines ready from start last until members followed low set_up order c before all s of reach l new rest h is b turn ends.
    begun_never m switches pins entries lines ready from start last until members followed low set_up order c before all s of reach l new rest h is b turn ends
