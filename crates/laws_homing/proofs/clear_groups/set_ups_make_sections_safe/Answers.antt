use Rattle.laws_homing.proofs.clear_groups.Beginning.{begins_safe}
use Rattle.laws_homing.proofs.clear_groups.set_ups_make_sections_safe.Goals as goal

pub returns : goal.returns
returns g = λ m switches pins entries lines ready from start last until members followed order c d e past i j js s early low set_up reach first second h is new rest.
    begins_safe m switches pins entries lines ready from start last until members followed c d e past i j js s early low set_up order reach first second h is new rest
