use Rattle.laws_homing.proofs.clear_groups.Runs.{run_never}
use Rattle.laws_homing.proofs.clear_groups.set_up_sections_answer_of_no_expiry.Goals as goal

pub returns : goal.returns
returns g = λ m switches pins entries lines ready until from start members v none begun c before all s alone set_up reach l h is b turn ends.
    run_never m switches pins entries none lines ready until v from start members begun c before all s alone set_up reach l h is b turn ends
