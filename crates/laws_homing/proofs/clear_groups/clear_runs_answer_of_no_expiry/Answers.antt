use Rattle.laws_homing.proofs.clear_groups.Begun.{run_answers}
use Rattle.laws_homing.proofs.clear_groups.clear_runs_answer_of_no_expiry.Goals as goal

pub returns : goal.returns
returns g = λ m switches pins entries lines ready until v none c before all r reach h is b turn ends. run_answers m v switches pins entries none lines ready until c before all r reach h is b turn ends
