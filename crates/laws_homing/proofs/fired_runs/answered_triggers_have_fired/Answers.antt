use Rattle.laws_homing.proofs.fired_runs.Rested.{answered_fired}
use Rattle.laws_homing.proofs.fired_runs.answered_triggers_have_fired.Goals as goal

pub returns : goal.returns
returns g = λ m switches pins entries b c before turns h e v r latest apart reads behind is ends member. answered_fired m v switches pins entries b c before turns h e r latest apart reads behind is ends member
