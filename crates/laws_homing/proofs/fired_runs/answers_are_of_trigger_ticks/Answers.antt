use Rattle.laws_homing.proofs.fired_runs.Seeing.{answered_read}
use Rattle.laws_homing.proofs.fired_runs.answers_are_of_trigger_ticks.Goals as goal

pub returns : goal.returns
returns g = λ m switches pins entries b c before turns h tick v r latest apart reads behind is on ends. answered_read m v switches pins entries b c before turns h tick r latest apart reads behind is on ends
