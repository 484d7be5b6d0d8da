use Rattle.laws_homing.proofs.fired_runs.Halting.{halts_or_took_none}
use Rattle.laws_homing.proofs.fired_runs.answered_sections_halt_or_wait.Goals as goal

pub returns : goal.returns
returns g = λ m switches pins entries b c before turns h s v r latest a x apart reads behind none runs. halts_or_took_none m v switches pins entries b c before turns h s r latest a x apart reads behind none runs
