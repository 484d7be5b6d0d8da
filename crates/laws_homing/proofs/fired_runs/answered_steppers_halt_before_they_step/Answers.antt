use Rattle.laws_homing.proofs.fired_runs.Halting.{steps_find_halted}
use Rattle.laws_homing.proofs.fired_runs.answered_steppers_halt_before_they_step.Goals as goal

pub returns : goal.returns
returns g = λ m switches pins entries b c before turns h s steps v r latest a x apart reads behind none runs. steps_find_halted m v switches pins entries b c before turns h s r latest a x apart reads behind none runs steps
