use Rattle.laws_homing.proofs.missed_runs.Relays.{group_missed}
use Rattle.laws_homing.proofs.missed_runs.unswitched_sections_miss_their_switch.Goals as goal

pub returns : goal.returns
returns g = λ m switches pins entries clocks ready c before turns h v is after apart knows connected all low there answers. group_missed m v switches pins entries clocks ready c before turns h is after apart knows connected all low there answers
