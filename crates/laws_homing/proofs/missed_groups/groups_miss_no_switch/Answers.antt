use Rattle.laws_homing.proofs.missed_groups.Running.{run_closes, run_misses}
use Rattle.laws_homing.proofs.missed_groups.groups_miss_no_switch.Goals as goal

pub returns : goal.returns
returns c = record {
  late = λ m switches pins entries lines ready until v none d before all r reach low h is answers tick hit. run_misses m v switches pins entries none lines ready until d before all r reach low h is answers tick hit;
  closes = λ m switches pins entries lines ready until v none d before all r reach low h is tick hit early x answers. run_closes m v switches pins entries none lines ready until d before all r reach low h is tick hit early x answers;
}
