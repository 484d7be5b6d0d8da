use Rattle.laws_homing.proofs.clear_groups.Over.{stays_over, told_over}
use Rattle.laws_homing.proofs.clear_groups.answered_sections_are_over.Goals as goal

pub returns : goal.returns
returns g = record {
  told = λ m switches c before on past told. told_over m switches c before on past told;
  stays = λ m switches later before on calm none. stays_over m switches later before on calm none;
}
