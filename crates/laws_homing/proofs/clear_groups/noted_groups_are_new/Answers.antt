use Rattle.laws_homing.proofs.clear_groups.Newly.{stays_new}
use Rattle.laws_homing.proofs.clear_groups.Noted.{noted_new}
use Rattle.laws_homing.proofs.clear_groups.noted_groups_are_new.Goals as goal

pub returns : goal.returns
returns g = record {
  noted = λ m switches c before h begins is of early. noted_new m switches c before h begins is of early;
  stays = λ m switches from start last members set_up c before on homes begins of l soon new. stays_new m switches from start last members set_up c before on homes begins of l soon new;
}
