use Rattle.laws_homing.proofs.clear_groups.Owning.{one_trigger}
use Rattle.laws_homing.proofs.clear_groups.boards_have_one_trigger.Goals as goal

pub returns : goal.returns
returns g = λ m switches pins entries b came turns v none r limits n runs. (
    let x = one_trigger m switches pins entries b came turns v none r limits n runs in
    record { sole = x.0; slot = x.1.slot; is = x.1.is; so = tt })
