use Rattle.std.proofs.Common.{◌+◌, arith}
use Rattle.laws_homing.specs.clear_groups.Sections.{turns_of}
use Rattle.laws_homing.proofs.hindered.triggers_set_up_in_time_tell_on.Goals as goal
use Rattle.laws_homing.proofs.hindered.Telling.{tell_on}

pub returns : goal.returns
returns g = λ m switches pins entries lines ready since start last until members v followed low_so exactly c before all s apart reach new b y at on on_y heard takes late.
    tell_on m v switches (pins b) entries b lines ready (since + 1) start last until members (followed b on) low_so (omega (arith, exactly)) on c before (turns_of b all) (s.plain b on) s.homes s.knows apart reach s.begins new y on_y heard takes at late
