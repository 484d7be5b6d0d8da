use Rattle.std.proofs.Common.{arith}
use Rattle.laws_homing.proofs.hindered.Expired.{stood_lately}
use Rattle.laws_homing.proofs.hindered.boards_expire_where_links_are_hindered_lately.Goals as goal

pub returns : goal.returns
returns g = λ m switches pins entries lines ready since start last until members v followed low_so exactly order c before all s apart reach new b tick at on heard other later t past are late begun ends way could round x.
    stood_lately m v switches pins entries lines ready since start last until members followed low_so (omega (arith, exactly)) order exactly at begun ends b on tick other later t past c before all s apart reach new heard are late way could round x
