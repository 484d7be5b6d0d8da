use Rattle.laws_homing.proofs.hindered.Expired.{stood}
use Rattle.laws_homing.proofs.hindered.boards_expire_where_links_are_hindered.Goals as goal

pub returns : goal.returns
returns g = λ m switches pins entries lines ready since start last until members v followed low set_up order c before all s of apart reach new b tick on other later t past are late x.
    stood m v switches pins entries lines ready since start last until members followed low set_up order b tick on other later t past c before all s of apart reach new are late x
