use Rattle.laws_homing.proofs.clear_boards.Heard.{expiry_told}
use Rattle.laws_homing.proofs.clear_boards.Never.{never_expires}
use Rattle.laws_homing.proofs.clear_boards.groups_expire_only_where_told.Goals as goal

pub returns : goal.returns
returns e = record {
  told = λ m switches c before h b turn on is ends. expiry_told m switches c before h b turn on is ends;
  never = λ m switches c before h b turn on is none ends. never_expires m switches c before h b turn on is none ends;
}
