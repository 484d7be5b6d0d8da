use Rattle.laws_board.proofs.Names.{board_at}
use Rattle.laws_board.proofs.sections.Linking.{valid_ticks}
use Rattle.laws_homing.proofs.clear_groups.Runs.{prepared_by, quiet_all}
use Rattle.laws_homing.proofs.clear_groups.boards_stay_quiet.Goals as goal

pub returns : goal.returns
returns g = record {
  quiet = λ m switches pins entries lines ready until b v none within c before all size known alone set_up reach. (quiet_all m switches pins entries none lines ready until v b (valid_ticks (board_at m b) (v.boards b _ within)).up c before all size known alone set_up reach).0;
  prepared = λ oid base r h quiet sound. prepared_by oid base r h quiet sound;
}
