use Rattle.laws_homing.proofs.clear_groups.Joined.{join, tracked_later}
use Rattle.laws_homing.proofs.clear_groups.boards_go_together.Goals as goal

pub returns : goal.returns
returns g = record {
  join = λ boards n d turns long. join boards n d turns long;
  later = λ own clocks early late l k. tracked_later own clocks early late l k;
}
