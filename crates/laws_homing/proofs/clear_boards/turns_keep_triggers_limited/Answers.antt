use Rattle.laws_homing.proofs.clear_boards.Member.{takes_spoken, turn_numbered, turn_spoken}
use Rattle.laws_homing.proofs.clear_boards.Small.{turn_small}
use Rattle.laws_homing.proofs.clear_boards.Turned.{relay_fires, stays_fired, turn_ahead, turn_far, turn_fired}
use Rattle.laws_homing.proofs.clear_boards.turns_keep_triggers_limited.Goals as goal

pub returns : goal.returns
returns c = record {
  ahead = λ oid tick limit next clock now until r cs at is ahead runs k some far limited. turn_ahead oid tick limit next clock now until r cs at is ahead runs k some far limited;
  fired = λ oid tick limit next clock until r cs runs k fired limited. turn_fired oid tick limit next clock until r cs runs k fired limited;
  far = λ oid tick limit clock until r cs runs k none far limited. turn_far oid tick limit clock until r cs runs k none far limited;
  stays = λ oid clock until r cs k fired. stays_fired oid clock until r cs k fired;
  small = λ oid clock until r cs k all. turn_small oid clock until r cs k all;
  spoken = λ base limit until oid clock now r cs s runs there told at ahead k none l. turn_spoken base limit until r cs (takes_spoken base limit until oid clock now r cs s runs there told at ahead k none) l;
  numbered = λ oid clock until r cs few still sole sole_still k. turn_numbered oid clock until r cs few still sole sole_still k;
  relay = λ oid clock until r cs s there runs k relays. relay_fires oid clock until r cs s there runs k relays;
}
