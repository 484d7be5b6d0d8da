use Rattle.laws_board.proofs.groups.Grouped.{by_end, by_fired, by_heard}
use Rattle.laws_board.proofs.groups.members_stop_in_time.Goals as goal

pub returns : goal.returns
returns c = record { end = by_end; heard = by_heard; fired = by_fired }
