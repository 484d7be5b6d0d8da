use Rattle.laws_board.proofs.sections.HomeHeeding.{home_timely}
use Rattle.laws_board.proofs.sections.Spoiled.{ten_seconds}
use Rattle.laws_board.proofs.halts.homing_links_are_timely.Goals as goal

pub returns : goal.returns
returns c = record { timely = home_timely; seconds = ten_seconds }
