use Rattle.laws_homing.proofs.home_parts.Cut.{cuts_soon, home_run}
use Rattle.laws_homing.proofs.home_parts.begun_boards_home.Goals as goal

pub returns : goal.returns
returns c = record { run = home_run; released = cuts_soon }
