use Rattle.laws_homing.proofs.home_runs.Grouped.{answered_told}
use Rattle.laws_homing.proofs.home_runs.groups_hear_their_members.Goals as goal

pub returns : goal.returns
returns c = answered_told
