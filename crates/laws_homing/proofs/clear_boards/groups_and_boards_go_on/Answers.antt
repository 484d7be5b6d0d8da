use Rattle.laws_homing.proofs.clear_boards.Leading.{leads_on}
use Rattle.laws_homing.proofs.clear_boards.groups_and_boards_go_on.Goals as goal

pub returns : goal.returns
returns c = λ own oids bases every now next turn g h low fired timed hears same keeps relays members mode. leads_on own oids bases every now next turn g h low fired timed hears same keeps relays members mode
