use Rattle.laws_homing.proofs.clear_boards.Hearing.{hears_able, hears_on}
use Rattle.laws_homing.proofs.clear_boards.groups_hear_of_able_members.Goals as goal

pub returns : goal.returns
returns c = record { new = λ b when clocks states s h few at low late t. hears_able b when clocks states s h few at low late t; on = λ b when clocks states h k. hears_on b when clocks states h k }
