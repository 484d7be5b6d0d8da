use Rattle.std.proofs.Common.{Some}
use Rattle.lane_queue.proofs.ends.Lane.hand.Given as goal

abbrev pub ghosts-pass_on : goal.ghosts-pass_on
ghosts-pass_on g a = record { item = Some a.msg.now }
