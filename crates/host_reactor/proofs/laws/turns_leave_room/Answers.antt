use Rattle.host_reactor.proofs.Roomy.{all-have}
use Rattle.host_reactor.proofs.laws.turns_leave_room.Goals as goal

pub returns : goal.returns
returns c = all-have
