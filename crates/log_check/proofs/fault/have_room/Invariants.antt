use Rattle.std.proofs.Common.{◌≡◌, length}
use Rattle.log_check.specs.Faults.{have_room}
use Rattle.log_check.proofs.fault.have_room.Given as goal

abbrev pub invariant-loop-rest : goal.invariant-loop-rest
invariant-loop-rest l = have_room l.rest l.moves l.turn ≡ have_room l.fn.clocks l.moves l.turn

abbrev pub decreases-loop-rest : goal.decreases-loop-rest
decreases-loop-rest l = length l.rest
