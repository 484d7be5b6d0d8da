use Rattle.std.proofs.Common.{◌*◌}
use Rattle.digital_out.proofs.Giving.{GivenSofar}
use Rattle.digital_out.proofs.carry.carry_out.Given as goal

abbrev pub invariant-loop-i : goal.invariant-loop-i
invariant-loop-i l = GivenSofar l.commands (5_000 * l.ticks) l.queue l.made.items l.i l.now
