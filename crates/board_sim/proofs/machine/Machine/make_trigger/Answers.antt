use Rattle.std.proofs.Common.{arith, Some}
use Rattle.board_sim.proofs.Used.{made_all}
use Rattle.board_sim.proofs.machine.Machine.make_trigger.Goals as goal

pub invariant_of-self : goal.invariant_of-self
invariant_of-self c =
    rw c.max-self-inside.ensures (made_all c.self.inside.used c.args.oid c.self.inside.triggers.items c.self.inside.endstops.items (Some c.new.result) c.self.invariant (omega (arith, c.ranges.oid.fits)))
