use Rattle.std.proofs.Common.{arith}
use Rattle.board_sim.proofs.Used.{changed_all}
use Rattle.board_sim.proofs.machine.Machine.advance.Goals as goal

pub invariant_of-self : goal.invariant_of-self
invariant_of-self c = changed_all c.self.inside.used c.args.oid c.self.inside.triggers.items c.self.inside.endstops.items c.index_mut.result.now c.in-Some.slot _ c.self.invariant (omega (arith, c.ranges.oid.fits)) c.index_mut.ensures.value c.in-Some.is
