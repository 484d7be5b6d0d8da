use Rattle.std.proofs.Common.{arith}
use Rattle.board_sim.proofs.Used.{changed_all}
use Rattle.board_sim.proofs.machine.Machine.bind.Goals as goal

pub invariant_of-self : goal.invariant_of-self
invariant_of-self c = changed_all c.self.inside.used c.args.other c.self.inside.triggers.items c.self.inside.endstops.items c.index_mut.result.now c.in-Some.slot _ c.self.invariant (omega (arith, c.ranges.other.fits)) c.index_mut.ensures.value c.in-Some.is

pub invariant_of-self-in_err-bind : goal.invariant_of-self-in_err-bind
invariant_of-self-in_err-bind c = changed_all c.self.inside.used c.args.other c.self.inside.triggers.items c.self.inside.endstops.items c.index_mut.result.now c.in-Some.slot _ c.self.invariant (omega (arith, c.ranges.other.fits)) c.index_mut.ensures.value c.in-Some.is
