use Rattle.std.proofs.Common.{arith}
use Rattle.board_sim.proofs.Used.{changed_all, same_all}
use Rattle.board_sim.proofs.machine.Machine.start.Goals as goal
use Rattle.board_sim.proofs.machine.Machine.start.Goals.{in-Some, in_default}

pub invariant_of-self : goal.invariant_of-self
invariant_of-self c =
    let used = c.self.inside.used in
    let xs = c.self.inside.triggers.items in
    let es = c.self.inside.endstops.items in
    let o = c.index_mut.result.now in
    elim c.match-index_mut.branch [
      | in-Some w ↦ rw w.self-inside-is (changed_all used c.args.oid xs es o w.in-Some.slot _ c.self.invariant (omega (arith, c.ranges.oid.fits)) c.index_mut.ensures.value w.in-Some.is)
      | in_default w ↦ rw w.self-inside-is (same_all used c.args.oid xs es o c.self.invariant c.index_mut.ensures.value)
    ]
