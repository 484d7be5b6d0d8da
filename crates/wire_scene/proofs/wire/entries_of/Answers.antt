use Rattle.wire_scene.proofs.Wires.{one_more}
use Rattle.wire_scene.proofs.wire.entries_of.Goals as goal

pub loop-entry-preserved : goal.loop-entry-preserved
loop-entry-preserved c =
    one_more c.args.board c.args.way c.args.connecting c.args.entries.now c.loop-entry.entry-index c.loop-entry.found.items c.add_of.new.found.items c.loop-entry-test.true c.loop-entry.invariant c.in_ok-add_of.ensures
