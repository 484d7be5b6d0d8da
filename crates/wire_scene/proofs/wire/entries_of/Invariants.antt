use Rattle.std.proofs.Common.{◌≡◌, take}
use Rattle.wire_scene.specs.Wire.{entries_of}
use Rattle.wire_scene.proofs.wire.entries_of.Given as goal

abbrev pub invariant-loop-entry : goal.invariant-loop-entry
invariant-loop-entry l = l.found.items ≡ entries_of l.board l.way l.connecting (take l.entry-index l.entries)
