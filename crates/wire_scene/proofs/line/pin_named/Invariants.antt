use Rattle.std.proofs.Common.{◌≡◌, ◌+◌, length}
use Rattle.wire_scene.specs.Entries.{pin_from}
use Rattle.wire_scene.proofs.line.pin_named.Given as goal

abbrev pub invariant-loop-rest : goal.invariant-loop-rest
invariant-loop-rest l = record {
  places : l.place + length l.rest ≡ length l.fn.pins;
  found : pin_from l.place l.rest l.name ≡ pin_from 0 l.fn.pins l.name;
}

abbrev pub decreases-loop-rest : goal.decreases-loop-rest
decreases-loop-rest l = length l.rest
