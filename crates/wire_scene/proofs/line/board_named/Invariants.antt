use Rattle.std.proofs.Common.{◌≡◌, ◌+◌, length}
use Rattle.wire_scene.specs.Entries.{board_from}
use Rattle.wire_scene.proofs.line.board_named.Given as goal

abbrev pub invariant-loop-rest : goal.invariant-loop-rest
invariant-loop-rest l = record {
  places : l.place + length l.rest ≡ length l.fn.boards;
  found : board_from l.place l.rest l.name ≡ board_from 0 l.fn.boards l.name;
}

abbrev pub decreases-loop-rest : goal.decreases-loop-rest
decreases-loop-rest l = length l.rest
