use Rattle.std.proofs.Common.{◌≡◌, ◌+◌, length}
use Rattle.log_text.specs.Names.{board_from}
use Rattle.log_text.proofs.name.board_named.Given as goal

abbrev pub invariant-loop-rest : goal.invariant-loop-rest
invariant-loop-rest l = record {
  places : l.place + length l.rest ≡ length l.fn.boards;
  found : board_from l.place l.name l.rest ≡ board_from 0 l.name l.fn.boards;
}

abbrev pub decreases-loop-rest : goal.decreases-loop-rest
decreases-loop-rest l = length l.rest
