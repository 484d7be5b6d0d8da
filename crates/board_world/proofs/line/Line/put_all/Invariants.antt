use Rattle.std.proofs.Common.{◌≡◌, ◌++◌, take}
use Rattle.board_world.specs.Stands.{texts}
use Rattle.board_world.proofs.line.Line.put_all.Given as goal

abbrev pub invariant-loop-block : goal.invariant-loop-block
invariant-loop-block l = l.self ≡ l.initial.self ++ texts (take l.block-index l.blocks)
