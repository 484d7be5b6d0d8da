use Rattle.std.proofs.Common.{◌≡◌, length}
use Rattle.std.specs.Prelude.{All}
use Rattle.plan_types.specs.Machines.{IsValidBoard}
use Rattle.host_cli.specs.Traffic.{board_named}
use Rattle.host_cli.proofs.traffic.board_named.Given as goal

abbrev pub invariant-loop-rest : goal.invariant-loop-rest
invariant-loop-rest l = record {
  named : board_named l.name l.rest ≡ board_named l.name l.boards;
  valid : All IsValidBoard l.rest;
}

abbrev pub decreases-loop-rest : goal.decreases-loop-rest
decreases-loop-rest l = length l.rest
