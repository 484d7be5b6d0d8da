use Rattle.std.proofs.Common.{◌≡◌, ◌++◌, take}
use Rattle.link_core.specs.Host.{acked_of}
use Rattle.board_world.specs.Stands.{blocks_from}
use Rattle.board_world.proofs.Resending.{first_again}
use Rattle.board_world.proofs.world.put_all_again.Given as goal

abbrev pub invariant-loop-i : goal.invariant-loop-i
invariant-loop-i l = record {
  host : l.host ≡ first_again l.initial.host l.i;
  down : l.down ≡ l.initial.down ++ blocks_from (acked_of l.initial.host) (take l.i l.initial.host.contents);
}
