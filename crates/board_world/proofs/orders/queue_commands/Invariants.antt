use Rattle.std.proofs.Common.{map, take}
use Rattle.board_world.specs.Orders.{plain}
use Rattle.board_world.proofs.Queueing.{Queued}
use Rattle.board_world.proofs.orders.queue_commands.Given as goal

abbrev pub invariant-loop-command : goal.invariant-loop-command
invariant-loop-command l = Queued l.initial.host l.host (map plain (take l.command-index l.commands))
