use Rattle.std.proofs.Common.{take}
use Rattle.board_world.specs.Orders.{units_orders}
use Rattle.board_world.proofs.Queueing.{Queued}
use Rattle.board_world.proofs.orders.queue_units.Given as goal

abbrev pub invariant-loop-unit : goal.invariant-loop-unit
invariant-loop-unit l = Queued l.initial.host l.host (units_orders (take l.unit-index l.units))
