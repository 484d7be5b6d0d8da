use Rattle.std.proofs.Common.{◌∙◌, ap, refl, List, ℕ}
use Rattle.board_sim.specs.Turn.{Station}
use Rattle.board_world.specs.World.{new_world}
use Rattle.board_world.proofs.Standing.{start_stands}
use Rattle.board_world.proofs.world.World.new.Goals as goal

pub returns : goal.returns
returns c = start_stands _ c.args.b.now c.args.pins.items c.new.ensures c.in_ok-new.ensures.is c.new-3.ensures c.new-4.ensures c.new-5.ensures.items
