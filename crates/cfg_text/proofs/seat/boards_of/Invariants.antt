use Rattle.std.proofs.Common.{◌≡◌, All, ◌++◌, drop, length}
use Rattle.cfg_text.specs.Building.{board_defs}
use Rattle.plan_types.specs.Machines.{IsValidBoard}
use Rattle.cfg_text.proofs.seat.boards_of.Given as goal

abbrev pub invariant-loop-name : goal.invariant-loop-name
invariant-loop-name l = record {
  value : l.boards ++ board_defs l.entries l.uses (drop l.name-index l.names) ≡ board_defs l.entries l.uses l.names;
  valid : All IsValidBoard l.boards;
  count : length l.boards ≡ l.name-index;
}
