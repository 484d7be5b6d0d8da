use Rattle.std.proofs.Common.{◌≡◌, map, take}
use Rattle.plan_types.specs.Lines.{one_line}
use Rattle.digital_out.specs.Wants.{own_line}
use Rattle.digital_out.proofs.plan.own_clocks.Given as goal

abbrev pub invariant-loop-board : goal.invariant-loop-board
invariant-loop-board l = l.clocks.items ≡ map (λ b. one_line (own_line b)) (take l.board-index l.machine.boards)
