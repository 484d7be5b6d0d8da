use Rattle.std.proofs.Common.{ℕ, ◌++◌}
use Rattle.section_plan.proofs.Latest.{for-each-more}
use Rattle.motion_stream.specs.Rows.{units_in}
use Rattle.motion_stream.proofs.rows.joined.Goals as goal

pub loop-board-preserved : goal.loop-board-preserved
loop-board-preserved c =
    for-each-more (λ (x : ℕ). units_in c.args.one.now x ++ units_in c.args.two.now x) c.loop-board.board c.loop-board.row c.push.new.self c.in_ok-units.units c.loop-board.invariant c.in_ok-push.ensures.ok c.in_ok-units.ensures
