use Rattle.std.proofs.Common.{ℕ, ◌++◌, List, false, ap, refl}
use Rattle.msg_code.specs.declared.unit.Batch.{Batch}
use Rattle.step_feed.specs.Units.{StepUnit}
use Rattle.section_plan.proofs.Latest.{for-each-more}
use Rattle.motion_work.proofs.Feeding.{one_batch}
use Rattle.motion_stream.specs.Rows.{units_in}
use Rattle.motion_stream.proofs.rows.batches_of.Goals as goal

pub loop-board-preserved : goal.loop-board-preserved
loop-board-preserved c =
    let b = c.loop-board.board in
    let k = c.args.turn in
    let Made : List StepUnit → Batch = λ us. record { turn = k; units = us; end = false } in (
      for-each-more (λ (x : ℕ). Made (units_in c.args.one.now x ++ units_in c.args.two.now x)) b c.loop-board.made.items c.push.new.self.items (Made c.in_ok-units.units) c.loop-board.invariant.0 c.in_ok-push.ensures.items (ap Made c.in_ok-units.ensures),
      one_batch k b c.loop-board.made.items c.push.new.self.items (Made c.in_ok-units.units) c.loop-board.invariant.1 refl c.in_ok-push.ensures.items,
    )
