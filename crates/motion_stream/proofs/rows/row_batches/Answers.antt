use Rattle.std.proofs.Common.{ℕ, ◌++◌, ◌∙◌, [], List, false, ap, arith, refl, sym}
use Rattle.msg_code.specs.declared.unit.Batch.{Batch}
use Rattle.step_feed.specs.Units.{StepUnit}
use Rattle.section_plan.proofs.Latest.{for-each-more}
use Rattle.motion_work.proofs.Feeding.{one_batch}
use Rattle.motion_stream.specs.Rows.{units_in}
use Rattle.motion_stream.proofs.Drawing.{no_units}
use Rattle.motion_stream.proofs.rows.row_batches.Goals as goal

pub loop-board-preserved : goal.loop-board-preserved
loop-board-preserved c =
    let b = c.loop-board.board in
    let k = c.args.turn in
    let was = c.loop-board.invariant in
    let row = c.args.row.items in
    let units = c.take_units-units.result in
    let Made : List StepUnit → Batch = λ us. record { turn = k; units = us; end = false } in (
      for-each-more (λ (x : ℕ). Made (units_in [] x ++ units_in row x)) b c.loop-board.made.items c.push.new.self.items (Made units) was.0 c.in_ok-push.ensures.items
          (ap Made (c.take_units-units.ensures.units ∙ was.2 b (omega arith) ∙ sym (ap (λ us. us ++ units_in row b) (no_units b)))),
      one_batch k b c.loop-board.made.items c.push.new.self.items (Made units) was.1 refl c.in_ok-push.ensures.items,
      λ x le. c.take_units-units.ensures.others x (omega (arith, le)) ∙ was.2 x (omega (arith, le)),
    )
