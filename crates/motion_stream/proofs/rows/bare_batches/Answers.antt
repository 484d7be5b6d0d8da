use Rattle.std.proofs.Common.{ℕ, ◌++◌, ◌∙◌, [], List, false, ap, refl, sym}
use Rattle.msg_code.specs.declared.unit.Batch.{Batch}
use Rattle.step_feed.specs.Units.{StepUnit}
use Rattle.section_plan.proofs.Latest.{for-each-more}
use Rattle.motion_work.proofs.Feeding.{one_batch}
use Rattle.motion_stream.specs.Rows.{units_in}
use Rattle.motion_stream.proofs.Drawing.{no_units}
use Rattle.motion_stream.proofs.rows.bare_batches.Goals as goal

pub loop-preserved : goal.loop-preserved
loop-preserved c =
    let b = c.loop.counter in
    let k = c.args.turn in
    let Made : List StepUnit → Batch = λ us. record { turn = k; units = us; end = false } in (
      for-each-more (λ (x : ℕ). Made (units_in [] x ++ units_in [] x)) b c.loop.made.items c.push.new.self.items (Made c.new.result) c.loop.invariant.0 c.in_ok-push.ensures.items (ap Made (c.new.ensures ∙ sym (ap (λ us. us ++ units_in [] b) (no_units b) ∙ no_units b))),
      one_batch k b c.loop.made.items c.push.new.self.items (Made c.new.result) c.loop.invariant.1 refl c.in_ok-push.ensures.items,
    )
