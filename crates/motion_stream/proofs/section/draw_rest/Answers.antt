use Rattle.std.proofs.Common.{◌∙◌, ◌+◌, ◌++◌, ◌∷◌, [], List, arith, ap, length, length-append, subst, sym}
use Rattle.step_feed.specs.Units.{StepUnit}
use Rattle.motion_stream.specs.Gone.{HasGivenRows}
use Rattle.motion_stream.proofs.Taking.{given_next, given_none}
use Rattle.motion_stream.proofs.section.draw_rest.Goals as goal

pub loop-rows-init : goal.loop-rows-init
loop-rows-init c = record {
  given = subst (λ (rows : List (List (List StepUnit))). HasGivenRows c.args.section c.args.section c.args.turn rows) (sym c.new-rows.ensures.items) (given_none c.args.section c.args.turn);
  next = c.requires;
  count = let e = ap (λ (rows : List (List (List StepUnit))). length rows) c.new-rows.ensures.items in omega (arith, e);
}

pub loop-rows-preserved : goal.loop-rows-preserved
loop-rows-preserved c =
    let i = c.loop-rows.invariant in
    let e = c.in_ok-row.ensures in
    let row = c.in_ok-row.row.items in
    let are = c.in_ok-push_back.ensures.items ∙ ap (λ (r : List (List StepUnit)). c.loop-rows.rows.items ++ r ∷ []) c.of.ensures in
    record {
      given = given_next c.args.section c.loop-rows.section c.batches.new.self c.args.turn c.loop-rows.at c.loop-rows.rows.items c.push_back.new.self.items row i.given i.count are i.next c.batches.ensures.open e.boards e.sets c.batches.ensures.cruise c.batches.ensures.begin e.on;
      next = e.next ∙ ap (λ x. x + 1) i.next;
      count = let n = i.count in let l = ap (λ (rows : List (List (List StepUnit))). length rows) are ∙ length-append c.loop-rows.rows.items (row ∷ []) in omega (arith, n, l);
    }
