use Rattle.std.proofs.Common.{◌++◌, ◌<◌, length, arith, subst, sym}
use Rattle.std.proofs.lemmas.List.{length-set}
use Rattle.step_feed.specs.Pacing.{at_turn}
use Rattle.section_feed.specs.Feeding.{IsBoardOf}
use Rattle.section_feed.specs.Going.{HasBatch}
use Rattle.section_feed.proofs.Sectioning.{batch-next}
use Rattle.section_feed.proofs.section.batch_boards.Goals as goal

pub loop-place-preserved : goal.loop-place-preserved
loop-place-preserved c =
    let inv = c.loop-place.invariant in
    let place = c.loop-place.place in
    let inside : place < length c.loop-place.boards.items = (let l = c.len.ensures in let t = c.loop-place-test.true in omega arith) in
    let e = c.in_ok-units.ensures in
    let here : HasBatch c.args.turn (λ b. c.of.result) place c.index_mut.result.now c.batch.new.self = record {
      on = λ kinds base parts released was. subst (λ us. IsBoardOf c.batch.new.self kinds base parts (released ++ at_turn c.args.turn us)) (sym c.of.ensures) (e.on kinds base parts released was);
      time = c.batch.ensures.time;
      next = e.turn;
      set = e.set;
      goes = c.batch.ensures.goes;
      rested = e.rested;
      packed = c.batch.ensures.packed;
    } in
    record {
      boards = rw c.in_ok-push.ensures.items (batch-next c.args.turn place c.loop-place.batches.items c.of.result c.args.boards.now.items c.loop-place.boards.items c.index_mut.result.now c.batch.new.self inv.boards inv.count inside c.index_mut.ensures.value here);
      count = (let l = c.in_ok-push.ensures.len in let n = inv.count in omega arith);
      within = (let w = inv.within in let l = length-set c.loop-place.boards.items place c.batch.new.self in omega arith);
    }
