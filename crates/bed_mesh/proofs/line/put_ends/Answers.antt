use Rattle.std.proofs.Common.{◌≡◌, ◌∙◌, ap, arith, sym}
use Rattle.bed_mesh.specs.Room.{IsNearPlace}
use Rattle.bed_mesh.proofs.Writing.{ends_more, line_more, near_first, near_rest, text_more, texts_more}
use Rattle.bed_mesh.proofs.line.put_ends.Goals as goal

pub loop-place-preserved : goal.loop-place-preserved
loop-place-preserved c =
    let w = c.in_ok-put_end.ensures.written in
    let near = near_first _ _ _ c.in-Some.ensures.some c.loop-place.invariant.near in
    record {
      so_far = line_more _ _ _ _ _ _ _ _ w (ends_more _ _ _ _ _ _ _ _ _ c.in-Some.ensures.some c.loop-place.invariant.so_far);
      text = text_more _ _ _ _ _ w.text (texts_more _ _ _ _ _ _ _ _ c.in-Some.ensures.some c.loop-place.invariant.text);
      room = w.room;
      near = near_rest _ _ _ c.in-Some.ensures.some c.loop-place.invariant.near;
      last = near.e;
    }

pub put_end-requires-clause-near : goal.put_end-requires-clause-near
put_end-requires-clause-near c = near_first _ _ _ c.in-Some.ensures.some c.loop-place.invariant.near
