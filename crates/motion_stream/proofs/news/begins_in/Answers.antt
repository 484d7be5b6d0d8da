use Rattle.std.proofs.Common.{arith}
use Rattle.motion_stream.proofs.Ending.{begins_next}
use Rattle.motion_stream.proofs.news.begins_in.Goals as goal

pub loop-place-preserved : goal.loop-place-preserved
loop-place-preserved c =
    let i = c.loop-place.invariant in
    let own = c.begins-count.ensures in
    let t = c.loop-place-test.true in
    let len = c.len-place-end.ensures in
    let ok = c.args.items.now.ok in
    let next = begins_next c.args.items.now.items c.loop-place.place c.index.result.now (omega (arith, t, len, ok)) c.index.ensures in
    let a = i.0 in
    let b = i.1 in
    let v = own.value in
    let s = own.small in
    (omega (arith, next, a, v), omega (arith, b, s))
