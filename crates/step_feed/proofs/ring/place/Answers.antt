use Rattle.std.proofs.Common.{◌-◌, ◌<◌, length, arith}
use Rattle.std.proofs.lemmas.List.{get_or_default}
use Rattle.step_feed.proofs.Rings.{at-place}
use Rattle.step_feed.proofs.ring.place.Goals as goal

pub returns-then-index-last-clause-below : goal.returns-then-index-last-clause-below
returns-then-index-last-clause-below c =
    let i = c.loop-i.i - 1 in
    let es = c.args.ends.now.items in
    let known = c.args.ends.now.ok in
    let inside : i < length es = omega arith in
    let read = get_or_default es i c.index.result.now 0 inside in
    at-place c.args.last es i c.requires inside (omega arith)
