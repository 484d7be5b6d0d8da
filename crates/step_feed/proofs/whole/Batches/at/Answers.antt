use Rattle.std.proofs.Common.{sym}
use Rattle.step_feed.proofs.Together.{batch-is}
use Rattle.step_feed.proofs.whole.Batches.at.Goals as goal

pub returns : goal.returns
returns c =
    let b = c.args.self.now in
    let from = c.count_before-from.result in
    let to = c.end_of-to.result in
    let f = c.count_before-from.ensures in
    let t = c.end_of-to.ensures in
    let turns = c.deref.ensures.value in
    let again = c.deref-2.ensures.value in
    let before = rw turns at f.before in
    let after = rw turns at f.after in
    let here = rw again at t.same in
    let other = rw again at t.other in
    let within = rw again at t.within in
    rw c.deref-3.ensures.value (sym (batch-is c.args.turn from to b.units.items b.turns.items b.same b.up t.from within before after here other))
