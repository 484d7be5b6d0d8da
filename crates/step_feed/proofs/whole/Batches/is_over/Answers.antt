use Rattle.std.proofs.Common.{◌≡◌, ℕ, ◌<◌, ◌≤◌, length, arith}
use Rattle.step_feed.proofs.Overs.{none_behind}
use Rattle.step_feed.proofs.whole.Batches.is_over.Goals as goal

pub returns : goal.returns
returns c = λ is k le.
    let all = c.if-before-len.false in
    let before = rw c.deref.ensures.value at c.count_before-before.ensures.before in
    none_behind c.args.self.now.units.items c.args.self.now.turns.items c.args.turn k le (λ j lt. before j (omega (arith, all, lt)))
