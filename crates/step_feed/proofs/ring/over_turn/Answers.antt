use Rattle.std.proofs.Common.{ap, arith}
use Rattle.clock_line.proofs.Turns.{turn-zero}
use Rattle.step_feed.proofs.ring.over_turn.Goals as goal

pub returns-then-last-first-clause-value : goal.returns-then-last-first-clause-value
returns-then-last-first-clause-value c =
    let clock = ap (λ l. l.clock) c.first.ensures in
    let z = turn-zero c.args.lines.now c.args.last (omega arith) in
    omega arith
