use Rattle.std.proofs.Common.{drop}
use Rattle.step_ticks.proofs.Giving.{line-added}
use Rattle.step_ticks.proofs.stream.StepStream.add_line.Goals as goal

pub returns-clause-added : goal.returns-clause-added
returns-clause-added c = λ base segments asked out up s. (
    let it = c.args.self.now in
    rw c.in_ok-add.ensures.ok (line-added it.gear it.lines c.args.from c.args.line it.reach it.end it.last_end it.last (drop it.next it.raw.items) base segments asked out up s))
