use Rattle.std.proofs.Common.{arith, sym}
use Rattle.plan_types.specs.Steps.{reached}
use Rattle.clock_line.proofs.Firsts.{first_from-least, IsLeast-within}
use Rattle.step_ticks.proofs.Reaching.{reached-stays, reached-end}
use Rattle.step_ticks.proofs.reach.tick_of.Goals as goal

pub least_near-requires-clause-stays : goal.least_near-requires-clause-stays
least_near-requires-clause-stays c = reached-stays c.args.segment.now c.args.freq c.args.x c.requires.valid

pub returns : goal.returns
returns c =
    let s = c.args.segment.now in
    let p = reached s c.args.freq c.args.x in
    let dur = c.requires.valid.dur_is in
    let within = IsLeast-within p s.start c.least_near.result s.end c.least_near.ensures (omega arith) (reached-end s c.args.freq c.args.x) in
    record { value = sym (first_from-least p s.dur s.start c.least_near.result c.least_near.ensures (omega arith)); within = within }
