use Rattle.std.proofs.Common.{arith}
use Rattle.section_stream.proofs.Laying.{turn-small}
use Rattle.section_feed.proofs.steppers.turn_of.Goals as goal

pub turn-requires-clause-small : goal.turn-requires-clause-small
turn-requires-clause-small c = turn-small c.args.lines.now c.args.tick (let t = c.if-tick-ge-TICK_LIMIT.false in omega arith) c.requires
