use Rattle.std.proofs.Common.{rules}
use Rattle.crossbeam_channel.specs.Claims.{view}
use Rattle.lane_queue.specs.Ends.{room, put_first, put, take_first, taken, IsSendOf, IsTakeOf}
use Rattle.lane_queue.proofs.Rules.{joins, totals}
use Rattle.lane_queue.proofs.ends.Lane.settle.Goals as goal

pub absorb-requires-clause-rule : goal.absorb-requires-clause-rule
unfolding room put_first put take_first taken IsSendOf IsTakeOf
absorb-requires-clause-rule g c = joins _ _ _ _ _ c.requires.put.1 c.requires.take.1

pub learn_as-requires-clause-rule : goal.learn_as-requires-clause-rule
unfolding room put_first put take_first taken IsSendOf IsTakeOf
learn_as-requires-clause-rule g c = totals _ _ (view c.absorb.new.pass) (search rules) (search rules)
