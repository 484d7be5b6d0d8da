use Rattle.std.proofs.Common.{rules}
use Rattle.crossbeam_channel.specs.Claims.{view}
use Rattle.lane_queue.specs.Ends.{room, put_first, put, take_first, taken, IsSendOf, IsTakeOf}
use Rattle.lane_queue.proofs.Rules.{puts}
use Rattle.lane_queue.proofs.ends.Lane.put.Goals as goal

pub send_as-requires-clause-rule : goal.send_as-requires-clause-rule
unfolding room put_first put take_first taken IsSendOf IsTakeOf
send_as-requires-clause-rule g c = (puts _ _ _ (view c.loop.pass.pass) _ (search rules) (search rules) (search rules), λ _ _ _ _. tt)
