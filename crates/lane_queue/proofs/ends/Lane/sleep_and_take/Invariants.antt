use Rattle.std.proofs.Common.{◌≡◌}
use Rattle.crossbeam_channel.specs.Claims.{view, IsSeatAt}
use Rattle.crossbeam_channel.specs.Ends.{sends_on}
use Rattle.lane_queue.proofs.ends.Lane.sleep_and_take.Given as goal

abbrev pub invariant-loop : goal.invariant-loop
invariant-loop g l = IsSeatAt (sends_on l.self.sender) l.pass.pass × (view l.pass.pass ≡ view l.initial.pass.pass)
