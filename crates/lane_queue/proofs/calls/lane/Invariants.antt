use Rattle.crossbeam_channel.specs.Ends.{sends_on, ruled_capacity}
use Rattle.lane_queue.proofs.calls.lane.Given as goal

abbrev pub ghosts-cut : goal.ghosts-cut
ghosts-cut g a = record { room = ruled_capacity (sends_on a.sender.now); first = a.first }
