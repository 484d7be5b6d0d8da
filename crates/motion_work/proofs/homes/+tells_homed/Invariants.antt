use Rattle.std.proofs.Common.{length}
use Rattle.motion_work.proofs.homes.+tells_homed.Given as goal

abbrev pub decreases-tells_homed : goal.decreases-tells_homed
decreases-tells_homed l = length l.news.now
