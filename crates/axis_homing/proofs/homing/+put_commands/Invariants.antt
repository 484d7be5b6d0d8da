use Rattle.std.proofs.Common.{length}
use Rattle.axis_homing.proofs.homing.+put_commands.Given as goal

abbrev pub decreases-put_commands : goal.decreases-put_commands
decreases-put_commands l = length l.ctls.now
