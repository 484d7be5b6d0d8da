use Rattle.std.proofs.Common.{◌++◌, List, drop}
use Rattle.digital_out.specs.declared.want.Want.{Want}
use Rattle.digital_out.specs.Refreshes.{AreRefreshed}
use Rattle.digital_out.proofs.refresh.refreshed.Given as goal

-- the commands of the wants so far may be followed by those of the wants that are left
abbrev pub invariant-loop-i : goal.invariant-loop-i
invariant-loop-i l = (ws : List Want) → AreRefreshed l.every (drop l.i l.wants) ws → AreRefreshed l.every l.wants (l.out.items ++ ws)
