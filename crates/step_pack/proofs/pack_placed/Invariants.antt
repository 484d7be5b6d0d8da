use Rattle.std.proofs.Common.{ℕ, ◌-◌, ◌≤◌, List, ◌++◌, length, drop}
use Rattle.step_pack.specs.declared.Placed.{Placed}
use Rattle.plan_types.specs.declared.plan.Window.{Window}
use Rattle.step_pack.specs.Placing.{PacksPlaced}
use Rattle.plan_types.specs.Packing.{RunOn}
use Rattle.step_pack.proofs.pack_placed.Given as goal

-- what packs the rest makes the triples so far whole
pub record HasPacked (start behind next : ℕ) (windows : List Window) (placed : List Placed) : Type 0 where
  pub within : next ≤ length windows
  pub run_on : RunOn behind (drop next windows)
  pub packs : (rest : List Placed) → PacksPlaced behind (drop next windows) rest → PacksPlaced start windows (placed ++ rest)

abbrev pub invariant-loop-next : goal.invariant-loop-next
invariant-loop-next l = HasPacked l.fn.last l.behind l.next l.windows.items l.all.items

abbrev pub decreases-loop-next : goal.decreases-loop-next
decreases-loop-next l = length l.windows.items - l.next
