-- How a run ends: its exit status, and what it reports.
use Rattle.std.specs.Prelude.{◌≡◌, ℕ, []}
use Rattle.plan_types.specs.declared.cause.Cause.{Cause}
use Rattle.plan_types.specs.declared.cause.Cause.TheVariants as cause
use Rattle.session_run.specs.declared.ended.Report.{Report}

-- the exit status of a cause
abbrev pub status_of : Cause → ℕ
status_of cause.Done = 0
status_of cause.Memory = 1
status_of cause.Usage = 2
status_of cause.ReadFault = 3
status_of cause.WriteFault = 4
status_of (cause.Config line kind) = 5
status_of (cause.Scene line kind) = 6
status_of (cause.Line line kind) = 7
status_of (cause.Late board first arrival spoiled spill) = 8
status_of (cause.Asked line) = 8
status_of (cause.NoSwitch section) = 9
status_of (cause.Expired board turn) = 9
status_of (cause.Connect board turn) = 10
status_of (cause.Stale board turn) = 10
status_of (cause.Trace line kind) = 11
status_of cause.NoBoard = 12
status_of (cause.Mesh line kind) = 13
status_of cause.NoFan = 14
status_of (cause.Misfit line kind) = 15

-- a report that tells neither of pulses nor of links
pub record IsBare (r : Report) : Type 0 where
  pub no_counts : r.counts ≡ []
  pub no_links : r.links.items ≡ []
