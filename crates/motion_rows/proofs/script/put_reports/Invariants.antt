use Rattle.std.proofs.Common.{◌≡◌}
use Rattle.motion_rows.proofs.script.put_reports.Given as goal

abbrev pub invariant-loop-trigger : goal.invariant-loop-trigger
invariant-loop-trigger l = l.state.turn ≡ l.fn.state.turn
