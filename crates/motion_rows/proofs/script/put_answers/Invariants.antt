use Rattle.std.proofs.Common.{◌≡◌}
use Rattle.motion_rows.proofs.script.put_answers.Given as goal

abbrev pub invariant-loop-command : goal.invariant-loop-command
invariant-loop-command l = l.state.turn ≡ l.fn.state.turn
