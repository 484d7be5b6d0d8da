use Rattle.std.proofs.Common.{◌≡◌, ◌+◌, ◌≤◌, All, length}
use Rattle.motion_rows.proofs.script.run.Given as goal

abbrev pub invariant-loop-turn : goal.invariant-loop-turn
invariant-loop-turn l =
    (l.reactor.next ≡ l.turn) × (l.reactor.machine ≡ l.m) × All (λ s. s.turn + 1 ≡ l.turn) l.states.items × (length l.states.items ≤ length l.m.boards)
