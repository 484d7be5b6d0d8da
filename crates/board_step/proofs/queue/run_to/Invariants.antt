use Rattle.std.proofs.Common.{◌≡◌, ◌++◌, length}
use Rattle.plan_types.specs.Board.{pending_steps, steps_before}
use Rattle.board_step.specs.Steps.{queue_to}
use Rattle.board_step.proofs.queue.run_to.Given as goal

abbrev pub invariant-loop-step : goal.invariant-loop-step
invariant-loop-step l = record {
  queue : queue_to l.until l.queue ≡ queue_to l.until l.initial.queue;
  out : l.out.items ++ steps_before l.until l.queue.groups ≡ l.initial.out.items ++ steps_before l.until l.initial.queue.groups;
}

abbrev pub decreases-loop-step : goal.decreases-loop-step
decreases-loop-step l = length (pending_steps l.queue.groups)
