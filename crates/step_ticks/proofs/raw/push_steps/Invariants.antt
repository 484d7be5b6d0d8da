use Rattle.std.proofs.Common.{◌≡◌, ℕ, ◌+◌, ◌*◌, ◌<◌, List, ◌++◌, map}
use Rattle.std.specs.List.{range_with_len}
use Rattle.plan_types.specs.declared.plan.Planned.{Planned}
use Rattle.plan_types.specs.Steps.{raw_step}
use Rattle.step_ticks.proofs.raw.push_steps.Given as goal

-- the first k steps of the segment stand behind what was there, and the mark is that of the next one
pub record HasSteps (old new : List Planned) (step : ℕ → Planned) (ahead per each at over k : ℕ) : Type 0 where
  pub steps : new ≡ old ++ map step (range_with_len 1 k)
  pub is_at : ahead + per * at ≡ (k + 1) * each + over
  pub is_near : over < per

abbrev pub invariant-loop-k : goal.invariant-loop-k
invariant-loop-k l = HasSteps l.fn.raw.items l.raw.items (raw_step l.gear l.freq l.segment) l.grid.ahead l.grid.per l.grid.each l.mark.at l.mark.over l.k
