use Rattle.std.proofs.Common.{◌≡◌, ℕ, ◌+◌, ◌*◌, ◌^◌, ◌<◌, List, ◌++◌, drop, map, length, All}
use Rattle.plan_types.specs.Clock.{tick_limit}
use Rattle.plan_types.specs.declared.plan.Planned.{Planned}
use Rattle.plan_types.specs.Lines.{Clocks}
use Rattle.plan_types.specs.Plan.{spaced, on_board}
use Rattle.step_ticks.proofs.thin.spaced.Given as goal

-- the steps so far and the rest, spaced behind the last one, are all
pub record HasSpaced (clocks : Clocks) (base last i : ℕ) (kept steps : List Planned) : Type 0 where
  pub whole : steps ++ spaced last (map (on_board clocks) (drop i kept)) ≡ spaced base (map (on_board clocks) kept)
  pub last_small : last < tick_limit + 4 * i
  pub count : length steps ≡ i
  pub small : All (λ s. s.tick < tick_limit + 4 * i) steps

abbrev pub invariant-loop-step : goal.invariant-loop-step
invariant-loop-step l = HasSpaced l.lines l.base l.last l.step-index l.kept l.steps.items
