use Rattle.std.proofs.Common.{ℕ, ◌+◌, ◌-◌, ◌*◌, ◌^◌, ◌<◌, ◌≤◌, List, ◌++◌, drop, length}
use Rattle.plan_types.specs.Clock.{tick_limit}
use Rattle.plan_types.specs.declared.plan.Gear.{Gear}
use Rattle.plan_types.specs.declared.plan.Planned.{Planned}
use Rattle.plan_types.specs.declared.plan.Segment.{Segment}
use Rattle.plan_types.specs.Lines.{Clocks}
use Rattle.step_ticks.specs.Streaming.{AreSteps}
use Rattle.step_ticks.proofs.stream.StepStream.take.Given as goal

-- what was given before, and what is given here, are all that was given
pub record Gives (gear : Gear) (clocks : Clocks) (reach end last_end first from last next until dropped : ℕ) (all steps : List Planned) : Type 0 where
  pub given : (base : ℕ) → (segments : List Segment) → (asked : ℕ) → (out : List Planned) → asked ≤ until → AreSteps gear clocks reach end last_end first (drop from all) base segments asked out → AreSteps gear clocks reach end last_end last (drop next all) base segments until (out ++ steps)
  pub within : next ≤ length all
  pub small : last < tick_limit + 4 * (dropped + next) + 4

abbrev pub invariant-loop-self : goal.invariant-loop-self
invariant-loop-self l = Gives l.self.gear l.self.lines l.self.reach l.self.end l.self.last_end l.self.last l.self.next l.last l.next l.until l.self.dropped l.self.raw.items l.steps.items

abbrev pub decreases-loop-self : goal.decreases-loop-self
decreases-loop-self l = length l.self.raw.items - l.next
