use Rattle.std.proofs.Common.{◌≡◌, List, ◌++◌, drop, ℕ}
use Rattle.plan_types.specs.declared.plan.Planned.{Planned}
use Rattle.plan_types.specs.declared.plan.Segment.{Segment}
use Rattle.plan_types.specs.declared.plan.Gear.{Gear}
use Rattle.plan_types.specs.Steps.{raw_steps}
use Rattle.step_ticks.proofs.planned.Given as goal

-- the raw steps so far and those of the rest are all
pub record HasRawSteps (gear : Gear) (freq : ℕ) (segments : List Segment) (raw : List Planned) (i : ℕ) : Type 0 where
  pub steps : raw ++ raw_steps gear freq (drop i segments) ≡ raw_steps gear freq segments

abbrev pub invariant-loop-segment : goal.invariant-loop-segment
invariant-loop-segment l = HasRawSteps l.gear l.lines.first.freq l.segments l.raw.items l.segment-index
