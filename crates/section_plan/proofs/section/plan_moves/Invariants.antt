use Rattle.std.proofs.Common.{◌≡◌, ℕ, ◌+◌, ◌*◌, ◌/◌, ◌<◌, ◌≤◌, ◌^◌, List, map, max, length, All}
use Rattle.std.specs.List.{range_with_len}
use Rattle.plan_types.specs.declared.machine.Machine.{Machine}
use Rattle.plan_types.specs.declared.plan.Move.{Move}
use Rattle.plan_types.specs.declared.plan.Planned.{Planned}
use Rattle.plan_types.specs.Clock.{turn_ns, tick_limit}
use Rattle.plan_types.specs.Lines.{Clocks}
use Rattle.plan_types.specs.Plan.{AreSpaced}
use Rattle.plan_types.specs.Sections.{base_tick, latest, stepper_end, stepper_plan, turns_of_move}
use Rattle.section_plan.specs.Runs.{HaveOneLine}
use Rattle.section_plan.proofs.section.plan_moves.Given as goal

-- the plans of the steppers so far, and the turn in which they and the moves end
pub record HasPlans (m : Machine) (clocks : List Clocks) (moves : List Move) (turn over end last : ℕ) (steps : List (List Planned)) (i : ℕ) : Type 0 where
  pub plans : steps ≡ map (stepper_plan m clocks moves turn) (range_with_len 0 i)
  pub end_is : end ≡ max (over / turn_ns) (latest (map (stepper_end m clocks moves turn) (range_with_len 0 i)))
  pub last_is : last ≡ max 0 (latest (map (stepper_end m clocks moves turn) (range_with_len 0 i)))
  pub soon : HaveOneLine m clocks → end ≤ turn + length moves * turns_of_move
  pub spaced : (s : ℕ) → s < i → AreSpaced (base_tick m clocks turn s) (stepper_plan m clocks moves turn s)
  pub small : (s : ℕ) → s < i → All (λ q. q.tick + 1 < tick_limit) (stepper_plan m clocks moves turn s)

abbrev pub invariant-loop-place : goal.invariant-loop-place
invariant-loop-place l = HasPlans l.machine l.clocks l.moves l.turn l.over l.end l.last l.steps.items l.place
