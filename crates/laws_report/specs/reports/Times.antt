-- In which turns the sections of a run start and end, and whose clock lines they go by.
use Rattle.std.specs.Prelude.{◌≡◌, ◌≢◌, ℕ, List, ◌∷◌, ◌++◌, length, Some}
use Rattle.plan_types.specs.declared.cause.Cause.{Cause}
use Rattle.plan_types.specs.declared.cause.Cause.TheVariants as cause
use Rattle.plan_types.specs.declared.machine.Machine.{Machine}
use Rattle.plan_types.specs.declared.plan.SectionKind.TheVariants.{Home}
use Rattle.wire_scene.specs.declared.scene.Scene.{Scene}
use Rattle.motion_work.specs.Homes.{no_end}
use Rattle.motion_work.specs.Seen.{Started}
use Rattle.motion_work.specs.Told.{Told}
use Rattle.session_work.specs.declared.table.MotionTurn.{MotionTurn}
use Rattle.session_work.specs.declared.table.ReactorTurn.{ReactorTurn}
use Rattle.laws_board.specs.plans.Planned.{PlannerInput}
use Rattle.laws_run.specs.run_clocks.First.{AreFirstTaken}
use Rattle.laws_run.specs.run_turns.Ends.{EndsWithAnswer}
use Rattle.laws_run.specs.run_turns.Starts.{StartsBehindConnecting}

-- The sections that a run's planner begun, by the run's turns and its cause: the first one starts 260 turns
-- behind the end of connecting, but not before turn 1,260; one that homes ends in the turn in which its group
-- answered, and that turn's line of a switch is its own. And where no entry of the scene was used on a
-- board's link while connecting, the board's first clock line is taken at once.
pub record AreTimed (m : Machine) (s : Scene) (c : Cause) (planned : List MotionTurn) (turns : List ReactorTurn)
    (last : ReactorTurn) (seen : PlannerInput) : Type 0 where
  pub first : (t : Told) → seen.told ≡ Some t → StartsBehindConnecting m s.switches turns t.first seen.begun
  pub ends : (past : List Started) (x : Started) (others : List Started) (axis : ℕ) → seen.begun ≡ past ++ x ∷ others →
      x.section.kind ≡ Home axis → x.end ≢ no_end → EndsWithAnswer m s.switches turns (length past) axis x
  pub exact : c ≢ cause.Memory → (t : Told) → seen.told ≡ Some t → AreFirstTaken m s planned turns last t.clocks
