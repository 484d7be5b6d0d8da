-- When the pulses that a report tells of a section of moves are all of its plan, in a whole run in which axes home.
use Rattle.std.specs.Prelude.{◌≡◌, ◌≢◌, ℕ, ◌+◌, ◌<◌, ◌≤◌, List, [], ◌∷◌, ◌++◌, length}
use Rattle.plan_types.specs.declared.cause.Cause.{Cause}
use Rattle.plan_types.specs.declared.machine.Machine.{Machine}
use Rattle.plan_types.specs.declared.plan.SectionKind.TheVariants.{Moves}
use Rattle.plan_types.specs.Lines.{Clocks}
use Rattle.plan_types.specs.Machines.{stepper_at}
use Rattle.plan_types.specs.Sections.{stepper_plan}
use Rattle.motion_work.specs.Seen.{Started}
use Rattle.session_work.specs.declared.table.ReactorTurn.{ReactorTurn}
use Rattle.laws_board.specs.sections.Boards.{IsWindow}
use Rattle.laws_board.specs.plans.Boards.{lines_between, times_of}
use Rattle.laws_board.specs.plans.Lines.{pulses_of}
use Rattle.laws_board.specs.plans.Planned.{PlannerInput}
use Rattle.laws_run.specs.run_ends.Ends.{GoesThrough}

-- The pulses that the turns of a whole run in which axes home tell of sections of moves: all of their plans.
-- Place k of `rest` is turn k + 1.
pub record WholeHomes (m : Machine) (seen : PlannerInput) (clocks : List Clocks) (c : Cause) (rest : List ReactorTurn)
    : Type 0 where
  -- in a run that went through they are as many as the steps of the plan
  pub whole : GoesThrough c → (past : List Started) (s : Started) (later : List Started) (from to place : ℕ) →
      seen.begun ≡ past ++ s ∷ later → s.section.kind ≡ Moves → place < length m.steppers →
      IsWindow (length rest) from to (record { start = s.start; end = s.end }) (times_of later) → s.end + 5 ≤ to →
      length (pulses_of place (lines_between from to rest))
      ≡ length (stepper_plan m clocks s.section.moves s.start place)
  -- and so they are, whatever ended the run, where any pulse of a stepper of the same board is told behind them
  pub passed : (past : List Started) (s : Started) (later : List Started) (from to place other : ℕ) →
      seen.begun ≡ past ++ s ∷ later → s.section.kind ≡ Moves → place < length m.steppers → other < length m.steppers →
      (stepper_at m other).board ≡ (stepper_at m place).board →
      IsWindow (length rest) from to (record { start = s.start; end = s.end }) (times_of later) → s.end + 5 ≤ to →
      pulses_of other (lines_between to (length rest) rest) ≢ [] →
      length (pulses_of place (lines_between from to rest))
      ≡ length (stepper_plan m clocks s.section.moves s.start place)

-- so the turns of a whole run
abbrev pub AllWholeHomes : Machine → PlannerInput → List Clocks → Cause → List ReactorTurn → Type 0
AllWholeHomes m seen clocks c [] = Unit {0}
AllWholeHomes m seen clocks c (first ∷ rest) = WholeHomes m seen clocks c rest
