-- The steppers of a run in which axes home, as a report tells of them.
use Rattle.std.specs.Prelude.{◌≡◌, ◌<◌, ℕ, List, length}
use Rattle.plan_types.specs.declared.machine.Machine.{Machine}
use Rattle.plan_types.specs.Lines.{Clocks}
use Rattle.plan_types.specs.Machines.{board_at, stepper_at}
use Rattle.plan_types.specs.Sections.{clocks_at}
use Rattle.wire_scene.specs.declared.scene.Entry.{Entry}
use Rattle.laws_board.specs.sections.Boards.{OnBoard}
use Rattle.laws_board.specs.sections.Homes.{IsHomeBoard}
use Rattle.motion_work.specs.Seen.{Started}
use Rattle.session_work.specs.declared.table.ReactorTurn.{ReactorTurn}
use Rattle.laws_board.specs.plans.Boards.{TookStates}
use Rattle.laws_homing.specs.home_parts.Cuts.{cuts_on}

-- The stepper at a place is on a board of a run of so many turns in which axes home; its sections are those
-- that the planner began, with their units that are released before a turn, and its states those that the
-- reactor took.
pub record IsHomeStepper (m : Machine) (clocks : List Clocks) (begun : List Started) (rest : List ReactorTurn)
    (entries : List Entry) (ready until turns place : ℕ) (x : OnBoard) : Type 0 where
  pub there : place < length m.steppers
  pub board : x.board ≡ board_at m (stepper_at m place).board
  pub clocks_are : x.clocks ≡ clocks_at clocks (stepper_at m place).board
  pub is : IsHomeBoard (stepper_at m place).board entries ready turns
      (cuts_on m clocks until begun (stepper_at m place).board) x
  pub states : TookStates (stepper_at m place).board rest x.states
