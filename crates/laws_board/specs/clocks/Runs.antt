-- A board of a machine over the turns of a run.
use Rattle.std.specs.Prelude.{ℕ, ◌<◌, ◌≤◌, List, [], ◌∷◌, ◌++◌, length, map}
use Rattle.plan_types.specs.declared.levels.Level.{Level}
use Rattle.plan_types.specs.declared.machine.Machine.{Machine}
use Rattle.plan_types.specs.Clock.{board_tick, clock_of, tick_limit}
use Rattle.plan_types.specs.Machines.{board_at}
use Rattle.wire_scene.specs.declared.scene.Entry.{Entry}
use Rattle.wire_scene.specs.declared.scene.Switch.{Switch}
use Rattle.board_world.specs.Orders.{units_orders}
use Rattle.board_world.specs.World.{on_wire}
use Rattle.link_work.specs.Ends.{Ended}
use Rattle.link_work.specs.Limits.{bytes_in}
use Rattle.link_work.specs.Stands.{first_state, orders}
use Rattle.link_work.specs.Turn.{Orders}
use Rattle.host_reactor.specs.Runs.{Came, GoesOn}
use Rattle.laws_board.specs.turns.Turns.{AreBoardTurns, BoardTurn, IsBoardOf}

-- A board of a machine in a run that goes on: the turns of its link are turns of that board with its levels
-- and entries, they and the reactor's take from each other what the other told, and its ticks are in range.
pub record IsInRun (m : Machine) (switches : List Switch) (pins : List (List Level)) (entries : List Entry) (b : ℕ)
    (came : List Came) (turns : List BoardTurn) : Type 0 where
  pub board : b < length m.boards
  pub goes_on : GoesOn m switches came
  pub turns_are : AreBoardTurns (clock_of (board_at m b)) (first_state (board_at m b) pins b entries) turns
  pub both : IsBoardOf m switches b came turns
  pub in_range : board_tick (clock_of (board_at m b)) (length turns) < tick_limit

-- what came to a board in some turns, in order
abbrev pub orders_in : List BoardTurn → List Orders
orders_in [] = []
orders_in (t ∷ before) = orders_in before ++ orders t.control t.batch ∷ []

-- how its link stood at the ends of these turns, in order
abbrev pub ends_in : List BoardTurn → List Ended
ends_in [] = []
ends_in (t ∷ before) = ends_in before ++ record { turn = length before; link = t.after } ∷ []

-- the units of each turn have at most 210 bytes
abbrev pub UnitsFit : List BoardTurn → Type 0
UnitsFit [] = Unit {0}
UnitsFit (t ∷ before) = (bytes_in (map on_wire (units_orders t.batch.units)) ≤ 210) × UnitsFit before
