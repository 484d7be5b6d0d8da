-- A board in a whole run.
use Rattle.std.specs.Prelude.{◌≡◌, ◌<◌, ◌≤◌, ◌^◌, ℕ, List, [], ◌∷◌, ◌++◌, length, map}
use Rattle.plan_types.specs.declared.clock.BoardClock.{BoardClock}
use Rattle.plan_types.specs.declared.machine.Machine.{Machine}
use Rattle.plan_types.specs.Clock.{board_tick, tick_limit}
use Rattle.msg_code.specs.declared.unit.Batch.{Batch}
use Rattle.msg_code.specs.declared.talk.State.{State}
use Rattle.wire_scene.specs.declared.scene.Switch.{Switch}
use Rattle.link_work.specs.Stands.{orders}
use Rattle.link_work.specs.Turn.{LinkState, Orders}
use Rattle.host_reactor.specs.Runs.{GoesOn, HaveStates}
use Rattle.laws_board.specs.turns.Turns.{AreBoardTurns, BoardTurn, IsBoardOf, stands_after}
use Rattle.laws_board.specs.clocks.Runs.{orders_in}
use Rattle.laws_board.specs.sections.Links.{AreTold}
use Rattle.session_work.specs.declared.table.MotionTurn.{MotionTurn}
use Rattle.session_work.specs.declared.table.ReactorTurn.{ReactorTurn}
use Rattle.session_work.specs.Rows.{gather, item}
use Rattle.laws_run.specs.lanes.Turns.{came_before}
use Rattle.laws_board.specs.plans.Boards.{TookStates}

-- turns in their order behind others, of which the latest stands first
abbrev pub turns_behind : List BoardTurn → List BoardTurn → List BoardTurn
turns_behind turns [] = turns
turns_behind turns (t ∷ made) = turns_behind (t ∷ turns) made

-- what came to a board in each of some turns
abbrev pub orders_of : List BoardTurn → List Orders
orders_of made = map (λ t. orders t.control t.batch) made

-- the state that it told in each of some turns
abbrev pub states_of : List BoardTurn → List State
states_of made = map (λ t. t.state) made

-- A board in a whole run, of which the planner made some turns and the reactor a first one and others, the
-- last of which may end the run: its turns with its link, as far as the reactor took their states. In each it
-- took the control that the reactor ordered for it, and the next of the batches that the planner put for it;
-- and the reactor took each state in the turn behind it.
pub record IsInWhole (m : Machine) (switches : List Switch) (b : ℕ) (clock : BoardClock) (begin : LinkState)
    (planned : List MotionTurn) (first : ReactorTurn) (rest : List ReactorTurn) : Type 0 where
  -- the turns of the board, in order
  pub made : List BoardTurn
  pub both : IsBoardOf m switches b (came_before [] (first ∷ rest)) (turns_behind [] made)
  pub turns_are : AreBoardTurns clock begin (turns_behind [] made)
  pub goes_on : GoesOn m switches (came_before [] (first ∷ rest))
  pub have_states : HaveStates m (came_before [] (first ∷ rest))
  pub in_range : board_tick clock (length (turns_behind [] made)) < tick_limit
  pub few : length (turns_behind [] made) ≤ 2 ^ 59
  pub in_order : orders_in (turns_behind [] made) ≡ orders_of made
  pub told : AreTold clock 0 (orders_of made) (states_of made) begin (stands_after begin (turns_behind [] made))
  pub states : TookStates b rest (states_of made)
  pub batches : (left : List Batch)
      × (map (λ o. o.batch) (orders_of made) ++ left ≡ gather (λ t. item b t.batches) planned)
