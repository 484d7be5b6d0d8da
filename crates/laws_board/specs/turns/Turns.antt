-- What a board with its link and the reactor do in the turns of a run, of which the latest stands first.
use Rattle.std.specs.Prelude.{◌≡◌, ℕ, zero, suc, List, [], ◌∷◌, length}
use Rattle.plan_types.specs.declared.clock.BoardClock.{BoardClock}
use Rattle.plan_types.specs.declared.machine.Machine.{Machine}
use Rattle.msg_code.specs.declared.unit.Batch.{Batch}
use Rattle.msg_code.specs.declared.unit.Control.{Control}
use Rattle.msg_code.specs.declared.talk.State.{State}
use Rattle.wire_scene.specs.declared.scene.Switch.{Switch}
use Rattle.link_work.specs.Stands.{orders}
use Rattle.link_work.specs.Told.{IsTold}
use Rattle.link_work.specs.Turn.{IsTurn, LinkState}
use Rattle.host_reactor.specs.Runs.{Came, last_reacted, state_at}

-- a turn of a board with its link: what came to it, what it told, and how it stands behind
pub record BoardTurn : Type 0 where
  pub control : Control
  pub batch : Batch
  pub state : State
  pub after : LinkState

-- how a link that began so stands behind some turns
abbrev pub stands_after : LinkState → List BoardTurn → LinkState
stands_after first [] = first
stands_after first (t ∷ before) = t.after

-- the turns of a link that began so, from turn 0 on: each is one that the definition of a turn allows, and
-- tells what happened in it
abbrev pub AreBoardTurns : BoardClock → LinkState → List BoardTurn → Type 0
AreBoardTurns clock first [] = Unit {0}
AreBoardTurns clock first (t ∷ before) =
    ((i : IsTurn clock (length before) (orders t.control t.batch) (stands_after first before) t.after)
    × IsTold clock (length before) (orders t.control t.batch) (stands_after first before) i.resent t.after.core t.state)
    × AreBoardTurns clock first before

-- the control of a board, where there is one
abbrev pub control_at : ℕ → List Control → List Control
control_at b [] = []
control_at zero (c ∷ controls) = c ∷ []
control_at (suc b) (c ∷ controls) = control_at b controls

-- what a board told in the latest turn, where there was one
abbrev pub latest_state : List BoardTurn → List State
latest_state [] = []
latest_state (t ∷ before) = t.state ∷ []

-- A board in a run: the reactor took what the board told in the turn before, and the board took the control
-- that the reactor ordered for it, turn by turn.
abbrev pub IsBoardOf : Machine → List Switch → ℕ → List Came → List BoardTurn → Type 0
IsBoardOf m switches b [] [] = Unit {0}
IsBoardOf m switches b [] (t ∷ turns) = ⊥
IsBoardOf m switches b (c ∷ before) [] = ⊥
IsBoardOf m switches b (c ∷ before) (t ∷ turns) =
    (state_at b c.states ≡ latest_state turns)
    × (control_at b (last_reacted m switches c before).ordered.controls ≡ t.control ∷ [])
    × IsBoardOf m switches b before turns
