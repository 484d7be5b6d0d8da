-- A board of a run, in any scene: the reasons of its triggers fit, and it runs while it tells of no shutdown.
use Rattle.std.proofs.Common.{◌≡◌, ℕ, List, [], ◌∷◌, refl, arith}
use Rattle.laws_board.proofs.Names.{Level, Machine, Running, clock_of, board_at, Entry, Switch, Rig, first_state, Came}
use Rattle.board_sim.specs.Board.{new_controller}
use Rattle.laws_board.specs.turns.Turns.{AreBoardTurns, BoardTurn, stands_after}
use Rattle.laws_board.specs.clocks.Runs.{IsInRun}
use Rattle.laws_board.proofs.sections.Boarding.{runs_on}
use Rattle.laws_homing.specs.clear_boards.Firing.{AllSmall}
use Rattle.laws_homing.specs.clear_groups.Sections.{ShutNone}
use Rattle.laws_homing.specs.switch_runs.Runs.{IsEndstop}
use Rattle.laws_homing.proofs.switch_runs.Made.{AnyTick, whole_after}
use Rattle.laws_homing.proofs.switch_runs.Ordering.{bring_fit}

module _ (m : Machine) (pins : List (List Level)) (entries : List Entry) (b : ℕ) where
  abbrev Board : List BoardTurn → Rig
  Board turns = (stands_after (first_state (board_at m b) pins b entries) turns).core.board

  -- the reasons of its triggers fit
  pub small_at : (switches : List Switch) (before : List Came) (turns : List BoardTurn) → IsInRun m switches pins entries b before turns → AllSmall (Board turns)
  small_at switches before turns r oid s at =
      let k = (whole_after (IsEndstop m b) (board_at m b) pins b entries turns 0 0 r.turns_are (omega arith) (bring_fit m switches pins entries b (λ now. AnyTick) before turns r (λ tick k. tt))).0.board.slots oid s at in
      record { reason = k.reason; expire = k.expire; sampled = λ y is. (k.sampled y is).0 }

  -- it runs while it tells of no shutdown
  pub runs_shut : (turns : List BoardTurn) → AreBoardTurns (clock_of (board_at m b)) (first_state (board_at m b) pins b entries) turns → ShutNone turns → (Board turns).controller.state ≡ Running
  unfolding new_controller
  runs_shut [] are none = refl
  runs_shut (t ∷ turns) are none = runs_on t.after.core.board.controller.state t.state.shut are.0.1.shut none.0
