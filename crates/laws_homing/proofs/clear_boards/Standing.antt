-- A board of a link stands at its tick as a turn begins, its triggers are sound, and it ran through a turn of which no shutdown is told.
use Rattle.std.proofs.Common.{◌≡◌, ℕ, ◌+◌, List, [], ◌∷◌, length, None, ap, sym, ◌∙◌}
use Rattle.laws_board.proofs.Names.{Level, BoardDef, Running, board_tick, clock_of, Entry, commands_of, Rig, takes_all, AllSound, AllKeepLimits, queued_in, first_state, orders}
use Rattle.board_sim.proofs.RigStates.{passes_state}
use Rattle.link_work.proofs.Answered.{begins}
use Rattle.laws_board.specs.turns.Turns.{AreBoardTurns, BoardTurn, stands_after}
use Rattle.laws_board.specs.clocks.Runs.{orders_in}
use Rattle.laws_board.proofs.clocks.Orders.{order_length, turns_in_order}
use Rattle.laws_board.proofs.sections.Boarding.{runs_on}
use Rattle.laws_homing.specs.clear_boards.Rests.{RestsOver}
use Rattle.laws_homing.proofs.clear_boards.Rests.{clear_over}
use Rattle.laws_homing.proofs.clear_boards.Taking.{takes_rested}

pub tick_is : (b : BoardDef) (pins : List (List Level)) (place : ℕ) (entries : List Entry) (turns : List BoardTurn) → AreBoardTurns (clock_of b) (first_state b pins place entries) turns
    → (stands_after (first_state b pins place entries) turns).core.board.controller.tick ≡ board_tick (clock_of b) (length turns)
tick_is b pins place entries turns are =
    let first = first_state b pins place entries in
    let l = stands_after first turns in
    (begins b pins place entries (orders_in turns) l (turns_in_order (clock_of b) first turns are)).in_time.1 ∙ ap (λ (n : ℕ). board_tick (clock_of b) n) (order_length turns)

pub sound_at : (b : BoardDef) (pins : List (List Level)) (place : ℕ) (entries : List Entry) (turns : List BoardTurn) → AreBoardTurns (clock_of b) (first_state b pins place entries) turns
    → AllSound (stands_after (first_state b pins place entries) turns).core.board
sound_at b pins place entries turns are =
    let first = first_state b pins place entries in
    let l = stands_after first turns in
    (begins b pins place entries (orders_in turns) l (turns_in_order (clock_of b) first turns are)).in_time.0.sound

pub runs_rested : (b : BoardDef) (pins : List (List Level)) (place : ℕ) (entries : List Entry) (t : BoardTurn) (before : List BoardTurn) → RestsOver t before → AreBoardTurns (clock_of b) (first_state b pins place entries) (t ∷ before)
    → t.state.shut ≡ None
    → (takes_all (stands_after (first_state b pins place entries) before).core.board (commands_of (queued_in (orders t.control t.batch)))).rig.controller.state ≡ Running
runs_rested b pins place entries t before rests are shut =
    let q = (takes_all (stands_after (first_state b pins place entries) before).core.board (commands_of (queued_in (orders t.control t.batch)))).rig in
    let is = takes_rested b pins place entries t before rests are in
    sym (passes_state q (board_tick (clock_of b) (length before + 1))) ∙ ap (λ (r : Rig). r.controller.state) (sym is) ∙ runs_on t.after.core.board.controller.state t.state.shut are.0.1.shut shut

-- so in a scene without entries
pub runs_through : (b : BoardDef) (pins : List (List Level)) (place : ℕ) (entries : List Entry) (t : BoardTurn) (before : List BoardTurn) → entries ≡ [] → AreBoardTurns (clock_of b) (first_state b pins place entries) (t ∷ before)
    → AllKeepLimits (orders_in (t ∷ before)) → t.state.shut ≡ None
    → (takes_all (stands_after (first_state b pins place entries) before).core.board (commands_of (queued_in (orders t.control t.batch)))).rig.controller.state ≡ Running
runs_through b pins place entries t before none are limits shut = runs_rested b pins place entries t before (clear_over b pins place entries t before none are limits) are shut
