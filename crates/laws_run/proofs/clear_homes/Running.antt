-- A board of a run in which axes home runs in all its turns, where it isn't told to stop and no unit comes too late to it.
use Rattle.std.proofs.Common.{◌≡◌, ℕ, List, [], ◌∷◌, ◌++◌, Option, Some, None, ap, sym, ◌∙◌, subst, rules}
use Rattle.laws_board.proofs.Names.{flat_map, Level, BoardDef, BoardState, Running, Shut, clock_of, ShutNews, State, Entry, Core, run_world, new_world, queued_in, first_state}
use Rattle.link_work.specs.Told.{IsShutNews}
use Rattle.laws_board.specs.turns.Turns.{AreBoardTurns, BoardTurn, latest_state, stands_after}
use Rattle.laws_board.specs.sections.Boards.{OnBoard}
use Rattle.laws_board.specs.sections.Homes.{IsHomeBoard, RunSection}
use Rattle.laws_board.specs.sections.Links.{AreTold, steps_of, turns_told}
use Rattle.laws_board.specs.sections.Stops.{NeverStop}
use Rattle.laws_board.proofs.sections.Boarding.{last_told, runs_on}
use Rattle.laws_board.proofs.sections.Halted.{at_end}
use Rattle.laws_board.proofs.sections.Linking.{turns_are}
use Rattle.laws_board.proofs.sections.Wholes.{sent_orders}
use Rattle.laws_run.proofs.home_headline.Good.{board_good, board_may}
use Rattle.laws_run.proofs.home_headline.Stop.{never_shut, runs_so}
use Rattle.laws_homing.proofs.home_runs.Staging.{ran_turns}
use Rattle.laws_homing.specs.clear_groups.Sections.{ShutNone}
use Rattle.laws_board.proofs.sections.Passing.{still}

-- what it tells last is no shutdown
pub end_none : (place : ℕ) (entries : List Entry) (ready turns : ℕ) (ss : List RunSection) (x : OnBoard) (k : IsHomeBoard place entries ready turns ss x) (front : List State) (last : State) → x.states ≡ front ++ last ∷ [] → NeverStop x.orders
    → ((n : ShutNews) → last.shut ≡ Some n → n.reason ≡ 1 → ⊥) → last.shut ≡ None
end_none place entries ready turns ss x k front last are never late =
    let clock = clock_of x.board in
    let l = first_state x.board x.pins place entries in
    let t = turns_told clock 0 x.orders x.states l k.end k.told in
    let steps = steps_of clock 0 x.orders l k.end t in
    let good = board_good place entries ready turns ss x k in
    let is : k.end.core ≡ run_world steps (new_world x.board x.pins) = (turns_are clock 0 x.orders l k.end t).0 in
    let may = board_may place entries ready turns ss x k in
    let keeps = (at_end x.board x.pins k.own k.stops x.orders steps good).1 in
    let queue : (run_world steps (new_world x.board x.pins)).queued ≡ flat_map queued_in x.orders = sym keeps.queued ∙ sent_orders 0 x.orders in
    let stop = λ (tick first : ℕ) (shut : k.end.core.board.controller.state ≡ Shut 5 tick first).
    never_shut x.board x.pins x.orders steps tick first keeps.ordered queue never (ap (λ (h : Core). h.board.controller.state) (sym is) ∙ shut) in
    let Told : List State → Type 0 = λ y. AreTold clock 0 x.orders y l k.end in
    let ends = last_told clock 0 x.orders front last l k.end (subst Told are k.told) in
    still k.end.core.board.controller.state last.shut ends.1 (runs_so k.end.core.board.controller.state last.shut may ends.1 late stop)

-- a board that runs behind some turns ran in each of them
pub none_before : (b : BoardDef) (pins : List (List Level)) (place : ℕ) (entries : List Entry) (turns : List BoardTurn) → AreBoardTurns (clock_of b) (first_state b pins place entries) turns
    → (stands_after (first_state b pins place entries) turns).core.board.controller.state ≡ Running → ShutNone turns
none_before b pins place entries [] are runs = tt
none_before b pins place entries (t ∷ before) are runs =
    let shut = still t.after.core.board.controller.state t.state.shut are.0.1.shut runs in
    (shut, none_before b pins place entries before are.1 (ran_turns (clock_of b) (first_state b pins place entries) (t ∷ []) before are runs))

pub all_none : (b : BoardDef) (pins : List (List Level)) (place : ℕ) (entries : List Entry) (turns : List BoardTurn) (last : State) → AreBoardTurns (clock_of b) (first_state b pins place entries) turns
    → latest_state turns ≡ last ∷ [] → last.shut ≡ None → ShutNone turns
all_none b pins place entries turns last p6 p7 p8 = search (rules, none_before, runs_on)
