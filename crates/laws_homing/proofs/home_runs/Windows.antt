-- Turns of a board behind the set-up of a homing section.
use Rattle.std.proofs.Common.{◌≡◌, ℕ, ◌≤◌, List, [], ◌∷◌, ◌++◌, length, refl, ap, sym, ◌∙◌, subst, arith, rules}
use Rattle.laws_board.proofs.Names.{BoardClock, Level, BoardDef, clock_of, Cmd, Entry, Reply, commands_of, Rig, takes, takes_all, Event, IsOrdered, Core, Step, Do, Turn, does, after_event, in_turn, run_world, takes_in, first_state, orders, LinkState, turns_are_steps}
use Rattle.board_sim.specs.Board.{stepper_at}
use Rattle.board_sim.specs.RigRuns.{IsHalted}
use Rattle.board_world.specs.declared.event.Event.TheVariants as event
use Rattle.board_world.proofs.Runs.{ordered, start_ordered}
use Rattle.laws_board.specs.turns.Turns.{AreBoardTurns, BoardTurn, stands_after}
use Rattle.laws_homing.proofs.clear_boards.Slots.{passes_beside, running_beside}
use Rattle.laws_homing.specs.home_runs.Windows.{BringCalm, IsSetUp, IsWatched, TellFired}
use Rattle.laws_homing.proofs.home_runs.Guarding.{guard_halts, guard_next}
use Rattle.laws_homing.proofs.home_runs.Firing.{EachFires}
use Rattle.laws_homing.proofs.home_runs.Watching.{Watch, watched}

-- the places of triggers are as many as they were
pub takes_places : (r : Rig) (c : Cmd) → length (takes r c).rig.triggers ≡ length r.triggers
takes_places r c = (running_beside r.controller.state r c).1

all_places : (r : Rig) (cs : List Cmd) → length (takes_all r cs).rig.triggers ≡ length r.triggers
all_places r [] = refl
all_places r (c ∷ cs) = all_places (takes r c).rig cs ∙ takes_places r c

does_places : (h : Core) (e : Event) → length (does h e).board.triggers ≡ length h.board.triggers
does_places h e = search (rules, passes_beside, all_places, commands_of, takes_in)

run_places : (steps : List Step) (h : Core) → length (run_world steps h).board.triggers ≡ length h.board.triggers
run_places [] h = refl
run_places (Do e ∷ steps) h = run_places steps (after_event h e) ∙ does_places h e
run_places (Turn turn ∷ steps) h = run_places steps (in_turn h turn)

-- a link over turns
record Stands (l : LinkState) : Type 0 where
  ordered : IsOrdered l.core
  few : length l.core.board.triggers ≤ 256

stands : (b : BoardDef) (pins : List (List Level)) (board : ℕ) (entries : List Entry) (turns : List BoardTurn) → AreBoardTurns (clock_of b) (first_state b pins board entries) turns → Stands (stands_after (first_state b pins board entries) turns)
stands b pins board entries [] are = record { ordered = start_ordered b pins; few = omega arith }
stands b pins board entries (t ∷ before) are =
    let first = first_state b pins board entries in
    let old = stands b pins board entries before are.1 in
    let l = stands_after first before in
    let steps = turns_are_steps (clock_of b) (length before) (orders t.control t.batch ∷ []) l t.after (t.after, are.0.0, refl) in
    let few = old.few in
    record {
      ordered = subst IsOrdered (sym steps.1) (ordered steps.0 l.core old.ordered);
      few = omega (arith, few, run_places steps.0 l.core, ap (λ (h : Core). length h.board.triggers) steps.1);
    }

pub ordered_after : (b : BoardDef) (pins : List (List Level)) (board : ℕ) (entries : List Entry) (turns : List BoardTurn) → AreBoardTurns (clock_of b) (first_state b pins board entries) turns
    → IsOrdered (stands_after (first_state b pins board entries) turns).core
ordered_after b pins board entries turns are = (stands b pins board entries turns are).ordered

pub begun : (clock : BoardClock) (first : LinkState) (window past : List BoardTurn) → AreBoardTurns clock first (window ++ past) → AreBoardTurns clock first past
begun clock first [] past are = are
begun clock first (t ∷ window) past are = begun clock first window past are.1

-- a link that is watched from some turns on
pub watch_after : (b : BoardDef) (pins : List (List Level)) (board : ℕ) (entries : List Entry) (past : List BoardTurn) (i j : ℕ) → AreBoardTurns (clock_of b) (first_state b pins board entries) past
    → IsWatched i j (stands_after (first_state b pins board entries) past).core → Watch i j (stands_after (first_state b pins board entries) past).core
watch_after b pins board entries past i j are u =
    let s = stands b pins board entries past are in
    let core = (stands_after (first_state b pins board entries) past).core in
    record {
      ordered = s.ordered;
      sole = u.sole;
      few = s.few;
      left = u.left;
      rest = u.rest;
      calm = u.calm;
      fires = subst (λ (rs : List Reply). EachFires j core.board rs) (sym u.heard) tt;
    }

pub told_halts : (b : BoardDef) (pins : List (List Level)) (board : ℕ) (entries : List Entry) (window past : List BoardTurn) (i j : ℕ) → AreBoardTurns (clock_of b) (first_state b pins board entries) (window ++ past)
    → IsSetUp i j (stands_after (first_state b pins board entries) past).core → BringCalm i j window → TellFired window
    → IsHalted (stepper_at (stands_after (first_state b pins board entries) (window ++ past)).core.board.controller i)
told_halts b pins board entries window past i j are set calm told =
    let first = first_state b pins board entries in
    let from = (stands_after first past).core.board in
    let now = (stands_after first (window ++ past)).core.board in
    let start : IsWatched i j (stands_after first past).core = record { sole = set.sole; left = set.left; rest = set.rest; calm = set.calm; heard = set.heard } in
    let w = watched (clock_of b) first i j window past are calm (watch_after b pins board entries past i j (begun (clock_of b) first window past are) start) in
    guard_halts now i j (guard_next i j from now w.next set.guarded) (w.fired told)
