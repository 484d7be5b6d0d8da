-- A link that rests in time: its board took the set-up of a homing section, and nothing that it said is under way.
use Rattle.std.proofs.Common.{◌≡◌, ℕ, ◌==◌, true, List, [], ◌∷◌, map, refl, ap, sym, ◌∙◌, subst, append-nil, rules}
use Rattle.laws_board.proofs.Names.{eqb-true, Level, BoardDef, clock_of, Entry, Reply, Core, first_state, turns_are_steps, both_parts}
use Rattle.link_core.specs.Core.{Command, sent}
use Rattle.board_world.specs.Stands.{reply_text}
use Rattle.board_world.proofs.Runs.{start_ordered}
use Rattle.link_work.specs.Ends.{is_idle, none_wait}
use Rattle.link_work.specs.Runs.{blocks_on}
use Rattle.link_work.proofs.Turns.{turns_hold}
use Rattle.laws_board.specs.turns.Turns.{AreBoardTurns, BoardTurn, stands_after}
use Rattle.laws_board.specs.clocks.Runs.{orders_in}
use Rattle.laws_board.proofs.clocks.Orders.{turns_in_order}
use Rattle.laws_board.proofs.sections.Finding.{idle_took}
use Rattle.laws_homing.specs.home_runs.Sections.{RestsInTime, TakesSetUp, queued_in_turns}
use Rattle.laws_homing.proofs.home_runs.Joining.{all_queued}
use Rattle.laws_homing.proofs.home_runs.Windows.{begun}
use Rattle.board_world.proofs.Standing.{none_up}
use Rattle.link_work.proofs.Bounds.{nothing_waits}

pub rests_took : (b : BoardDef) (pins : List (List Level)) (board : ℕ) (entries : List Entry) (turns : List BoardTurn) → AreBoardTurns (clock_of b) (first_state b pins board entries) turns
    → is_idle (stands_after (first_state b pins board entries) turns) ≡ true → (stands_after (first_state b pins board entries) turns).core.taken ≡ queued_in_turns turns
rests_took b pins board entries turns are idle = search (rules, first_state, turns_are_steps, clock_of, turns_in_order, both_parts, nothing_waits, eqb-true, idle_took, all_queued)

pub rests_up : (b : BoardDef) (pins : List (List Level)) (board : ℕ) (entries : List Entry) (turns : List BoardTurn) → AreBoardTurns (clock_of b) (first_state b pins board entries) turns
    → (stands_after (first_state b pins board entries) turns).up.copies ≡ [] → (stands_after (first_state b pins board entries) turns).core.link.up ≡ []
rests_up b pins board entries turns are none = search (rules, first_state, turns_hold, clock_of, start_ordered, turns_in_order, none_up)

pub rests_set_up : (b : BoardDef) (pins : List (List Level)) (board : ℕ) (entries : List Entry) (turns : List BoardTurn) (begin : ℕ) → AreBoardTurns (clock_of b) (first_state b pins board entries) turns
    → RestsInTime (first_state b pins board entries) begin turns → TakesSetUp (first_state b pins board entries) begin turns
rests_set_up b pins board entries turns begin are r =
    let first = first_state b pins board entries in
    let mine : AreBoardTurns (clock_of b) first r.past = begun (clock_of b) first r.later r.past (subst (λ (x : List BoardTurn). AreBoardTurns (clock_of b) first x) r.are are) in
    record {
      window = r.later;
      late = [];
      past = r.past;
      are = r.are;
      queued = r.queued;
      in_time = r.in_time;
      more = [];
      took = append-nil (queued_in_turns r.past) ∙ sym (rests_took b pins board entries r.past mine r.idle);
      heard = rests_up b pins board entries r.past mine r.none;
    }
