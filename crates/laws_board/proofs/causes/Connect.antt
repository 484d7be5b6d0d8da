-- A run that ends for a board that gives no answer while connecting.
use Rattle.std.proofs.Common.{◌≡◌, ℕ, ◌+◌, ◌*◌, ◌^◌, ◌<◌, ◌≤◌, List, ◌∷◌, length, Some, None, ap, sym, ◌∙◌, subst, arith}
use Rattle.plan_types.specs.declared.cause.Cause.TheVariants as cause
use Rattle.laws_board.proofs.Names.{Level, Machine, IsValidMachine, board_at, Entry, Switch, first_state, State, Stage, configuration, Connecting, is_out, noted, first_cause, Came, known_by, last_reacted, state_at}
use Rattle.board_asking.specs.Asking.{were_put}
use Rattle.board_asking.specs.Turns.{AreUnanswered, asking_in_turn}
use Rattle.host_reactor.specs.Runs.{HaveStates, told_by}
use Rattle.host_reactor.proofs.Connects.{silent-eight}
use Rattle.laws_board.specs.turns.Turns.{BoardTurn, latest_state}
use Rattle.laws_board.specs.clocks.Runs.{IsInRun, UnitsFit}
use Rattle.laws_board.proofs.clocks.Lines.{as_long, noted_phase}
use Rattle.laws_board.specs.causes.Causes.{AreHindered, BringNoSteps, before_turn}
use Rattle.laws_board.proofs.causes.Turns.{Next, before_length, states_length, states_of}
use Rattle.laws_board.proofs.causes.Told.{ConnectsTo, asking_behind, asking_in, connecting_before, connecting_so, told_states}
use Rattle.laws_board.proofs.causes.Ended.{connects_by, ends_by}
use Rattle.laws_board.proofs.causes.Owed.{Matches}
use Rattle.laws_board.proofs.causes.Owes.{owes, units_before}
use Rattle.laws_board.proofs.causes.Configured.{config_counts, config_done, no_steps_fit, none_before}
use Rattle.laws_board.proofs.causes.Row.{Asks, Out, hindered, out_of}

-- the reactor's count of a board's askings, in each of its turns
owes_at : (m : Machine) (switches : List Switch) (pins : List (List Level)) (entries : List Entry) (b : ℕ) (came : List Came) (turns : List BoardTurn) → IsValidMachine m
    → IsInRun m switches pins entries b came turns → (known_by m switches came).phase ≡ Connecting → UnitsFit turns → length turns < 2 ^ 59 → (k : ℕ) (n : Next k turns) → k < length turns
    → Matches (were_put n.t.state.turn n.t.state.asked (asking_in_turn (configuration m b) (length (states_of (before_turn k turns))) (asking_in (configuration m b) (before_turn k turns)))) n.t.after.core.link
owes_at m switches pins entries b came turns v r p u small k n h =
    let setups = configuration m b in
    let before = before_turn k turns in
    let to = subst (λ (l : List BoardTurn). ConnectsTo m switches pins entries b l) n.is (connecting_before m switches pins entries b came turns (k + 1) r p) in
    let fits = subst (λ (l : List BoardTurn). UnitsFit l) n.is (units_before (k + 1) turns u) in
    let size : length (n.t ∷ before) ≡ k + 1 = ap length (sym n.is) ∙ before_length (k + 1) turns (omega arith) in
    let so = connecting_so m switches pins entries b to.came (n.t ∷ before) to.run to.phase in
    let o = owes m switches pins entries b to.came (n.t ∷ before) v to.run fits (omega arith) (asking_behind setups (n.t ∷ before)) so.asking in
    subst (λ (i : ℕ). Matches (were_put n.t.state.turn n.t.state.asked (asking_in_turn setups i (asking_in setups before))) n.t.after.core.link) (sym (states_length before)) o.matches

pub asks_in : (m : Machine) (switches : List Switch) (pins : List (List Level)) (entries : List Entry) (b : ℕ) (came : List Came) (turns : List BoardTurn) → IsValidMachine m
    → IsInRun m switches pins entries b came turns → (known_by m switches came).phase ≡ Connecting → UnitsFit turns → length turns < 2 ^ 59 → Asks m pins entries b (configuration m b) turns
asks_in m switches pins entries b came turns v r p u small = record {
  are = r.turns_are;
  in_range = r.in_range;
  all = (connecting_so m switches pins entries b came turns r p).all;
  owes = owes_at m switches pins entries b came turns v r p u small;
}

pub connect_cause : (m : Machine) (switches : List Switch) (pins : List (List Level)) (entries : List Entry) (b : ℕ) (c : Came) (before : List Came) (turns : List BoardTurn) (turn : ℕ) → IsValidMachine m
    → IsInRun m switches pins entries b before turns → HaveStates m (c ∷ before) → state_at b c.states ≡ latest_state turns → BringNoSteps turns → length before < 2 ^ 59
    → first_cause (is_out c.note) (noted m c.note (known_by m switches before)).stopped c.states ≡ None
    → (last_reacted m switches c before).ordered.end ≡ Some (cause.Connect b turn)
    → (count : ℕ) × (8 ≤ count) × AreUnanswered (configuration m b) (told_by b (c ∷ before)) turn count × AreHindered (first_state (board_at m b) pins b entries) turns turn count
connect_cause m switches pins entries b c before turns turn v r h e none small first end =
    let setups = configuration m b in
    let long = as_long m switches b before turns r.both in
    let eight = (silent-eight m switches c before b turn r.goes_on h small first end).1 in
    let by = ends_by m switches (known_by m switches before) (length before) c.states c.note (cause.Connect b turn) first end in
    let phase = sym (noted_phase m c.note (known_by m switches before)) ∙ connects_by (noted m c.note (known_by m switches before)) (length before) c.states m b turn by in
    let a = asks_in m switches pins entries b before turns v r phase (no_steps_fit turns none) (omega arith) in
    let told = told_states m switches b c before turns e r.both in
    let row : AreUnanswered setups (states_of turns) turn eight.0 = subst (λ (l : List State). AreUnanswered setups l turn eight.0) told eight.2 in
    let until = row.until in (
      eight.0,
      eight.1,
      eight.2,
      record {
        until = until ∙ states_length turns;
        each = λ i l.
            let k = turn + 4 * i in
            let o = out_of setups turns k (omega (arith, states_length turns)) (row.asked i l) (row.out i l) in
            hindered m pins entries b setups turns k (asking_in setups (before_turn k turns)).stage a o
            (λ s clear. config_counts m pins entries b setups turns k a (subst (λ (g : Stage). Out setups turns k g) s o) none
            (config_done m switches pins entries b (before_turn k turns) v (connecting_before m switches pins entries b before turns k r phase) (none_before k turns none) s) clear);
      },
    )
