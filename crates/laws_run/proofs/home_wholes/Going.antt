-- A board of a run in which axes home runs while the reactor goes on, and stays shut once it is.
use Rattle.std.proofs.Common.{◌≡◌, ℕ, zero, suc, ◌+◌, Bool, true, false, cond, List, [], ◌∷◌, ◌++◌, length, Option, Some, None, refl, ap, sym, ◌∙◌, subst, inl, inr, rules}
use Rattle.std.specs.Prelude.{◌||◌, if◌then◌else◌}
use Rattle.laws_board.proofs.Names.{eqb_tells, flat_map, Cause, BoardClock, Level, BoardDef, Machine, Running, Shut, clock_of, board_at, ShutNews, State, Entry, Switch, Controller, is_shut, commands_of, Event, IsOrdered, Core, Step, Do, Turn, after_event, in_turn, run_world, new_world, takes_in, queued_in, first_state, orders, LinkState, turns_are_steps, is_out, noted, first_cause, Came, known_by, last_reacted, state_at}
use Rattle.plan_types.specs.declared.cause.Cause.TheVariants as cause
use Rattle.board_sim.specs.Board.{new_controller}
use Rattle.board_sim.proofs.RigShut.{all_left_by}
use Rattle.board_sim.proofs.RigStates.{passes_state}
use Rattle.board_world.specs.declared.event.Event.TheVariants as event
use Rattle.board_world.proofs.Runs.{all_orders}
use Rattle.host_reactor.specs.Running.{any_out, late, late_of, or_cause}
use Rattle.host_reactor.proofs.Ends.{first-ends}
use Rattle.laws_board.specs.turns.Turns.{AreBoardTurns, BoardTurn, latest_state, stands_after}
use Rattle.laws_board.specs.clocks.Runs.{IsInRun, orders_in}
use Rattle.laws_board.proofs.clocks.Orders.{turns_in_order}
use Rattle.laws_board.specs.sections.Ends.{MayBe}
use Rattle.laws_board.specs.sections.Stops.{NeverStop}
use Rattle.laws_homing.proofs.home_runs.Windows.{ordered_after}
use Rattle.laws_run.proofs.home_headline.Stop.{never_shut, runs_so}
use Rattle.laws_run.proofs.home_headline.Unasked.{never_stop}
use Rattle.laws_run.proofs.run_ends.Unstopped.{not_before}
use Rattle.laws_run.proofs.run_headline.Going.{or_none}
use Rattle.laws_run.proofs.run_ends.Ending.{some_none}

memory_none : (b : Bool) (o : Option Cause) → cond b (Some cause.Memory) o ≡ None → o ≡ None
memory_none true o e = absurd (some_none cause.Memory e)
memory_none false o e = e

none_first : (m : Machine) (switches : List Switch) (c : Came) (before : List Came) (o : Option Cause) → (last_reacted m switches c before).ordered.end ≡ None
    → first_cause (is_out c.note) (noted m c.note (known_by m switches before)).stopped c.states ≡ o → o ≡ None
none_first m switches c before None e f = refl
none_first m switches c before (Some x) e f = absurd (some_none x (sym (first-ends m switches (known_by m switches before) (length before) c.states c.note x f) ∙ e))

none_late : (m : Machine) (switches : List Switch) (c : Came) (before : List Came) → (last_reacted m switches c before).ordered.end ≡ None → late 0 c.states ≡ None
none_late m switches c before e = search (rules, noted, known_by, none_first, first_cause, is_out, or_none, memory_none)

not_late : (j : ℕ) (n : ShutNews) → late_of j (Some n) ≡ None → n.reason ≡ 1 → ⊥
not_late j n e one =
    let At : Bool → Type 0 = λ b. (if b then Some (cause.Late j n.first n.tick n.spoiled n.spill) else None) ≡ None in
    elim (eqb_tells n.reason 1) [ inl p ↦ some_none (cause.Late j n.first n.tick n.spoiled n.spill) (subst At p.0 e) | inr p ↦ p.1 one ]

-- none of the states tells that a unit came too late
in_time : (j b : ℕ) (states : List State) (s : State) (n : ShutNews) → late j states ≡ None → state_at b states ≡ s ∷ [] → s.shut ≡ Some n → n.reason ≡ 1 → ⊥
in_time j b [] s n e at is one = let f : [] ≡ s ∷ [] = at in cc
in_time j zero (x ∷ states) s n e at is one =
    let same : x ≡ s = cc in
    not_late j n (ap (late_of j) (sym (ap (λ (y : State). y.shut) same ∙ is)) ∙ (or_none (late_of j x.shut) (late (j + 1) states) e).0) one
in_time j (suc b) (x ∷ states) s n e at is one = in_time (j + 1) b states s n (or_none (late_of j x.shut) (late (j + 1) states) e).1 at is one

-- a board that wasn't told to stop didn't shut down for that
none_asked : (d : BoardDef) (pins : List (List Level)) (b : ℕ) (entries : List Entry) (turns : List BoardTurn) (tick first : ℕ) → AreBoardTurns (clock_of d) (first_state d pins b entries) turns → NeverStop (orders_in turns)
    → (stands_after (first_state d pins b entries) turns).core.board.controller.state ≡ Shut 5 tick first → ⊥
none_asked d pins b entries turns tick first are never shut =
    let begin = first_state d pins b entries in
    let os = orders_in turns in
    let steps = turns_are_steps (clock_of d) 0 os begin (stands_after begin turns) (turns_in_order (clock_of d) begin turns are) in
    let ordered : IsOrdered (run_world steps.0 (new_world d pins)) = subst IsOrdered steps.1 (ordered_after d pins b entries turns are) in
    let queue : (run_world steps.0 (new_world d pins)).queued ≡ flat_map queued_in os = all_orders steps.0 (new_world d pins) ∙ steps.2 in
    never_shut d pins os steps.0 tick first ordered queue never (ap (λ (h : Core). h.board.controller.state) (sym steps.1) ∙ shut)

-- a board whose state came in a turn of the reactor that goes on runs
pub goes_running : (m : Machine) (switches : List Switch) (pins : List (List Level)) (entries : List Entry) (b : ℕ) (c : Came) (before : List Came) (past : List BoardTurn)
    → IsInRun m switches pins entries b before past
    → state_at b c.states ≡ latest_state past
    → (last_reacted m switches c before).ordered.end ≡ None
    → MayBe (stands_after (first_state (board_at m b) pins b entries) past).core.board.controller.state
    → (stands_after (first_state (board_at m b) pins b entries) past).core.board.controller.state ≡ Running
unfolding new_controller
goes_running m switches pins entries b c before [] r told e may = refl
goes_running m switches pins entries b c before (t ∷ turns) r told e may =
    let never = never_stop m switches pins entries b before (t ∷ turns) r (not_before m switches c before e) in
    runs_so t.after.core.board.controller.state t.state.shut may r.turns_are.0.1.shut (λ n is one. in_time 0 b c.states t.state n (none_late m switches c before e) told is one)
    (λ tick first shut. none_asked (board_at m b) pins b entries (t ∷ turns) tick first r.turns_are never shut)

-- nothing that happens changes the state of a board that is shut down
shut_event : (h : Core) (e : Event) → is_shut h.board.controller.state ≡ true → (after_event h e).board.controller.state ≡ h.board.controller.state
shut_event h e p2 = search (rules, passes_state, all_left_by, commands_of, takes_in)

shut_steps : (steps : List Step) (h : Core) → is_shut h.board.controller.state ≡ true → (run_world steps h).board.controller.state ≡ h.board.controller.state
shut_steps [] h shut = refl
shut_steps (Do e ∷ steps) h shut = let one = shut_event h e shut in shut_steps steps (after_event h e) (ap is_shut one ∙ shut) ∙ one
shut_steps (Turn turn ∷ steps) h shut = shut_steps steps (in_turn h turn) shut

-- a board that has shut down stays so
pub stays_shut : (clock : BoardClock) (first : LinkState) (later past : List BoardTurn) (reason tick at : ℕ) → AreBoardTurns clock first (later ++ past)
    → (stands_after first past).core.board.controller.state ≡ Shut reason tick at → (stands_after first (later ++ past)).core.board.controller.state ≡ Shut reason tick at
stays_shut clock first [] past reason tick at are shut = shut
stays_shut clock first (t ∷ later) past reason tick at are shut =
    let before = later ++ past in
    let l = stands_after first before in
    let steps = turns_are_steps clock (length before) (orders t.control t.batch ∷ []) l t.after (t.after, are.0.0, refl) in
    let rest = stays_shut clock first later past reason tick at are.1 shut in
    ap (λ (h : Core). h.board.controller.state) steps.1 ∙ shut_steps steps.0 l.core (ap is_shut rest) ∙ rest
