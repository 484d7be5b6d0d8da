-- No state of a whole run tells of a shutdown but for steps that came too late and for the order to stop.
use Rattle.std.proofs.Common.{All, ◌≡◌, ℕ, suc, ◌<◌, ◌≤◌, List, [], ◌∷◌, ◌++◌, drop, length, map, refl, ap, sym, ◌∙◌, subst, arith, inl, inr, append_assoc}
use Rattle.laws_board.proofs.Names.{flat_map, take-append-drop, All-cons, All-head, All-nil, All-tail, BoardClock, Level, BoardDef, Machine, Shut, clock_of, Cmd, State, Unit as StepUnit, Entry, Controller, Meant, commands_of, takes_all, plain, units_orders, Core, Do, Step, Turn, after_event, in_turn, run_world, new_world, takes_in, queued_in, first_state, LinkState, Orders, turns_are_steps, ReactorTurn, item, Came, Switch}
use Rattle.msg_code.specs.declared.cmd.Cmd.TheVariants as cmd
use Rattle.board_sim.specs.Board.{command_request}
use Rattle.board_world.specs.Shut.{Shuts, WasShut}
use Rattle.board_world.proofs.Causes.{was_shut}
use Rattle.link_work.specs.Ends.{last_link}
use Rattle.link_work.proofs.Late.{ordered_after}
use Rattle.link_work.proofs.Shut.{begins_running}
use Rattle.laws_board.specs.turns.Turns.{AreBoardTurns, BoardTurn, stands_after}
use Rattle.laws_board.specs.clocks.Runs.{ends_in, orders_in}
use Rattle.laws_board.proofs.clocks.Orders.{ends_in_order, last_stands, turns_in_order}
use Rattle.session_work.specs.Heads.{IsRow}
use Rattle.session_run.specs.Boards.{AreReactorTurns, came_in}
use Rattle.laws_board.specs.sections.Ends.{MayBe}
use Rattle.laws_board.specs.sections.Late.{IsIn}
use Rattle.laws_board.specs.sections.Parts.{IsControl}
use Rattle.laws_board.proofs.sections.Naming.{in_more, taken_more}
use Rattle.laws_board.proofs.sections.Seeking.{Among, among_first, among_of, among_split}
use Rattle.laws_run.specs.lanes.Boards.{turns_behind, states_of}
use Rattle.laws_board.specs.plans.Boards.{TookStates}
use Rattle.laws_board.specs.plans.Given.{TookControls}
use Rattle.laws_run.proofs.clear_runs.Punctual.{NoUnits}
use Rattle.laws_run.proofs.home_wholes.Going.{stays_shut}
use Rattle.laws_run.specs.run_lates.Late.{AllMayTell, MayTell}
use Rattle.laws_run.proofs.run_lates.Linked.{are_front, item_same}
use Rattle.link_work.proofs.Spilled.{state_by}

-- the command that shut a board down is one of those that it took
was_named : (steps : List Step) (h : Core) (reason tick first : ℕ) → WasShut h steps reason tick first → (m : Meant) × IsIn m (run_world steps h).taken × ((b : Controller) × Shuts b m.command reason first)
was_named [] h reason tick first w = absurd w
was_named (Do e ∷ steps) h reason tick first (inl s) =
    let rest = taken_more steps (after_event h e) in
    let In : List Meant → Type 0 = λ x. IsIn s.command x in
    (s.command, subst In (sym rest.1) (in_more s.command h.taken (takes_in h e) rest.0 (s.before, s.behind, s.are)), ((takes_all h.board (commands_of s.before)).rig.controller, s.cause))
was_named (Turn turn ∷ steps) h reason tick first (inl s) = absurd s
was_named (Do e ∷ steps) h reason tick first (inr w) = was_named steps (after_event h e) reason tick first w
was_named (Turn turn ∷ steps) h reason tick first (inr w) = was_named steps (in_turn h turn) reason tick first w

-- a control command of a run of moves shuts a board down only where it is the order to stop
one_reason : (b : Controller) (c : Cmd) (reason first : ℕ) → IsControl c → Shuts b c reason first → reason ≡ command_request
one_reason b (cmd.QueueStep oid interval count add) reason first k s = absurd k
one_reason b (cmd.ResetStepClock oid clock) reason first k s = absurd k
one_reason b cmd.EmergencyStop reason first k s = s
one_reason b _ reason first k s = absurd s

of_controls : (m : Meant) (cs : List Cmd) → Among m (map plain cs) → All IsControl cs → IsControl m.command
of_controls m [] a h = absurd a
of_controls m (c ∷ cs) (inl e) h = let Is : Meant → Type 0 = λ x. IsControl x.command in subst Is (sym e) (All-head IsControl c cs h)
of_controls m (c ∷ cs) (inr a) h = of_controls m cs a (All-tail IsControl c cs h)

of_orders : (m : Meant) (os : List Orders) → Among m (flat_map queued_in os) → NoUnits os → TookControls os → IsControl m.command
of_orders m [] a none controls = absurd a
of_orders m (o ∷ os) a none controls = elim (among_split m (queued_in o) (flat_map queued_in os) a) [
  | inl p ↦ elim (among_split m (map plain o.control.commands) (units_orders o.batch.units) p) [
    | inl q ↦ of_controls m o.control.commands q controls.0
    | inr q ↦ let In : List StepUnit → Type 0 = λ us. Among m (units_orders us) in absurd (subst In none.0 q)
  ]
  | inr p ↦ of_orders m os p none.1 controls.1
]

-- so a board to which no units are sent, and that homes nothing, shuts down for the order to stop alone
pub controls_may : (d : BoardDef) (pins : List (List Level)) (place : ℕ) (entries : List Entry) (turns : List BoardTurn) (reason tick first : ℕ) → AreBoardTurns (clock_of d) (first_state d pins place entries) turns → NoUnits (orders_in turns) → TookControls (orders_in turns)
    → (stands_after (first_state d pins place entries) turns).core.board.controller.state ≡ Shut reason tick first → reason ≡ command_request
controls_may d pins place entries turns reason tick first are none controls shut =
    let begin = first_state d pins place entries in
    let end = stands_after begin turns in
    let steps = turns_are_steps (clock_of d) 0 (orders_in turns) begin end (turns_in_order (clock_of d) begin turns are) in
    let n = was_named steps.0 (new_world d pins) reason tick first (was_shut steps.0 (new_world d pins) reason tick first (begins_running d pins) (ap (λ (h : Core). h.board.controller.state) (sym steps.1) ∙ shut)) in
    let known = ordered_after d pins place entries (clock_of d) (orders_in turns) (ends_in turns) (ends_in_order (clock_of d) begin turns are) in
    let last = last_stands begin turns in
    let h = (last_link begin (ends_in turns)).core in
    let long = length h.link.taken in
    let queued : h.taken ++ drop long h.queued ≡ flat_map queued_in (orders_in turns) = ap (λ x. x ++ drop long h.queued) known.0.first ∙ take-append-drop long h.queued ∙ known.1 in
    let In : Core → Type 0 = λ x. IsIn n.0 x.taken in
    let among = subst In (sym steps.1 ∙ ap (λ (l : LinkState). l.core) (sym last)) n.1 in
    let At : List Meant → Type 0 = λ x. Among n.0 x in
    let control = of_orders n.0 (orders_in turns) (subst At queued (among_first n.0 h.taken (drop long h.queued) (among_of n.0 h.taken among))) none controls in
    one_reason n.2.0 n.0.command reason first control n.2.1

-- turns behind others
behind_parts : (turns made : List BoardTurn) → (later : List BoardTurn) × (turns_behind turns made ≡ later ++ turns)
behind_parts turns [] = ([], refl)
behind_parts turns (t ∷ made) = let rest = behind_parts (t ∷ turns) made in (rest.0 ++ t ∷ [], rest.1 ∙ sym (append_assoc rest.0 (t ∷ []) turns))

-- where a board ended for one of the two reasons, each of its states tells of none but these
abbrev EachMayTell : ℕ → List ReactorTurn → Type 0
EachMayTell b rs = All (λ t. (x : State) → item b t.states ≡ x ∷ [] → MayTell x) rs

pub each_may : (clock : BoardClock) (begin : LinkState) (turns made : List BoardTurn) (b : ℕ) (rs : List ReactorTurn) → AreBoardTurns clock begin (turns_behind turns made) → MayBe (stands_after begin (turns_behind turns made)).core.board.controller.state → TookStates b rs (states_of made)
    → EachMayTell b rs
each_may clock begin turns made b [] are may took = All-nil (λ (t : ReactorTurn). (x : State) → item b t.states ≡ x ∷ [] → MayTell x)
each_may clock begin turns [] b (r ∷ rs) are may took = absurd took
each_may clock begin turns (t ∷ made) b (r ∷ rs) are may took =
    let here = are_front clock begin (t ∷ turns) made are in
    let parts = behind_parts (t ∷ turns) made in
    let Are : List BoardTurn → Type 0 = λ z. AreBoardTurns clock begin z in
    let May : List BoardTurn → Type 0 = λ z. MayBe (stands_after begin z).core.board.controller.state in
    let all = subst Are parts.1 are in
    let end = subst May parts.1 may in
    All-cons (λ (q : ReactorTurn). (x : State) → item b q.states ≡ x ∷ [] → MayTell x) r rs
    (λ x at n shut.
    let same : x ≡ t.state = item_same x t.state (sym at ∙ took.0) in
    let is = state_by t.after.core.board.controller.state t.state.shut n here.0.1.shut (ap (λ (z : State). z.shut) (sym same) ∙ shut) in
    subst MayBe (stays_shut clock begin parts.0 (t ∷ turns) n.reason n.tick n.first all is) end)
    (each_may clock begin (t ∷ turns) made b rs are may took.1)

-- and so do all states of the turns, where those of each board do
all_states : (xs : List State) → ((i : ℕ) (x : State) → i < length xs → item i xs ≡ x ∷ [] → MayTell x) → All (λ s. MayTell s) xs
all_states [] f = All-nil (λ (s : State). MayTell s)
all_states (x ∷ xs) f = All-cons (λ (s : State). MayTell s) x xs (f 0 x (omega arith) refl) (all_states xs (λ i y low at. f (suc i) y (omega (arith, low)) at))

pub all_may : (n : ℕ) (rs : List ReactorTurn) → All (λ t. length t.states ≤ n) rs → ((b : ℕ) → b < n → EachMayTell b rs) → AllMayTell rs
all_may n [] few f = All-nil (λ (t : ReactorTurn). All (λ s. MayTell s) t.states)
all_may n (r ∷ rs) few f =
    let Few : ReactorTurn → Type 0 = λ t. length t.states ≤ n in
    let size = All-head Few r rs few in
    All-cons (λ (t : ReactorTurn). All (λ s. MayTell s) t.states) r rs
    (all_states r.states (λ i x low at. All-head (λ (t : ReactorTurn). (x : State) → item i t.states ≡ x ∷ [] → MayTell x) r rs (f i (omega (arith, low, size))) x at))
    (all_may n rs (All-tail Few r rs few) (λ b low. All-tail (λ (t : ReactorTurn). (x : State) → item b t.states ≡ x ∷ [] → MayTell x) r rs (f b low)))

-- to a turn a state of each board came, or none
pub row_few : (n k : ℕ) (t : ReactorTurn) → IsRow n k t.states t.note → length t.states ≤ n
row_few n k t (inl a) = let e = ap length a.1 in omega (arith, e)
row_few n k t (inr a) = let e = a.1 in omega (arith, e)

pub rows_few : (m : Machine) (switches : List Switch) (before : List Came) (rs : List ReactorTurn) → AreReactorTurns m switches before rs → All (λ t. length t.states ≤ length m.boards) rs
rows_few m switches before [] a = All-nil (λ (t : ReactorTurn). length t.states ≤ length m.boards)
rows_few m switches before (r ∷ rs) a =
    All-cons (λ (t : ReactorTurn). length t.states ≤ length m.boards) r rs (row_few (length m.boards) (length before) r a.0.row) (rows_few m switches (came_in r ∷ before) rs a.1)

pub few_more : (n : ℕ) (rs : List ReactorTurn) (end : ReactorTurn) → All (λ t. length t.states ≤ n) rs → length end.states ≤ n → All (λ t. length t.states ≤ n) (rs ++ end ∷ [])
few_more n [] end a low = All-cons (λ (t : ReactorTurn). length t.states ≤ n) end [] low (All-nil (λ (t : ReactorTurn). length t.states ≤ n))
few_more n (r ∷ rs) end a low =
    let Few : ReactorTurn → Type 0 = λ t. length t.states ≤ n in
    All-cons Few r (rs ++ end ∷ []) (All-head Few r rs a) (few_more n rs end (All-tail Few r rs a) low)
