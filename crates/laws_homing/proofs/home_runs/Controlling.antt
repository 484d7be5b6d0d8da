-- The controls of a board in the turns of a homing section.
use Rattle.std.proofs.Common.{◌≡◌, ℕ, ◌+◌, ◌-◌, ◌<◌, ◌≤◌, inl, inr, Bool, cond, List, ◌∷◌, ◌++◌, length, Option, Some, None, refl, ap, sym, ◌∙◌, subst, arith, rules}
use Rattle.laws_board.proofs.Names.{leb_tells, Level, Machine, Clocks, axis_at, board_at, stepper_at, State, Control, Entry, Switch, End, Member, Sends, Homes, Starts, GroupState, first_timeout, phase, Homing, answer_in, by_answer, commands_to, hears_all, homing_turn, members_of, Asking, clock_question, drifts, waits_in, trigger_of, Known, Connecting, noted, Reacted, homing_commands, stop_command, stops, Came, known_by, last_reacted, states-kept}
use Rattle.trigger_group.specs.declared.round.Phase.{Phase}
use Rattle.trigger_group.specs.declared.round.Round.{Round}
use Rattle.trigger_group.specs.Group.{ended, orders_of_group}
use Rattle.trigger_group.specs.Kept.{BoardsRise}
use Rattle.laws_board.specs.turns.Turns.{BoardTurn}
use Rattle.laws_board.specs.clocks.Runs.{IsInRun}
use Rattle.laws_board.proofs.clocks.Controls.{states_start}
use Rattle.laws_board.proofs.clocks.Lines.{noted_phase, turn_of}
use Rattle.laws_board.proofs.clocks.Turning.{Asks, BoardTurned, Ends, Runs}
use Rattle.laws_homing.specs.home_runs.Sections.{IsOf}
use Rattle.laws_homing.proofs.home_runs.Saying.{EachCalm}
use Rattle.laws_homing.proofs.home_runs.Setting.{Binds, FirstOf, InRound, RestOf, binds_front, each_both, first_in, late_calm, question_calm, rest_in, round_binds}
use Rattle.host_reactor.proofs.Idle.{not-yet}

-- the phases of the set-up
pub phase_starts : (start last k : ℕ) → start ≡ k + 251 → phase start last k ≡ Sends (Starts (first_timeout start last))
phase_starts start last k e = let left : start - k ≡ 251 = omega (arith, e) in rw left refl

pub phase_homes : (start last k : ℕ) → start ≡ k + 250 → phase start last k ≡ Sends Homes
phase_homes start last k e = let left : start - k ≡ 250 = omega (arith, e) in rw left refl

-- a group that didn't answer
group_binds : (m : Machine) (own : Clocks) (b k : ℕ) (g : Homing) (s : ℕ) (round : Round) → answer_in k g.start g.group ≡ None → phase g.group.start g.group.last k ≡ Sends round → BoardsRise (members_of g.group) → InRound b s round g.group.members
    → Binds (stepper_at m s).oid (trigger_of m b) (homing_commands m (by_answer k g (answer_in k g.start g.group)) own b)
group_binds m own b k g s round none is rise inside = search (rules, stepper_at, trigger_of, homing_commands, by_answer, commands_to, axis_at, round_binds)

pub first_binds : (m : Machine) (all : List Clocks) (states : List State) (own : Clocks) (b k : ℕ) (h : Homing) (s : ℕ) → h.start ≡ h.group.start → h.group.start ≡ k + 251 → BoardsRise (members_of h.group) → FirstOf b s (members_of h.group)
    → Binds (stepper_at m s).oid (trigger_of m b) (homing_commands m (homing_turn all k states (Some h)) own b)
first_binds m all states own b k h s together e rise first =
    let g = hears_all all states h in
    let members = states-kept all 0 h.start states h.group in
    group_binds m own b k g s (Starts (first_timeout g.group.start g.group.last)) (not-yet k g.start g.group (omega (arith, e, together)))
    (phase_starts g.group.start g.group.last k (states_start all 0 h.start states h.group ∙ e)) (subst BoardsRise (sym members) rise)
    (first_in b s (first_timeout g.group.start g.group.last) g.group.members (subst (λ (l : List Member). FirstOf b s l) (sym members) first))

pub rest_binds : (m : Machine) (all : List Clocks) (states : List State) (own : Clocks) (b k : ℕ) (h : Homing) (s : ℕ) → h.start ≡ h.group.start → h.group.start ≡ k + 250 → BoardsRise (members_of h.group) → RestOf b s (members_of h.group)
    → Binds (stepper_at m s).oid (trigger_of m b) (homing_commands m (homing_turn all k states (Some h)) own b)
rest_binds m all states own b k h s together e rise rest =
    let g = hears_all all states h in
    let members = states-kept all 0 h.start states h.group in
    group_binds m own b k g s Homes (not-yet k g.start g.group (omega (arith, e, together)))
    (phase_homes g.group.start g.group.last k (states_start all 0 h.start states h.group ∙ e)) (subst BoardsRise (sym members) rise)
    (rest_in b s g.group.members (subst (λ (l : List Member). RestOf b s l) (sym members) rest))

-- the control of a turn
pub connecting_not : (p q : Known) → p.phase ≡ q.phase → (q.phase ≡ Connecting → ⊥) → p.phase ≡ Connecting → ⊥
connecting_not p q e n f = n (sym e ∙ f)

control_calm : (i j : ℕ) (m : Machine) (b : ℕ) (c : Came) (r : Known) (k start : ℕ) (ms : List Member) (a : Asking) (x : Reacted) (t : BoardTurn) (o : Option Homing) → r.homing ≡ o → IsOf start ms o → start ≤ k + 250
    → (r.phase ≡ Connecting → ⊥) → BoardTurned m r b k c.states a x t.control → EachCalm i j t.control.commands
control_calm i j m b c r k start ms a x t o is of soon n (Asks p g) = absurd (n p)
control_calm i j m b c r k start ms a x t o is of soon n (Ends p g) = absurd (n p)
control_calm i j m b c r k start ms a x t None is of soon n (Runs p g) = absurd of
control_calm i j m b c r k start ms a x t (Some h) is of soon n (Runs p g) =
    let waits = waits_in (drifts (board_at m b).drift) k a in
    let commands = homing_commands m (homing_turn r.clocks k c.states r.homing) g.own b in
    let Home : Option Homing → Type 0 = λ y. EachCalm i j (homing_commands m (homing_turn r.clocks k c.states y) g.own b) in
    let same = of.1 in
    let home : EachCalm i j commands = subst Home (sym is) (late_calm i j m r.clocks k c.states h g.own b (omega (arith, soon, same))) in
    subst (λ (y : Control). EachCalm i j y.commands) (sym g.control_is) (each_both i j commands (clock_question commands waits ++ stop_command (stops g.stop)) home (question_calm i j commands waits (stops g.stop)))

pub turn_calm : (i j : ℕ) (m : Machine) (switches : List Switch) (pins : List (List Level)) (entries : List Entry) (b : ℕ) (c : Came) (before : List Came) (t : BoardTurn) (turns : List BoardTurn) (start : ℕ) (ms : List Member)
    → IsInRun m switches pins entries b (c ∷ before) (t ∷ turns) → ((known_by m switches before).phase ≡ Connecting → ⊥) → IsOf start ms (noted m c.note (known_by m switches before)).homing → start ≤ length before + 250
    → EachCalm i j t.control.commands
turn_calm i j m switches pins entries b c before t turns start ms r n of soon =
    let x = turn_of m switches pins entries b c before t turns r in
    let known = known_by m switches before in
    control_calm i j m b c (noted m c.note known) (length before) start ms x.a (last_reacted m switches c before) t (noted m c.note known).homing refl of soon (connecting_not (noted m c.note known) known (noted_phase m c.note known) n) x.turned

control_binds : (m : Machine) (b s : ℕ) (c : Came) (r : Known) (k start : ℕ) (ms : List Member) (a : Asking) (x : Reacted) (t : BoardTurn) (o : Option Homing) → r.homing ≡ o → IsOf start ms o
    → (r.phase ≡ Connecting → ⊥) → BoardTurned m r b k c.states a x t.control
    → ((h : Homing) (own : Clocks) → r.homing ≡ Some h → Binds (stepper_at m s).oid (trigger_of m b) (homing_commands m (homing_turn r.clocks k c.states (Some h)) own b)) → Binds (stepper_at m s).oid (trigger_of m b) t.control.commands
control_binds m b s c r k start ms a x t o is of n (Asks p g) binds = absurd (n p)
control_binds m b s c r k start ms a x t o is of n (Ends p g) binds = absurd (n p)
control_binds m b s c r k start ms a x t None is of n (Runs p g) binds = absurd of
control_binds m b s c r k start ms a x t (Some h) is of n (Runs p g) binds =
    let i = (stepper_at m s).oid in
    let j = trigger_of m b in
    let waits = waits_in (drifts (board_at m b).drift) k a in
    let commands = homing_commands m (homing_turn r.clocks k c.states r.homing) g.own b in
    let Home : Option Homing → Type 0 = λ y. Binds i j (homing_commands m (homing_turn r.clocks k c.states y) g.own b) in
    let home : Binds i j commands = subst Home (sym is) (binds h g.own is) in
    subst (λ (y : Control). Binds i j y.commands) (sym g.control_is) (binds_front i j commands (clock_question commands waits ++ stop_command (stops g.stop)) home (question_calm i j commands waits (stops g.stop)))

-- a control of a turn binds a stepper
turn_binds : (m : Machine) (switches : List Switch) (pins : List (List Level)) (entries : List Entry) (b s : ℕ) (c : Came) (before : List Came) (t : BoardTurn) (turns : List BoardTurn) (start : ℕ) (ms : List Member)
    → IsInRun m switches pins entries b (c ∷ before) (t ∷ turns) → ((known_by m switches before).phase ≡ Connecting → ⊥) → IsOf start ms (noted m c.note (known_by m switches before)).homing
    → ((h : Homing) (own : Clocks) → IsOf start ms (Some h)
    → Binds (stepper_at m s).oid (trigger_of m b) (homing_commands m (homing_turn (noted m c.note (known_by m switches before)).clocks (length before) c.states (Some h)) own b))
    → Binds (stepper_at m s).oid (trigger_of m b) t.control.commands
turn_binds m switches pins entries b s c before t turns start ms r n of binds =
    let x = turn_of m switches pins entries b c before t turns r in
    let known = known_by m switches before in
    let now = noted m c.note known in
    control_binds m b s c now (length before) start ms x.a (last_reacted m switches c before) t now.homing refl of (connecting_not now known (noted_phase m c.note known) n) x.turned
    (λ h own is. binds h own (subst (λ (o : Option Homing). IsOf start ms o) is of))

pub first_turn : (m : Machine) (switches : List Switch) (pins : List (List Level)) (entries : List Entry) (b s : ℕ) (c : Came) (before : List Came) (t : BoardTurn) (turns : List BoardTurn) (start : ℕ) (ms : List Member)
    → IsInRun m switches pins entries b (c ∷ before) (t ∷ turns) → ((known_by m switches before).phase ≡ Connecting → ⊥) → IsOf start ms (noted m c.note (known_by m switches before)).homing → BoardsRise ms → FirstOf b s ms
    → start ≡ length before + 251 → Binds (stepper_at m s).oid (trigger_of m b) t.control.commands
first_turn m switches pins entries b s c before t turns start ms r n of rise first e =
    turn_binds m switches pins entries b s c before t turns start ms r n of
    (λ h own o. first_binds m (noted m c.note (known_by m switches before)).clocks c.states own b (length before) h s (o.0 ∙ sym o.1) (o.1 ∙ e) (subst BoardsRise (sym o.2) rise) (subst (λ (l : List Member). FirstOf b s l) (sym o.2) first))

pub rest_turn : (m : Machine) (switches : List Switch) (pins : List (List Level)) (entries : List Entry) (b s : ℕ) (c : Came) (before : List Came) (t : BoardTurn) (turns : List BoardTurn) (start : ℕ) (ms : List Member)
    → IsInRun m switches pins entries b (c ∷ before) (t ∷ turns) → ((known_by m switches before).phase ≡ Connecting → ⊥) → IsOf start ms (noted m c.note (known_by m switches before)).homing → BoardsRise ms → RestOf b s ms
    → start ≡ length before + 250 → Binds (stepper_at m s).oid (trigger_of m b) t.control.commands
rest_turn m switches pins entries b s c before t turns start ms r n of rise rest e =
    turn_binds m switches pins entries b s c before t turns start ms r n of
    (λ h own o. rest_binds m (noted m c.note (known_by m switches before)).clocks c.states own b (length before) h s (o.0 ∙ sym o.1) (o.1 ∙ e) (subst BoardsRise (sym o.2) rise) (subst (λ (l : List Member). RestOf b s l) (sym o.2) rest))
