-- Which controls start a trigger or bind a stepper: those of the set-up of a homing section of which the board is a member.
use Rattle.std.proofs.Common.{◌≡◌, ℕ, ◌+◌, ◌-◌, ◌*◌, ◌≤◌, ◌==◌, ◌⊎◌, inl, inr, Bool, true, false, cond, List, [], ◌∷◌, ◌++◌, length, map, take, drop, Option, Some, None, refl, sym, subst, arith, rules}
use Rattle.std.specs.Prelude.{nat_lt}
use Rattle.laws_board.proofs.Names.{eqb-true, eqb_tells, Level, AxisDef, Machine, Clocks, axis_at, board_at, Cmd, State, Control, Entry, Switch, Ctl, End, Member, Order, Goes, Rests, Sends, Homes, Starts, Fired, Seen, GroupState, all_fired, first_timeout, phase, relay_in, relays_in, round_of, steppers, Homing, answer_in, by_answer, command_to, commands_to, hears_all, homing_turn, order_command, members_of, Asking, Stage, Config, Configure, Connected, Identify, Uptime, Setup, is_question_due, ready, asks_now, clock_question, drifts, waits_in, configuration, Known, noted, Reacted, homing_commands, stop_command, stops, Came, known_by, last_reacted, states-kept}
use Rattle.msg_code.specs.declared.cmd.Cmd.TheVariants as cmd
use Rattle.trigger_group.specs.declared.order.End.TheVariants as end
use Rattle.trigger_group.specs.declared.order.Order.TheVariants as order
use Rattle.trigger_group.specs.declared.round.Phase.{Phase}
use Rattle.trigger_group.specs.declared.round.Round.{Round}
use Rattle.trigger_group.specs.declared.round.Round.TheVariants.{Relays, Resets, Timeouts}
use Rattle.trigger_group.specs.Group.{goes, limit, orders, orders_of_group, orders_to, reset, stop, to_board, unless_fired}
use Rattle.board_asking.specs.declared.setup.Setup.TheVariants.{Endstop, Finish, Oids, Stepper, Trsync}
use Rattle.board_asking.specs.Asking.{asks, question}
use Rattle.board_asking.specs.Machine.{control_bytes, fitting, setup_command}
use Rattle.laws_board.specs.turns.Turns.{BoardTurn}
use Rattle.laws_board.specs.clocks.Runs.{IsInRun}
use Rattle.laws_board.proofs.clocks.Controls.{states_start}
use Rattle.laws_board.proofs.clocks.Lines.{turn_of}
use Rattle.laws_board.proofs.clocks.Turning.{Asks, BoardTurned, Ends, Runs}
use Rattle.laws_homing.specs.home_runs.Told.{IsMember}
use Rattle.laws_run.specs.home_wholes.Still.{EachStill, IsStill}
use Rattle.laws_homing.proofs.clear_groups.Reading.{member_or_not}

each_both : (xs ys : List Cmd) → EachStill xs → EachStill ys → EachStill (xs ++ ys)
each_both [] ys a b = b
each_both (x ∷ xs) ys a b = (a.0, each_both xs ys a.1 b)

each_if : (c : Bool) (xs : List Cmd) → EachStill xs → EachStill (cond c xs [])
each_if true xs a = a
each_if false xs a = tt

-- connecting
setup_still : (s : Setup) → IsStill (setup_command s)
setup_still (Oids count) = tt
setup_still c = tt

setups_still : (ss : List Setup) → EachStill (map setup_command ss)
setups_still [] = tt
setups_still (s ∷ ss) = (setup_still s, setups_still ss)

asks_still : (turn : ℕ) (setups : List Setup) (a : Asking) (stage : Stage) → EachStill (asks setups turn a stage)
asks_still turn setups a (Configure n) = setups_still (fitting control_bytes (drop n setups))
asks_still turn setups a Connected = each_if (is_question_due turn a.since) (question Connected) tt
asks_still turn setups a c = each_if (is_question_due turn a.since) (question c) (tt, tt)

stop_still : (s : Bool) → EachStill (stop_command s)
stop_still true = (tt, tt)
stop_still false = tt

question_still : (commands : List Cmd) (a : Asking) (s : Bool) → EachStill (clock_question commands a ++ stop_command s)
question_still commands a s = each_both (clock_question commands a) (stop_command s) (each_if (asks_now commands a) (cmd.GetUptime ∷ []) (tt, tt)) (stop_still s)

-- orders that start no trigger and bind no stepper
abbrev OrderStill : Order → Type 0
OrderStill order.Start = ⊥
OrderStill (order.Stop i) = ⊥
OrderStill what = Unit {0}

-- or go to other boards
abbrev CtlsStill : ℕ → List Ctl → Type 0
CtlsStill b [] = Unit {0}
CtlsStill b (c ∷ cs) = (c.board ≡ b → OrderStill c.what) × CtlsStill b cs

ctls_both : (b : ℕ) (xs ys : List Ctl) → CtlsStill b xs → CtlsStill b ys → CtlsStill b (xs ++ ys)
ctls_both b [] ys a k = k
ctls_both b (x ∷ xs) ys a k = (a.0, ctls_both b xs ys a.1 k)

ctls_if : (b : ℕ) (c : Bool) (xs : List Ctl) → CtlsStill b xs → CtlsStill b (cond c xs [])
ctls_if b true xs a = a
ctls_if b false xs a = tt

ctls_unless : (b : ℕ) (c : Bool) (xs : List Ctl) → CtlsStill b xs → CtlsStill b (cond c [] xs)
ctls_unless b true xs a = tt
ctls_unless b false xs a = a

resets_still : (b : ℕ) (x : Seen) (ks : List ℕ) → CtlsStill b (map (reset x) ks)
resets_still b x [] = tt
resets_still b x (k ∷ ks) = (λ e. tt, resets_still b x ks)

stops_other : (b : ℕ) (x : Seen) (ks : List ℕ) → (x.member.board ≡ b → ⊥) → CtlsStill b (map (stop x) ks)
stops_other b x [] n = tt
stops_other b x (k ∷ ks) n = (λ e. n e, stops_other b x ks n)

fired_still : (b : ℕ) (o : Option Fired) (xs : List Ctl) → CtlsStill b xs → CtlsStill b (unless_fired o xs)
fired_still b None xs a = a
fired_still b (Some f) xs a = tt

-- a round that starts no trigger and binds no stepper
abbrev RoundStill : Round → Type 0
RoundStill (Starts timeout) = ⊥
RoundStill Homes = ⊥
RoundStill round = Unit {0}

to_still : (b : ℕ) (round : Round) (x : Seen) → (x.member.board ≡ b → RoundStill round) → CtlsStill b (orders_to round x)
to_still b (Resets row) x f = resets_still b x (take 6 (drop (row * 6) (steppers x)))
to_still b (Starts timeout) x f = (λ e. f e, (λ e. tt, stops_other b x (take 8 (steppers x)) f))
to_still b Homes x f =
    ctls_both b (map (stop x) (drop 8 (steppers x))) (cond x.member.endstop (to_board x order.Home ∷ []) []) (stops_other b x (drop 8 (steppers x)) f)
    (ctls_if b x.member.endstop (to_board x order.Home ∷ []) (λ e. tt, tt))
to_still b (Timeouts turn) x f = (λ e. tt, tt)
to_still b Relays x f = fired_still b x.fired (to_board x order.Trigger ∷ []) (λ e. tt, tt)

abbrev MembersOf : List Seen → List Member
MembersOf xs = map (λ (s : Seen). s.member) xs

round_still : (b : ℕ) (round : Round) (xs : List Seen) → (IsMember b (MembersOf xs) → RoundStill round) → CtlsStill b (round_of round xs)
round_still b round [] f = tt
round_still b round (x ∷ xs) f = ctls_both b (orders_to round x) (round_of round xs) (to_still b round x (λ e. f (inl e))) (round_still b round xs (λ i. f (inr i)))

abbrev PhaseStill : Phase → Type 0
PhaseStill (Sends round) = RoundStill round
PhaseStill p = Unit {0}

goes_still : (b : ℕ) (g : GroupState) (turn : ℕ) → CtlsStill b (goes g turn)
goes_still b g turn =
    ctls_both b (cond (nat_lt g.sent (limit g)) (round_of (Timeouts (limit g)) g.members) []) (cond (relays_in (relay_in g turn) turn) (round_of Relays g.members) [])
    (ctls_if b (nat_lt g.sent (limit g)) (round_of (Timeouts (limit g)) g.members) (round_still b (Timeouts (limit g)) g.members (λ i. tt)))
    (ctls_if b (relays_in (relay_in g turn) turn) (round_of Relays g.members) (round_still b Relays g.members (λ i. tt)))

in_still : (b : ℕ) (p : Phase) (g : GroupState) (turn : ℕ) → (IsMember b (members_of g) → PhaseStill p) → CtlsStill b (orders_of_group p g turn)
in_still b (Sends round) g turn f = round_still b round g.members f
in_still b Goes g turn f = ctls_unless b (all_fired g.members) (goes g turn) (goes_still b g turn)
in_still b Rests g turn f = tt

if_still : (c : Bool) (x y : Phase) → (c ≡ true → PhaseStill x) → PhaseStill y → PhaseStill (cond c x y)
if_still true x y f g = f refl
if_still false x y f g = g

phase_still : (start last k : ℕ) → (start ≡ k + 251 → ⊥) → (start ≡ k + 250 → ⊥) → PhaseStill (phase start last k)
phase_still start last k first second = search (rules, if_still, first_timeout, eqb-true)

-- their commands
order_still : (m : Machine) (clocks : Clocks) (b start : ℕ) (axis : AxisDef) (what : Order) → OrderStill what → IsStill (order_command m clocks b start axis what)
order_still m clocks b start axis (order.Stop s) a = absurd a
order_still m clocks b start axis order.Start a = absurd a
order_still m clocks b start axis c a = tt

ctls_still : (m : Machine) (clocks : Clocks) (b start : ℕ) (axis : AxisDef) (ctls : List Ctl) → CtlsStill b ctls → EachStill (commands_to m clocks b start axis ctls)
ctls_still m clocks b start axis [] a = tt
ctls_still m clocks b start axis (c ∷ ctls) a =
    each_both (command_to m clocks b start axis c) (commands_to m clocks b start axis ctls)
    (elim (eqb_tells c.board b) [
      | inl p ↦ rw p.0 (order_still m clocks b start axis c.what (a.0 p.1), tt)
      | inr p ↦ rw p.0 tt
    ])
    (ctls_still m clocks b start axis ctls a.1)

-- a turn of a homing section's set-up, of which a board is a member
pub record IsSettingUp (b k : ℕ) (o : Option Homing) : Type 0 where
  pub homing : Homing
  pub known : o ≡ Some homing
  pub soon : homing.group.start ≤ k + 251
  pub late : k + 250 ≤ homing.group.start
  pub member : IsMember b (members_of homing.group)

answer_still : (b k : ℕ) (h : Homing) (o : Option End) → CtlsStill b (orders h.group k) → CtlsStill b (by_answer k h o).ctls.items
answer_still b k h None a = a
answer_still b k h (Some (end.Endstop tick)) a = tt
answer_still b k h (Some end.NoSwitch) a = tt
answer_still b k h (Some (end.Expired board turn)) a = tt

group_either : (b k : ℕ) (h : Homing) → (IsMember b (members_of h.group) → PhaseStill (phase h.group.start h.group.last k)) ⊎ ((h.group.start ≤ k + 251) × (k + 250 ≤ h.group.start) × IsMember b (members_of h.group))
group_either b k h = search (rules, member_or_not, members_of, eqb_tells, phase_still)

homing_either : (m : Machine) (all : List Clocks) (k : ℕ) (states : List State) (o : Option Homing) (own : Clocks) (b : ℕ) → EachStill (homing_commands m (homing_turn all k states o) own b) ⊎ IsSettingUp b k o
homing_either m all k states None own b = inl tt
homing_either m all k states (Some h) own b =
    let g = hears_all all states h in
    let turn = by_answer k g (answer_in k g.start g.group) in
    let same : g.group.start ≡ h.group.start = states_start all 0 h.start states h.group in
    let members : members_of g.group ≡ members_of h.group = states-kept all 0 h.start states h.group in
    elim (group_either b k g) [
      | inl f ↦ inl (ctls_still m own b turn.start (axis_at m turn.axis) turn.ctls.items (answer_still b k g (answer_in k g.start g.group) (in_still b (phase g.group.start g.group.last k) g.group k f)))
      | inr x ↦ inr (record { homing = h; known = refl; soon = omega (arith, x.0, same); late = omega (arith, x.1, same); member = subst (λ (l : List Member). IsMember b l) members x.2 })
    ]

turn_either : (m : Machine) (b : ℕ) (c : Came) (r : Known) (k : ℕ) (a : Asking) (x : Reacted) (t : BoardTurn) → BoardTurned m r b k c.states a x t.control → EachStill t.control.commands ⊎ IsSettingUp b k r.homing
turn_either m b c r k a x t (Asks p g) =
    let ready_a = ready (configuration m b) a in
    inl (subst (λ (y : Control). EachStill y.commands) (sym g.control_is) (asks_still k (configuration m b) ready_a ready_a.stage))
turn_either m b c r k a x t (Ends p g) = inl (subst (λ (y : Control). EachStill y.commands) (sym g.control_is) tt)
turn_either m b c r k a x t (Runs p g) =
    let waits = waits_in (drifts (board_at m b).drift) k a in
    let commands = homing_commands m (homing_turn r.clocks k c.states r.homing) g.own b in
    elim (homing_either m r.clocks k c.states r.homing g.own b) [
      | inl s ↦ inl (subst (λ (y : Control). EachStill y.commands) (sym g.control_is) (each_both commands (clock_question commands waits ++ stop_command (stops g.stop)) s (question_still commands waits (stops g.stop))))
      | inr s ↦ inr s
    ]

-- the control of a turn in a run
pub control_either : (m : Machine) (switches : List Switch) (pins : List (List Level)) (entries : List Entry) (b : ℕ) (c : Came) (before : List Came) (t : BoardTurn) (turns : List BoardTurn)
    → IsInRun m switches pins entries b (c ∷ before) (t ∷ turns) → EachStill t.control.commands ⊎ IsSettingUp b (length before) (noted m c.note (known_by m switches before)).homing
control_either m switches pins entries b c before t turns r =
    let x = turn_of m switches pins entries b c before t turns r in
    turn_either m b c (noted m c.note (known_by m switches before)) (length before) x.a (last_reacted m switches c before) t x.turned
