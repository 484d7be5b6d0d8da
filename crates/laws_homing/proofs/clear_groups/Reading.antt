-- Which controls let a trigger read its switch: those of the set-up of a homing section of which the board is a member.
use Rattle.std.proofs.Common.{◌≡◌, ◌∙◌, ℕ, ◌+◌, ◌-◌, ◌*◌, ◌==◌, ◌⊎◌, inl, inr, Bool, true, false, cond, List, [], ◌∷◌, ◌++◌, length, map, take, drop, Option, Some, None, refl, sym, subst, arith}
use Rattle.std.specs.Prelude.{nat_lt}
use Rattle.laws_board.proofs.Names.{eqb-true, eqb_tells, Level, AxisDef, Machine, Clocks, axis_at, board_at, Cmd, State, Control, Entry, Switch, Ctl, End, Member, Order, Goes, Rests, Sends, Homes, Starts, Fired, Seen, GroupState, all_fired, first_timeout, phase, relay_in, relays_in, round_of, steppers, Homing, answer_in, by_answer, command_to, commands_to, hears_all, homing_turn, order_command, members_of, Asking, Stage, Config, Configure, Connected, Identify, Uptime, Setup, is_question_due, ready, asks_now, clock_question, drifts, waits_in, configuration, Known, noted, Reacted, homing_commands, stop_command, stops, Came, known_by, last_reacted, states-kept}
use Rattle.msg_code.specs.declared.cmd.Cmd.TheVariants as cmd
use Rattle.trigger_group.specs.declared.order.End.TheVariants as end
use Rattle.trigger_group.specs.declared.order.Order.TheVariants as order
use Rattle.trigger_group.specs.declared.round.Phase.{Phase}
use Rattle.trigger_group.specs.declared.round.Round.{Round}
use Rattle.trigger_group.specs.declared.round.Round.TheVariants.{Relays, Resets, Timeouts}
use Rattle.trigger_group.specs.Group.{goes, limit, orders, orders_of_group, orders_to, reset, stop, to_board, unless_fired}
use Rattle.board_asking.specs.declared.setup.Setup.TheVariants.{Endstop, Finish, Oids, Stepper, Trsync}
use Rattle.board_asking.specs.Asking.{asks, question}
use Rattle.board_asking.specs.Machine.{control_bytes, fitting, setup_command}
use Rattle.laws_board.specs.turns.Turns.{BoardTurn}
use Rattle.laws_board.specs.clocks.Runs.{IsInRun}
use Rattle.laws_board.proofs.clocks.Controls.{states_start}
use Rattle.laws_board.proofs.clocks.Lines.{turn_of}
use Rattle.laws_board.proofs.clocks.Turning.{Asks, BoardTurned, Ends, Runs}
use Rattle.laws_homing.specs.home_runs.Told.{IsMember}
use Rattle.laws_homing.specs.clear_groups.Quiet.{EachBlind, IsReadIn}
use Rattle.laws_homing.specs.switch_runs.Taken.{IsBlind}

each_both : (xs ys : List Cmd) → EachBlind xs → EachBlind ys → EachBlind (xs ++ ys)
each_both [] ys a b = b
each_both (x ∷ xs) ys a b = (a.0, each_both xs ys a.1 b)

each_if : (c : Bool) (xs : List Cmd) → EachBlind xs → EachBlind (cond c xs [])
each_if true xs a = a
each_if false xs a = tt

-- connecting
setup_blind : (s : Setup) → IsBlind (setup_command s)
setup_blind (Oids count) = tt
setup_blind c = tt

setups_blind : (ss : List Setup) → EachBlind (map setup_command ss)
setups_blind [] = tt
setups_blind (s ∷ ss) = (setup_blind s, setups_blind ss)

asks_blind : (turn : ℕ) (setups : List Setup) (a : Asking) (stage : Stage) → EachBlind (asks setups turn a stage)
asks_blind turn setups a (Configure n) = setups_blind (fitting control_bytes (drop n setups))
asks_blind turn setups a Connected = each_if (is_question_due turn a.since) (question Connected) tt
asks_blind turn setups a c = each_if (is_question_due turn a.since) (question c) (tt, tt)

stop_blind : (s : Bool) → EachBlind (stop_command s)
stop_blind true = (tt, tt)
stop_blind false = tt

question_blind : (commands : List Cmd) (a : Asking) (s : Bool) → EachBlind (clock_question commands a ++ stop_command s)
question_blind commands a s = each_both (clock_question commands a) (stop_command s) (each_if (asks_now commands a) (cmd.GetUptime ∷ []) (tt, tt)) (stop_blind s)

-- orders that let no trigger read its switch
abbrev OrderBlind : Order → Type 0
OrderBlind order.Home = ⊥
OrderBlind what = Unit {0}

-- or go to other boards
abbrev CtlsBlind : ℕ → List Ctl → Type 0
CtlsBlind b [] = Unit {0}
CtlsBlind b (c ∷ cs) = (c.board ≡ b → OrderBlind c.what) × CtlsBlind b cs

ctls_both : (b : ℕ) (xs ys : List Ctl) → CtlsBlind b xs → CtlsBlind b ys → CtlsBlind b (xs ++ ys)
ctls_both b [] ys a k = k
ctls_both b (x ∷ xs) ys a k = (a.0, ctls_both b xs ys a.1 k)

ctls_if : (b : ℕ) (c : Bool) (xs : List Ctl) → CtlsBlind b xs → CtlsBlind b (cond c xs [])
ctls_if b true xs a = a
ctls_if b false xs a = tt

ctls_unless : (b : ℕ) (c : Bool) (xs : List Ctl) → CtlsBlind b xs → CtlsBlind b (cond c [] xs)
ctls_unless b true xs a = tt
ctls_unless b false xs a = a

resets_blind : (b : ℕ) (x : Seen) (ks : List ℕ) → CtlsBlind b (map (reset x) ks)
resets_blind b x [] = tt
resets_blind b x (k ∷ ks) = (λ e. tt, resets_blind b x ks)

stops_blind : (b : ℕ) (x : Seen) (ks : List ℕ) → CtlsBlind b (map (stop x) ks)
stops_blind b x [] = tt
stops_blind b x (k ∷ ks) = (λ e. tt, stops_blind b x ks)

fired_blind : (b : ℕ) (o : Option Fired) (xs : List Ctl) → CtlsBlind b xs → CtlsBlind b (unless_fired o xs)
fired_blind b None xs a = a
fired_blind b (Some f) xs a = tt

-- a round that lets no trigger read its switch
abbrev RoundBlind : Round → Type 0
RoundBlind Homes = ⊥
RoundBlind round = Unit {0}

to_blind : (b : ℕ) (round : Round) (x : Seen) → (x.member.board ≡ b → RoundBlind round) → CtlsBlind b (orders_to round x)
to_blind b (Resets row) x f = resets_blind b x (take 6 (drop (row * 6) (steppers x)))
to_blind b (Starts timeout) x f = (λ e. tt, (λ e. tt, stops_blind b x (take 8 (steppers x))))
to_blind b Homes x f =
    ctls_both b (map (stop x) (drop 8 (steppers x))) (cond x.member.endstop (to_board x order.Home ∷ []) []) (stops_blind b x (drop 8 (steppers x)))
    (ctls_if b x.member.endstop (to_board x order.Home ∷ []) (λ e. f e, tt))
to_blind b (Timeouts turn) x f = (λ e. tt, tt)
to_blind b Relays x f = fired_blind b x.fired (to_board x order.Trigger ∷ []) (λ e. tt, tt)

abbrev MembersOf : List Seen → List Member
MembersOf xs = map (λ (s : Seen). s.member) xs

round_blind : (b : ℕ) (round : Round) (xs : List Seen) → (IsMember b (MembersOf xs) → RoundBlind round) → CtlsBlind b (round_of round xs)
round_blind b round [] f = tt
round_blind b round (x ∷ xs) f = ctls_both b (orders_to round x) (round_of round xs) (to_blind b round x (λ e. f (inl e))) (round_blind b round xs (λ i. f (inr i)))

abbrev PhaseBlind : Phase → Type 0
PhaseBlind (Sends round) = RoundBlind round
PhaseBlind p = Unit {0}

goes_blind : (b : ℕ) (g : GroupState) (turn : ℕ) → CtlsBlind b (goes g turn)
goes_blind b g turn =
    ctls_both b (cond (nat_lt g.sent (limit g)) (round_of (Timeouts (limit g)) g.members) []) (cond (relays_in (relay_in g turn) turn) (round_of Relays g.members) [])
    (ctls_if b (nat_lt g.sent (limit g)) (round_of (Timeouts (limit g)) g.members) (round_blind b (Timeouts (limit g)) g.members (λ i. tt)))
    (ctls_if b (relays_in (relay_in g turn) turn) (round_of Relays g.members) (round_blind b Relays g.members (λ i. tt)))

in_blind : (b : ℕ) (p : Phase) (g : GroupState) (turn : ℕ) → (IsMember b (members_of g) → PhaseBlind p) → CtlsBlind b (orders_of_group p g turn)
in_blind b (Sends round) g turn f = round_blind b round g.members f
in_blind b Goes g turn f = ctls_unless b (all_fired g.members) (goes g turn) (goes_blind b g turn)
in_blind b Rests g turn f = tt

if_blind : (c : Bool) (x y : Phase) → (c ≡ true → PhaseBlind x) → PhaseBlind y → PhaseBlind (cond c x y)
if_blind true x y f g = f refl
if_blind false x y f g = g

phase_blind : (start last k : ℕ) → (start ≡ k + 250 → ⊥) → PhaseBlind (phase start last k)
phase_blind start last k second =
    let left = start - k in
    if_blind (left == 254) (Sends (Resets 0)) _ (λ e. tt)
    (if_blind (left == 253) (Sends (Resets 1)) _ (λ e. tt)
    (if_blind (left == 252) (Sends (Resets 2)) _ (λ e. tt)
    (if_blind (left == 251) (Sends (Starts (first_timeout start last))) _ (λ e. tt)
    (if_blind (left == 250) (Sends Homes) _ (λ e. let f = eqb-true left 250 e in second (omega (arith, f))) (if_blind (left == 0) Goes Rests (λ e. tt) tt)))))

-- their commands
order_blind : (m : Machine) (clocks : Clocks) (b start : ℕ) (axis : AxisDef) (what : Order) → OrderBlind what → IsBlind (order_command m clocks b start axis what)
order_blind m clocks b start axis order.Home a = absurd a
order_blind m clocks b start axis c a = tt

ctls_blind : (m : Machine) (clocks : Clocks) (b start : ℕ) (axis : AxisDef) (ctls : List Ctl) → CtlsBlind b ctls → EachBlind (commands_to m clocks b start axis ctls)
ctls_blind m clocks b start axis [] a = tt
ctls_blind m clocks b start axis (c ∷ ctls) a =
    each_both (command_to m clocks b start axis c) (commands_to m clocks b start axis ctls)
    (elim (eqb_tells c.board b) [
      | inl p ↦ rw p.0 (order_blind m clocks b start axis c.what (a.0 p.1), tt)
      | inr p ↦ rw p.0 tt
    ])
    (ctls_blind m clocks b start axis ctls a.1)

pub member_or_not : (b : ℕ) (ms : List Member) → IsMember b ms ⊎ (IsMember b ms → ⊥)
member_or_not b [] = inr (λ x. x)
member_or_not b (x ∷ ms) =
    elim (eqb_tells x.board b) [
      | inl p ↦ inl (inl p.1)
      | inr p ↦ elim (member_or_not b ms) [ inl i ↦ inl (inr i) | inr n ↦ inr (λ i. elim i [ inl e ↦ p.1 e | inr i ↦ n i ]) ]
    ]

answer_blind : (b k : ℕ) (h : Homing) (o : Option End) → CtlsBlind b (orders h.group k) → CtlsBlind b (by_answer k h o).ctls.items
answer_blind b k h None a = a
answer_blind b k h (Some (end.Endstop tick)) a = tt
answer_blind b k h (Some end.NoSwitch) a = tt
answer_blind b k h (Some (end.Expired board turn)) a = tt

group_either : (b k : ℕ) (h : Homing) → (IsMember b (members_of h.group) → PhaseBlind (phase h.group.start h.group.last k)) ⊎ ((h.group.start ≡ k + 250) × IsMember b (members_of h.group))
group_either b k h =
    let start = h.group.start in
    elim (member_or_not b (members_of h.group)) [
      | inr n ↦ inl (λ i. absurd (n i))
      | inl i ↦ elim (eqb_tells start (k + 250)) [ inl q ↦ inr (q.1, i) | inr q ↦ inl (λ _. phase_blind start h.group.last k (λ e. absurd (q.1 e))) ]
    ]

homing_either : (m : Machine) (all : List Clocks) (k : ℕ) (states : List State) (o : Option Homing) (own : Clocks) (b : ℕ) → EachBlind (homing_commands m (homing_turn all k states o) own b) ⊎ IsReadIn b k o
homing_either m all k states None own b = inl tt
homing_either m all k states (Some h) own b =
    let g = hears_all all states h in
    let turn = by_answer k g (answer_in k g.start g.group) in
    let same : g.group.start ≡ h.group.start = states_start all 0 h.start states h.group in
    let members : members_of g.group ≡ members_of h.group = states-kept all 0 h.start states h.group in
    elim (group_either b k g) [
      | inl f ↦ inl (ctls_blind m own b turn.start (axis_at m turn.axis) turn.ctls.items (answer_blind b k g (answer_in k g.start g.group) (in_blind b (phase g.group.start g.group.last k) g.group k f)))
      | inr x ↦ inr (record { homing = h; known = refl; at = sym same ∙ x.0; member = subst (λ (l : List Member). IsMember b l) members x.1 })
    ]

turn_either : (m : Machine) (b : ℕ) (c : Came) (r : Known) (k : ℕ) (a : Asking) (x : Reacted) (t : BoardTurn) → BoardTurned m r b k c.states a x t.control → EachBlind t.control.commands ⊎ IsReadIn b k r.homing
turn_either m b c r k a x t (Asks p g) =
    let ready_a = ready (configuration m b) a in
    inl (subst (λ (y : Control). EachBlind y.commands) (sym g.control_is) (asks_blind k (configuration m b) ready_a ready_a.stage))
turn_either m b c r k a x t (Ends p g) = inl (subst (λ (y : Control). EachBlind y.commands) (sym g.control_is) tt)
turn_either m b c r k a x t (Runs p g) =
    let waits = waits_in (drifts (board_at m b).drift) k a in
    let commands = homing_commands m (homing_turn r.clocks k c.states r.homing) g.own b in
    elim (homing_either m r.clocks k c.states r.homing g.own b) [
      | inl s ↦ inl (subst (λ (y : Control). EachBlind y.commands) (sym g.control_is) (each_both commands (clock_question commands waits ++ stop_command (stops g.stop)) s (question_blind commands waits (stops g.stop))))
      | inr s ↦ inr s
    ]

-- the control of a turn in a run
pub reads_either : (m : Machine) (switches : List Switch) (pins : List (List Level)) (entries : List Entry) (b : ℕ) (c : Came) (before : List Came) (t : BoardTurn) (turns : List BoardTurn)
    → IsInRun m switches pins entries b (c ∷ before) (t ∷ turns) → EachBlind t.control.commands ⊎ IsReadIn b (length before) (noted m c.note (known_by m switches before)).homing
reads_either m switches pins entries b c before t turns r =
    let x = turn_of m switches pins entries b c before t turns r in
    turn_either m b c (noted m c.note (known_by m switches before)) (length before) x.a (last_reacted m switches c before) t x.turned
