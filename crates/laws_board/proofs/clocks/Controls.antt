-- The commands of a control, and what else it tells its link.
use Rattle.std.proofs.Common.{◌≡◌, ℕ, ◌+◌, ◌-◌, ◌*◌, ◌≤◌, Bool, true, false, cond, List, [], ◌∷◌, ◌++◌, map, take, drop, Option, Some, None, refl, arith, rules}
use Rattle.std.specs.Prelude.{◌==◌, nat_lt}
use Rattle.std.specs.List.{All}
use Rattle.laws_board.proofs.Names.{eqb-true, All-cons, All-nil, AxisDef, Machine, Clocks, axis_at, Cmd, State, Ctl, End, Order, Goes as GroupGoes, Rests, Sends, Homes, Starts, Fired, Seen, GroupState, all_fired, first_timeout, phase, relay_in, relays_in, round_of, steppers, Asking, Stage, Identify, Uptime, Configure, Config, Connected, Setup, is_question_due, asks_now, clock_question, Homing, answer_in, by_answer, command_to, commands_to, hears_all, homing_turn, order_command, homing_commands, stop_command}
use Rattle.msg_code.specs.declared.cmd.Cmd.TheVariants as cmd
use Rattle.trigger_group.specs.declared.order.End.TheVariants as end
use Rattle.trigger_group.specs.declared.order.Order.TheVariants as order
use Rattle.trigger_group.specs.declared.round.Phase.{Phase}
use Rattle.trigger_group.specs.declared.round.Round.{Round}
use Rattle.trigger_group.specs.declared.round.Round.TheVariants.{Relays, Resets, Timeouts}
use Rattle.trigger_group.specs.Group.{goes, limit, orders, orders_of_group, orders_to, reset, stop, to_board, unless_fired}
use Rattle.board_asking.specs.declared.setup.Setup.TheVariants.{Oids, Stepper, Trsync, Endstop, Finish}
use Rattle.board_asking.specs.Asking.{asks, question}
use Rattle.board_asking.specs.Machine.{control_bytes, fitting, setup_command}
use Rattle.axis_homing.specs.Homing.{hears_states}
use Rattle.axis_homing.proofs.Starts as starts
use Rattle.laws_board.specs.clocks.Ordered.{IsHoming, MayOrder, SetsClocks}

abbrev pub EachMay : Option Homing → ℕ → List Cmd → Type 0
EachMay h k [] = Unit {0}
EachMay h k (c ∷ cs) = MayOrder h k c × EachMay h k cs

pub all_may : (h : Option Homing) (k : ℕ) (cs : List Cmd) → EachMay h k cs → All (MayOrder h k) cs
all_may h k [] e = All-nil (MayOrder h k)
all_may h k (c ∷ cs) e = All-cons (MayOrder h k) c cs e.0 (all_may h k cs e.1)

pub may_both : (h : Option Homing) (k : ℕ) (xs ys : List Cmd) → EachMay h k xs → EachMay h k ys → EachMay h k (xs ++ ys)
may_both h k [] ys a b = b
may_both h k (x ∷ xs) ys a b = (a.0, may_both h k xs ys a.1 b)

pub may_if : (h : Option Homing) (k : ℕ) (b : Bool) (xs : List Cmd) → EachMay h k xs → EachMay h k (cond b xs [])
may_if h k true xs a = a
may_if h k false xs a = tt

-- connecting
may_setup : (h : Option Homing) (k : ℕ) (s : Setup) → MayOrder h k (setup_command s)
may_setup h k (Oids count) = tt
may_setup h k c = tt

may_setups : (h : Option Homing) (k : ℕ) (ss : List Setup) → EachMay h k (map setup_command ss)
may_setups h k [] = tt
may_setups h k (s ∷ ss) = (may_setup h k s, may_setups h k ss)

pub may_ask : (h : Option Homing) (k turn : ℕ) (setups : List Setup) (a : Asking) (stage : Stage) → EachMay h k (asks setups turn a stage)
may_ask h k turn setups a (Configure n) = may_setups h k (fitting control_bytes (drop n setups))
may_ask h k turn setups a Connected = may_if h k (is_question_due turn a.since) (question Connected) tt
may_ask h k turn setups a c = may_if h k (is_question_due turn a.since) (question c) (tt, tt)

-- homing
abbrev Clocked : ℕ → ℕ → Type 0
Clocked start k = (k + 252 ≤ start) × (start ≤ k + 254)

abbrev CtlMay : ℕ → ℕ → Order → Type 0
CtlMay start k (order.Reset i) = Clocked start k
CtlMay start k what = Unit {0}

abbrev CtlsMay : ℕ → ℕ → List Ctl → Type 0
CtlsMay start k [] = Unit {0}
CtlsMay start k (c ∷ cs) = CtlMay start k c.what × CtlsMay start k cs

ctls_both : (start k : ℕ) (xs ys : List Ctl) → CtlsMay start k xs → CtlsMay start k ys → CtlsMay start k (xs ++ ys)
ctls_both start k [] ys a b = b
ctls_both start k (x ∷ xs) ys a b = (a.0, ctls_both start k xs ys a.1 b)

ctls_if : (start k : ℕ) (b : Bool) (xs : List Ctl) → CtlsMay start k xs → CtlsMay start k (cond b xs [])
ctls_if start k true xs a = a
ctls_if start k false xs a = tt

resets_may : (start k : ℕ) (m : Seen) (is : List ℕ) → Clocked start k → CtlsMay start k (map (reset m) is)
resets_may start k m [] a = tt
resets_may start k m (i ∷ is) a = (a, resets_may start k m is a)

stops_may : (start k : ℕ) (m : Seen) (is : List ℕ) → CtlsMay start k (map (stop m) is)
stops_may start k m [] = tt
stops_may start k m (i ∷ is) = (tt, stops_may start k m is)

abbrev RoundMay : ℕ → ℕ → Round → Type 0
RoundMay start k (Resets row) = Clocked start k
RoundMay start k round = Unit {0}

fired_may : (start k : ℕ) (o : Option Fired) (out : List Ctl) → CtlsMay start k out → CtlsMay start k (unless_fired o out)
fired_may start k None out a = a
fired_may start k (Some f) out a = tt

to_may : (start k : ℕ) (round : Round) (m : Seen) → RoundMay start k round → CtlsMay start k (orders_to round m)
to_may start k (Resets row) m a = resets_may start k m (take 6 (drop (row * 6) (steppers m))) a
to_may start k (Starts timeout) m a = (tt, (tt, stops_may start k m (take 8 (steppers m))))
to_may start k Homes m a =
    ctls_both start k (map (stop m) (drop 8 (steppers m))) (cond m.member.endstop (to_board m order.Home ∷ []) []) (stops_may start k m (drop 8 (steppers m)))
    (ctls_if start k m.member.endstop (to_board m order.Home ∷ []) (tt, tt))
to_may start k (Timeouts turn) m a = (tt, tt)
to_may start k Relays m a = fired_may start k m.fired (to_board m order.Trigger ∷ []) (tt, tt)

round_may : (start k : ℕ) (round : Round) (ms : List Seen) → RoundMay start k round → CtlsMay start k (round_of round ms)
round_may start k round [] a = tt
round_may start k round (m ∷ ms) a = ctls_both start k (orders_to round m) (round_of round ms) (to_may start k round m a) (round_may start k round ms a)

abbrev PhaseMay : ℕ → ℕ → Phase → Type 0
PhaseMay start k (Sends round) = RoundMay start k round
PhaseMay start k p = Unit {0}

if_phase : (start k : ℕ) (b : Bool) (x y : Phase) → (b ≡ true → PhaseMay start k x) → PhaseMay start k y → PhaseMay start k (cond b x y)
if_phase start k true x y f g = f refl
if_phase start k false x y f g = g

phase_may : (start last k : ℕ) → PhaseMay start k (phase start last k)
phase_may start last k = search (rules, if_phase, eqb-true, first_timeout)

goes_may : (start k : ℕ) (g : GroupState) (turn : ℕ) → CtlsMay start k (goes g turn)
goes_may start k g turn =
    ctls_both start k (cond (nat_lt g.sent (limit g)) (round_of (Timeouts (limit g)) g.members) []) (cond (relays_in (relay_in g turn) turn) (round_of Relays g.members) [])
    (ctls_if start k (nat_lt g.sent (limit g)) (round_of (Timeouts (limit g)) g.members) (round_may start k (Timeouts (limit g)) g.members tt))
    (ctls_if start k (relays_in (relay_in g turn) turn) (round_of Relays g.members) (round_may start k Relays g.members tt))

not_may : (start k : ℕ) (b : Bool) (xs : List Ctl) → CtlsMay start k xs → CtlsMay start k (cond b [] xs)
not_may start k true xs a = tt
not_may start k false xs a = a

in_may : (start k : ℕ) (p : Phase) (g : GroupState) (turn : ℕ) → PhaseMay start k p → CtlsMay start k (orders_of_group p g turn)
in_may start k (Sends round) g turn a = round_may start k round g.members a
in_may start k GroupGoes g turn a = not_may start k (all_fired g.members) (goes g turn) (goes_may start k g turn)
in_may start k Rests g turn a = tt

orders_may : (g : GroupState) (k : ℕ) → CtlsMay g.start k (orders g k)
orders_may g k = in_may g.start k (phase g.start g.last k) g k (phase_may g.start g.last k)

-- the group's start stays
pub states_start : (clocks : List Clocks) (b start : ℕ) (states : List State) (g : GroupState) → (hears_states clocks b start states g).start ≡ g.start
states_start = starts.states_start

-- the commands of the group's orders
ctl_may : (h : Option Homing) (m : Machine) (clocks : Clocks) (b start k : ℕ) (axis : AxisDef) (what : Order) (at : ℕ) → IsHoming h → (Clocked at k → SetsClocks h k) → CtlMay at k what → MayOrder h k (order_command m clocks b start axis what)
ctl_may h m clocks b start k axis (order.Reset i) at o f a = f a
ctl_may h m clocks b start k axis (order.Stop i) at o f a = o
ctl_may h m clocks b start k axis c at o f a = tt

ctls_may : (h : Option Homing) (m : Machine) (clocks : Clocks) (b start k : ℕ) (axis : AxisDef) (ctls : List Ctl) (at : ℕ) → IsHoming h → (Clocked at k → SetsClocks h k) → CtlsMay at k ctls → EachMay h k (commands_to m clocks b start axis ctls)
ctls_may h m clocks b start k axis [] at o f a = tt
ctls_may h m clocks b start k axis (c ∷ ctls) at o f a =
    may_both h k (command_to m clocks b start axis c) (commands_to m clocks b start axis ctls)
    (may_if h k (c.board == b) (order_command m clocks b start axis c.what ∷ []) (ctl_may h m clocks b start k axis c.what at o f a.0, tt))
    (ctls_may h m clocks b start k axis ctls at o f a.1)

answer_may : (at k : ℕ) (h : Homing) (o : Option End) → CtlsMay at k (orders h.group k) → CtlsMay at k (by_answer k h o).ctls.items
answer_may at k h None a = a
answer_may at k h (Some (end.Endstop tick)) a = tt
answer_may at k h (Some end.NoSwitch) a = tt
answer_may at k h (Some (end.Expired b turn)) a = tt

pub may_home : (m : Machine) (all : List Clocks) (k : ℕ) (states : List State) (h : Option Homing) (own : Clocks) (b : ℕ) → EachMay h k (homing_commands m (homing_turn all k states h) own b)
may_home m all k states None own b = tt
may_home m all k states (Some h) own b =
    let g = hears_all all states h in
    let turn = by_answer k g (answer_in k g.start g.group) in
    let same : g.group.start ≡ h.group.start = states_start all 0 h.start states h.group in
    ctls_may (Some h) m own b turn.start k (axis_at m turn.axis) turn.ctls.items g.group.start tt (λ a. let x = a.0 in let y = a.1 in (omega arith, omega arith))
    (answer_may g.group.start k g (answer_in k g.start g.group) (orders_may g.group k))

pub may_stop : (h : Option Homing) (k : ℕ) (stop : Bool) → EachMay h k (stop_command stop)
may_stop h k true = (tt, tt)
may_stop h k false = tt

pub may_run : (h : Option Homing) (k : ℕ) (commands : List Cmd) (a : Asking) (stop : Bool) → EachMay h k commands → EachMay h k (commands ++ (clock_question commands a ++ stop_command stop))
may_run h k commands a stop e =
    may_both h k commands _ e (may_both h k (clock_question commands a) (stop_command stop) (may_if h k (asks_now commands a) (cmd.GetUptime ∷ []) (tt, tt)) (may_stop h k stop))
