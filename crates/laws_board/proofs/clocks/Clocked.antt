-- A control sets clocks to the start of a homing section.
use Rattle.std.proofs.Common.{◌≡◌, ℕ, zero, suc, Bool, true, false, cond, List, [], ◌∷◌, ◌++◌, length, Option, Some, None, refl, sym, subst}
use Rattle.std.specs.List.{All}
use Rattle.std.specs.Prelude.{◌==◌, slice_index_or}
use Rattle.laws_board.proofs.Names.{All-cons, All-nil, Level, AxisDef, Machine, Clocks, axis_at, board_at, turn_tick, Cmd, State, Control, Entry, Switch, Ctl, Order, End, Homing, answer_in, by_answer, command_to, commands_to, hears_all, homing_turn, order_command, Asking, ready, asks_now, clock_question, drifts, waits_in, configuration, Known, noted, Reacted, homing_commands, stop_command, stops, Came, known_by, last_reacted}
use Rattle.plan_types.specs.Sections as section
use Rattle.msg_code.specs.declared.cmd.Cmd.TheVariants as cmd
use Rattle.trigger_group.specs.declared.order.Order.TheVariants as order
use Rattle.trigger_group.specs.declared.order.End.TheVariants as end
use Rattle.laws_board.specs.turns.Turns.{BoardTurn}
use Rattle.laws_board.specs.clocks.Clocked.{SetsTo}
use Rattle.laws_board.specs.clocks.Ordered.{MayOrder}
use Rattle.laws_board.specs.clocks.Runs.{IsInRun}
use Rattle.laws_board.proofs.clocks.Controls.{EachMay, may_ask, may_both, may_if, may_stop}
use Rattle.laws_board.proofs.clocks.Lines.{turn_of}
use Rattle.laws_board.proofs.clocks.Turning.{Asks, BoardTurned, Ends, Runs, clocks_at}

abbrev EachSet : ℕ → List Cmd → Type 0
EachSet t [] = Unit {0}
EachSet t (c ∷ cs) = SetsTo t c × EachSet t cs

all_set : (t : ℕ) (cs : List Cmd) → EachSet t cs → All (SetsTo t) cs
all_set t [] e = All-nil (SetsTo t)
all_set t (c ∷ cs) e = All-cons (SetsTo t) c cs e.0 (all_set t cs e.1)

set_both : (t : ℕ) (xs ys : List Cmd) → EachSet t xs → EachSet t ys → EachSet t (xs ++ ys)
set_both t [] ys a b = b
set_both t (x ∷ xs) ys a b = (a.0, set_both t xs ys a.1 b)

-- while no board homes no clock is set
one_none : (t k : ℕ) (c : Cmd) → MayOrder None k c → SetsTo t c
one_none t k (cmd.ResetStepClock oid clock) m = absurd m
one_none t k c m = tt

set_none : (t k : ℕ) (cs : List Cmd) → EachMay None k cs → EachSet t cs
set_none t k [] e = tt
set_none t k (c ∷ cs) e = (one_none t k c e.0, set_none t k cs e.1)

-- the commands of the group's orders
ctl_set : (m : Machine) (clocks : Clocks) (b start : ℕ) (axis : AxisDef) (what : Order) → SetsTo (turn_tick clocks start) (order_command m clocks b start axis what)
ctl_set m clocks b start axis (order.Reset i) = refl
ctl_set m clocks b start axis c = tt

set_if : (t : ℕ) (b : Bool) (xs : List Cmd) → EachSet t xs → EachSet t (cond b xs [])
set_if t true xs a = a
set_if t false xs a = tt

ctls_set : (m : Machine) (clocks : Clocks) (b start : ℕ) (axis : AxisDef) (ctls : List Ctl) → EachSet (turn_tick clocks start) (commands_to m clocks b start axis ctls)
ctls_set m clocks b start axis [] = tt
ctls_set m clocks b start axis (c ∷ ctls) =
    set_both (turn_tick clocks start) (command_to m clocks b start axis c) (commands_to m clocks b start axis ctls)
    (set_if (turn_tick clocks start) (c.board == b) (order_command m clocks b start axis c.what ∷ []) (ctl_set m clocks b start axis c.what, tt)) (ctls_set m clocks b start axis ctls)

start_is : (k : ℕ) (h : Homing) (o : Option End) → (by_answer k h o).start ≡ h.start
start_is k h None = refl
start_is k h (Some (end.Endstop tick)) = refl
start_is k h (Some end.NoSwitch) = refl
start_is k h (Some (end.Expired b turn)) = refl

home_set : (m : Machine) (all : List Clocks) (k : ℕ) (states : List State) (h : Homing) (own : Clocks) (b : ℕ) → EachSet (turn_tick own h.start) (homing_commands m (homing_turn all k states (Some h)) own b)
home_set m all k states h own b =
    let g = hears_all all states h in
    let turn = by_answer k g (answer_in k g.start g.group) in
    let At : ℕ → Type 0 = λ i. EachSet (turn_tick own i) (homing_commands m turn own b) in
    subst At (start_is k g (answer_in k g.start g.group)) (ctls_set m own b turn.start (axis_at m turn.axis) turn.ctls.items)

-- a board's clocks
pub own_clocks : (b : ℕ) (clocks : List Clocks) (own other : Clocks) → clocks_at b clocks ≡ own ∷ [] → own ≡ slice_index_or clocks b other
own_clocks b [] own other e = cc
own_clocks zero (c ∷ clocks) own other e = cc
own_clocks (suc b) (c ∷ clocks) own other e = own_clocks b clocks own other e

turn_set : (m : Machine) (b : ℕ) (c : Came) (r : Known) (k : ℕ) (a : Asking) (x : Reacted) (t : BoardTurn) (h : Homing) → r.homing ≡ Some h → BoardTurned m r b k c.states a x t.control
    → EachSet (turn_tick (section.clocks_at r.clocks b) h.start) t.control.commands
turn_set m b c r k a x t h is (Asks p g) =
    let ready_a = ready (configuration m b) a in
    let at = turn_tick (section.clocks_at r.clocks b) h.start in
    subst (λ (y : Control). EachSet at y.commands) (sym g.control_is) (set_none at k _ (may_ask None k k (configuration m b) ready_a ready_a.stage))
turn_set m b c r k a x t h is (Ends p g) = subst (λ (y : Control). EachSet (turn_tick (section.clocks_at r.clocks b) h.start) y.commands) (sym g.control_is) tt
turn_set m b c r k a x t h is (Runs p g) =
    let at = turn_tick (section.clocks_at r.clocks b) h.start in
    let waits = waits_in (drifts (board_at m b).drift) k a in
    let commands = homing_commands m (homing_turn r.clocks k c.states r.homing) g.own b in
    let Own : Clocks → Type 0 = λ y. EachSet (turn_tick y h.start) commands in
    let Homes : Option Homing → Type 0 = λ o. EachSet (turn_tick g.own h.start) (homing_commands m (homing_turn r.clocks k c.states o) g.own b) in
    let home = subst Homes (sym is) (home_set m r.clocks k c.states h g.own b) in
    let rest = may_both None k (clock_question commands waits) (stop_command (stops g.stop)) (may_if None k (asks_now commands waits) (cmd.GetUptime ∷ []) (tt, tt)) (may_stop None k (stops g.stop)) in
    subst (λ (y : Control). EachSet at y.commands) (sym g.control_is)
    (set_both at commands (clock_question commands waits ++ stop_command (stops g.stop)) (subst Own (own_clocks b r.clocks g.own _ g.own_is) home) (set_none at k _ rest))

pub clocks_set : (m : Machine) (switches : List Switch) (pins : List (List Level)) (entries : List Entry) (b : ℕ) (c : Came) (before : List Came) (t : BoardTurn) (turns : List BoardTurn) (h : Homing)
    → IsInRun m switches pins entries b (c ∷ before) (t ∷ turns) → (noted m c.note (known_by m switches before)).homing ≡ Some h
    → All (SetsTo (turn_tick (section.clocks_at (noted m c.note (known_by m switches before)).clocks b) h.start)) t.control.commands
clocks_set m switches pins entries b c before t turns h r is =
    let s = turn_of m switches pins entries b c before t turns r in
    let n = noted m c.note (known_by m switches before) in
    all_set (turn_tick (section.clocks_at n.clocks b) h.start) t.control.commands (turn_set m b c n (length before) s.a (last_reacted m switches c before) t h is s.turned)
