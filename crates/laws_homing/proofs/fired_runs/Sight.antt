-- Which controls begin readings: the one that is sent to the endstop's board of a homing section 250 turns before its start.
use Rattle.std.proofs.Common.{◌≡◌, ℕ, ◌+◌, ◌-◌, ◌*◌, ◌==◌, ◌⊎◌, inl, inr, Bool, true, false, cond, List, [], ◌∷◌, ◌++◌, length, map, take, drop, Option, Some, None, refl, sym, ◌∙◌, subst, arith}
use Rattle.std.specs.Prelude.{nat_lt}
use Rattle.laws_board.proofs.Names.{eqb-true, eqb_tells, Level, AxisDef, Machine, Clocks, axis_at, board_at, Cmd, State, Control, Unit as StepUnit, dir_commands, reset_commands, step_command, Entry, Switch, Meant, plain, unit_orders, units_orders, queued_in, orders, Ctl, End, Member, Order, Goes, Rests, Sends, Homes, Starts, Fired, Seen, GroupState, all_fired, first_timeout, phase, relay_in, relays_in, round_of, steppers, Homing, answer_in, by_answer, command_to, commands_to, hears_all, homing_turn, order_command, members_of, Asking, Stage, Config, Configure, Connected, Identify, Uptime, Setup, is_question_due, ready, asks_now, clock_question, drifts, waits_in, configuration, Known, noted, Reacted, homing_commands, stop_command, stops, Came, known_by, last_reacted, states-kept}
use Rattle.msg_code.specs.declared.cmd.Cmd.TheVariants as cmd
use Rattle.board_world.specs.Orders.{unit_ticks}
use Rattle.trigger_group.specs.declared.order.End.TheVariants as end
use Rattle.trigger_group.specs.declared.order.Order.TheVariants as order
use Rattle.trigger_group.specs.declared.round.Phase.{Phase}
use Rattle.trigger_group.specs.declared.round.Round.{Round}
use Rattle.trigger_group.specs.declared.round.Round.TheVariants.{Relays, Resets, Timeouts}
use Rattle.trigger_group.specs.Group.{goes, limit, orders as group_orders, orders_of_group, orders_to, reset, stop, to_board, unless_fired}
use Rattle.trigger_group.specs.Kept.{BoardsRise}
use Rattle.axis_homing.specs.Rising.{HomingRises}
use Rattle.board_asking.specs.declared.setup.Setup.TheVariants.{Endstop, Finish, Oids, Stepper, Trsync}
use Rattle.board_asking.specs.Asking.{asks, question}
use Rattle.board_asking.specs.Machine.{control_bytes, fitting, setup_command}
use Rattle.host_reactor.specs.declared.ordered.Phase.TheVariants.{Running}
use Rattle.laws_board.specs.turns.Turns.{BoardTurn}
use Rattle.laws_board.specs.clocks.Runs.{IsInRun}
use Rattle.laws_board.proofs.clocks.Answers.{Each, each_both}
use Rattle.laws_board.proofs.clocks.Controls.{states_start}
use Rattle.laws_board.proofs.clocks.Lines.{turn_of}
use Rattle.laws_board.proofs.clocks.Turning.{Asks, BoardTurned, Ends, Runs}
use Rattle.laws_homing.specs.home_runs.Told.{IsMember}
use Rattle.laws_homing.proofs.home_runs.Controlling.{phase_homes}
use Rattle.laws_homing.proofs.home_runs.Joining.{known_rises, noted_rises}
use Rattle.laws_homing.proofs.home_runs.Setting.{commands_both, rise_behind}
use Rattle.laws_homing.proofs.clear_groups.Starting.{MembersOf}
use Rattle.laws_homing.specs.missed_groups.Ticks.{IsReader}
use Rattle.laws_homing.specs.switch_runs.Taken.{AreBlind, IsBlind}
use Rattle.laws_homing.proofs.fired_runs.Blind.{ReadOnce}
use Rattle.laws_homing.proofs.fired_runs.Once.{rise_first}

-- the homing section that is known in a turn starts 250 turns behind it, and a board is its member with the endstop
pub record BeginsReads (b turn : ℕ) (o : Option Homing) : Type 0 where
  pub homing : Homing
  pub known : o ≡ Some homing
  pub at : homing.group.start ≡ turn + 250
  pub reads : IsReader b (members_of homing.group)

-- one of some commands at most begins readings
abbrev Once : List Cmd → Type 0
Once [] = Unit {0}
Once (c ∷ cs) = Each IsBlind cs ⊎ (IsBlind c × Once cs)

each_once : (cs : List Cmd) → Each IsBlind cs → Once cs
each_once [] k = tt
each_once (c ∷ cs) k = inl k.1

each_if : (t : Bool) (cs : List Cmd) → Each IsBlind cs → Each IsBlind (cond t cs [])
each_if true cs a = a
each_if false cs a = tt

once_front : (xs ys : List Cmd) → Once xs → Each IsBlind ys → Once (xs ++ ys)
once_front [] ys k blind = each_once ys blind
once_front (x ∷ xs) ys (inl k) blind = inl (each_both IsBlind xs ys k blind)
once_front (x ∷ xs) ys (inr k) blind = inr (k.0, once_front xs ys k.1 blind)

once_behind : (xs ys : List Cmd) → Each IsBlind xs → Once ys → Once (xs ++ ys)
once_behind [] ys blind k = k
once_behind (x ∷ xs) ys blind k = inr (blind.0, once_behind xs ys blind.1 k)

-- connecting
setup_blind : (s : Setup) → IsBlind (setup_command s)
setup_blind (Oids count) = tt
setup_blind c = tt

setups_blind : (ss : List Setup) → Each IsBlind (map setup_command ss)
setups_blind [] = tt
setups_blind (s ∷ ss) = (setup_blind s, setups_blind ss)

asks_blind : (turn : ℕ) (setups : List Setup) (a : Asking) (stage : Stage) → Each IsBlind (asks setups turn a stage)
asks_blind turn setups a (Configure n) = setups_blind (fitting control_bytes (drop n setups))
asks_blind turn setups a Connected = each_if (is_question_due turn a.since) (question Connected) tt
asks_blind turn setups a c = each_if (is_question_due turn a.since) (question c) (tt, tt)

stop_blind : (s : Bool) → Each IsBlind (stop_command s)
stop_blind true = (tt, tt)
stop_blind false = tt

pub question_blind : (commands : List Cmd) (a : Asking) (s : Bool) → Each IsBlind (clock_question commands a ++ stop_command s)
question_blind commands a s = each_both IsBlind (clock_question commands a) (stop_command s) (each_if (asks_now commands a) (cmd.GetUptime ∷ []) (tt, tt)) (stop_blind s)

-- orders that begin no readings, or go to other boards
abbrev OrderBlind : Order → Type 0
OrderBlind order.Home = ⊥
OrderBlind what = Unit {0}

abbrev CtlsBlind : ℕ → List Ctl → Type 0
CtlsBlind b [] = Unit {0}
CtlsBlind b (c ∷ cs) = (c.board ≡ b → OrderBlind c.what) × CtlsBlind b cs

ctls_both : (b : ℕ) (xs ys : List Ctl) → CtlsBlind b xs → CtlsBlind b ys → CtlsBlind b (xs ++ ys)
ctls_both b [] ys a k = k
ctls_both b (x ∷ xs) ys a k = (a.0, ctls_both b xs ys a.1 k)

ctls_if : (b : ℕ) (c : Bool) (xs : List Ctl) → (c ≡ true → CtlsBlind b xs) → CtlsBlind b (cond c xs [])
ctls_if b true xs a = a refl
ctls_if b false xs a = tt

ctls_unless : (b : ℕ) (c : Bool) (xs : List Ctl) → CtlsBlind b xs → CtlsBlind b (cond c [] xs)
ctls_unless b true xs a = tt
ctls_unless b false xs a = a

resets_blind : (b : ℕ) (x : Seen) (ks : List ℕ) → CtlsBlind b (map (reset x) ks)
resets_blind b x [] = tt
resets_blind b x (k ∷ ks) = (λ e. tt, resets_blind b x ks)

stops_blind : (b : ℕ) (x : Seen) (ks : List ℕ) → CtlsBlind b (map (stop x) ks)
stops_blind b x [] = tt
stops_blind b x (k ∷ ks) = (λ e. tt, stops_blind b x ks)

fired_blind : (b : ℕ) (o : Option Fired) (xs : List Ctl) → CtlsBlind b xs → CtlsBlind b (unless_fired o xs)
fired_blind b None xs a = a
fired_blind b (Some f) xs a = tt

-- a round that begins no readings
abbrev RoundBlind : Round → Type 0
RoundBlind Homes = ⊥
RoundBlind round = Unit {0}

to_blind : (b : ℕ) (round : Round) (x : Seen) → (x.member.board ≡ b → x.member.endstop ≡ true → RoundBlind round) → CtlsBlind b (orders_to round x)
to_blind b (Resets row) x f = resets_blind b x (take 6 (drop (row * 6) (steppers x)))
to_blind b (Starts timeout) x f = (λ e. tt, (λ e. tt, stops_blind b x (take 8 (steppers x))))
to_blind b Homes x f =
    ctls_both b (map (stop x) (drop 8 (steppers x))) (cond x.member.endstop (to_board x order.Home ∷ []) []) (stops_blind b x (drop 8 (steppers x)))
    (ctls_if b x.member.endstop (to_board x order.Home ∷ []) (λ is. (λ e. f e is, tt)))
to_blind b (Timeouts turn) x f = (λ e. tt, tt)
to_blind b Relays x f = fired_blind b x.fired (to_board x order.Trigger ∷ []) (λ e. tt, tt)

round_blind : (b : ℕ) (round : Round) (xs : List Seen) → (IsReader b (MembersOf xs) → RoundBlind round) → CtlsBlind b (round_of round xs)
round_blind b round [] f = tt
round_blind b round (x ∷ xs) f = ctls_both b (orders_to round x) (round_of round xs) (to_blind b round x (λ e is. f (inl (e, is)))) (round_blind b round xs (λ i. f (inr i)))

abbrev PhaseBlind : Phase → Type 0
PhaseBlind (Sends round) = RoundBlind round
PhaseBlind p = Unit {0}

goes_blind : (b : ℕ) (g : GroupState) (turn : ℕ) → CtlsBlind b (goes g turn)
goes_blind b g turn =
    ctls_both b (cond (nat_lt g.sent (limit g)) (round_of (Timeouts (limit g)) g.members) []) (cond (relays_in (relay_in g turn) turn) (round_of Relays g.members) [])
    (ctls_if b (nat_lt g.sent (limit g)) (round_of (Timeouts (limit g)) g.members) (λ e. round_blind b (Timeouts (limit g)) g.members (λ i. tt)))
    (ctls_if b (relays_in (relay_in g turn) turn) (round_of Relays g.members) (λ e. round_blind b Relays g.members (λ i. tt)))

in_blind : (b : ℕ) (p : Phase) (g : GroupState) (turn : ℕ) → (IsReader b (members_of g) → PhaseBlind p) → CtlsBlind b (orders_of_group p g turn)
in_blind b (Sends round) g turn f = round_blind b round g.members f
in_blind b Goes g turn f = ctls_unless b (all_fired g.members) (goes g turn) (goes_blind b g turn)
in_blind b Rests g turn f = tt

if_blind : (c : Bool) (x y : Phase) → (c ≡ true → PhaseBlind x) → PhaseBlind y → PhaseBlind (cond c x y)
if_blind true x y f g = f refl
if_blind false x y f g = g

phase_blind : (start last k : ℕ) → (start ≡ k + 250 → ⊥) → PhaseBlind (phase start last k)
phase_blind start last k second =
    let left = start - k in
    if_blind (left == 254) (Sends (Resets 0)) _ (λ e. tt)
    (if_blind (left == 253) (Sends (Resets 1)) _ (λ e. tt)
    (if_blind (left == 252) (Sends (Resets 2)) _ (λ e. tt)
    (if_blind (left == 251) (Sends (Starts (first_timeout start last))) _ (λ e. tt)
    (if_blind (left == 250) (Sends Homes) _ (λ e. let f = eqb-true left 250 e in second (omega (arith, f))) (if_blind (left == 0) Goes Rests (λ e. tt) tt)))))

-- their commands
order_blind : (m : Machine) (clocks : Clocks) (b start : ℕ) (axis : AxisDef) (what : Order) → OrderBlind what → IsBlind (order_command m clocks b start axis what)
order_blind m clocks b start axis order.Home a = absurd a
order_blind m clocks b start axis c a = tt

ctls_blind : (m : Machine) (clocks : Clocks) (b start : ℕ) (axis : AxisDef) (ctls : List Ctl) → CtlsBlind b ctls → Each IsBlind (commands_to m clocks b start axis ctls)
ctls_blind m clocks b start axis [] a = tt
ctls_blind m clocks b start axis (c ∷ ctls) a =
    each_both IsBlind (command_to m clocks b start axis c) (commands_to m clocks b start axis ctls)
    (elim (eqb_tells c.board b) [
      | inl p ↦ rw p.0 (order_blind m clocks b start axis c.what (a.0 p.1), tt)
      | inr p ↦ rw p.0 tt
    ])
    (ctls_blind m clocks b start axis ctls a.1)

-- the round in which one does
last_once : (m : Machine) (clocks : Clocks) (b start : ℕ) (axis : AxisDef) (x : Seen) (on e : Bool) → Once (commands_to m clocks b start axis (cond e (to_board x order.Home ∷ []) []))
last_once m clocks b start axis x on false = tt
last_once m clocks b start axis x on true = by (x.member.board == b)
  where
    by : (t : Bool) → Once (cond t (order_command m clocks b start axis order.Home ∷ []) [] ++ [])
    by true = inl tt
    by false = tt

to_once : (m : Machine) (clocks : Clocks) (b start : ℕ) (axis : AxisDef) (x : Seen) → Once (commands_to m clocks b start axis (orders_to Homes x))
to_once m clocks b start axis x =
    let stopping = map (stop x) (drop 8 (steppers x)) in
    let last = cond x.member.endstop (to_board x order.Home ∷ []) [] in
    subst Once (sym (commands_both m clocks b start axis stopping last))
    (once_behind (commands_to m clocks b start axis stopping) (commands_to m clocks b start axis last) (ctls_blind m clocks b start axis stopping (stops_blind b x (drop 8 (steppers x)))) (last_once m clocks b start axis x true x.member.endstop))

pub is_member : (b : ℕ) (ms : List Member) → IsReader b ms → IsMember b ms
is_member b [] k = k
is_member b (x ∷ ms) (inl k) = inl k.0
is_member b (x ∷ ms) (inr k) = inr (is_member b ms k)

round_once : (m : Machine) (clocks : Clocks) (b start : ℕ) (axis : AxisDef) (xs : List Seen) → BoardsRise (MembersOf xs) → Once (commands_to m clocks b start axis (round_of Homes xs))
round_once m clocks b start axis [] rise = tt
round_once m clocks b start axis (x ∷ xs) rise =
    let first = commands_to m clocks b start axis (orders_to Homes x) in
    let rest = commands_to m clocks b start axis (round_of Homes xs) in
    subst Once (sym (commands_both m clocks b start axis (orders_to Homes x) (round_of Homes xs))) (elim (eqb_tells x.member.board b) [
      | inl p ↦
          let same = p.1 in
          once_front first rest (to_once m clocks b start axis x)
          (ctls_blind m clocks b start axis (round_of Homes xs)
          (round_blind b Homes xs (λ is. let up = rise_first b x.member (MembersOf xs) rise (is_member b (MembersOf xs) is) in absurd (omega (arith, up, same)))))
      | inr p ↦
          once_behind first rest (ctls_blind m clocks b start axis (orders_to Homes x) (to_blind b Homes x (λ e is. p.1 e)))
          (round_once m clocks b start axis xs (rise_behind x.member (MembersOf xs) rise))
    ])

-- the orders of a turn
pub reader_or_not : (b : ℕ) (ms : List Member) → IsReader b ms ⊎ (IsReader b ms → ⊥)
reader_or_not b [] = inr (λ x. x)
reader_or_not b (x ∷ ms) = elim (reader_or_not b ms) [ inl i ↦ inl (inr i) | inr n ↦ elim (eqb_tells x.board b) [ inl p ↦ one x.endstop refl p.1 n | inr p ↦ inr (λ i. elim i [ inl k ↦ p.1 k.0 | inr i ↦ n i ]) ] ]
  where
    one : (e : Bool) → x.endstop ≡ e → x.board ≡ b → (IsReader b ms → ⊥) → IsReader b (x ∷ ms) ⊎ (IsReader b (x ∷ ms) → ⊥)
    one true is same n = inl (inl (same, is))
    one false is same n = inr (λ i. elim i [ inl k ↦ (let bad : false ≡ true = sym is ∙ k.1 in cc) | inr i ↦ n i ])

answer_blind : (b k : ℕ) (h : Homing) (o : Option End) → CtlsBlind b (group_orders h.group k) → CtlsBlind b (by_answer k h o).ctls.items
answer_blind b k h None a = a
answer_blind b k h (Some (end.Endstop tick)) a = tt
answer_blind b k h (Some end.NoSwitch) a = tt
answer_blind b k h (Some (end.Expired board turn)) a = tt

answer_once : (m : Machine) (own : Clocks) (b k : ℕ) (h : Homing) (o : Option End) → Once (commands_to m own b h.start (axis_at m h.axis) (group_orders h.group k)) → Once (homing_commands m (by_answer k h o) own b)
answer_once m own b k h None a = a
answer_once m own b k h (Some (end.Endstop tick)) a = tt
answer_once m own b k h (Some end.NoSwitch) a = tt
answer_once m own b k h (Some (end.Expired board turn)) a = tt

group_either : (b k : ℕ) (h : Homing) → (IsReader b (members_of h.group) → PhaseBlind (phase h.group.start h.group.last k)) ⊎ ((h.group.start ≡ k + 250) × IsReader b (members_of h.group))
group_either b k h =
    let start = h.group.start in
    elim (reader_or_not b (members_of h.group)) [
      | inr n ↦ inl (λ i. absurd (n i))
      | inl i ↦ elim (eqb_tells start (k + 250)) [ inl q ↦ inr (q.1, i) | inr q ↦ inl (λ _. phase_blind start h.group.last k (λ e. absurd (q.1 e))) ]
    ]

homing_either : (m : Machine) (all : List Clocks) (k : ℕ) (states : List State) (o : Option Homing) (own : Clocks) (b : ℕ) → HomingRises o
    → Each IsBlind (homing_commands m (homing_turn all k states o) own b) ⊎ (Once (homing_commands m (homing_turn all k states o) own b) × BeginsReads b k o)
homing_either m all k states None own b rises = inl tt
homing_either m all k states (Some h) own b rises =
    let g = hears_all all states h in
    let turn = by_answer k g (answer_in k g.start g.group) in
    let same : g.group.start ≡ h.group.start = states_start all 0 h.start states h.group in
    let members : members_of g.group ≡ members_of h.group = states-kept all 0 h.start states h.group in
    elim (group_either b k g) [
      | inl f ↦ inl (ctls_blind m own b turn.start (axis_at m turn.axis) turn.ctls.items (answer_blind b k g (answer_in k g.start g.group) (in_blind b (phase g.group.start g.group.last k) g.group k f)))
      | inr x ↦
          let In : Phase → Type 0 = λ p. Once (commands_to m own b g.start (axis_at m g.axis) (orders_of_group p g.group k)) in
          inr (
            answer_once m own b k g (answer_in k g.start g.group)
                (subst In (sym (phase_homes g.group.start g.group.last k x.0)) (round_once m own b g.start (axis_at m g.axis) g.group.members (subst BoardsRise (sym members) rises))),
            record { homing = h; known = refl; at = sym same ∙ x.0; reads = subst (λ (l : List Member). IsReader b l) members x.1 },
          )
    ]

turn_either : (m : Machine) (b : ℕ) (c : Came) (r : Known) (k : ℕ) (a : Asking) (x : Reacted) (t : BoardTurn) → HomingRises r.homing → BoardTurned m r b k c.states a x t.control
    → Each IsBlind t.control.commands ⊎ (Once t.control.commands × ((r.phase ≡ Running) × BeginsReads b k r.homing))
turn_either m b c r k a x t rises (Asks p g) =
    let ready_a = ready (configuration m b) a in
    inl (subst (λ (y : Control). Each IsBlind y.commands) (sym g.control_is) (asks_blind k (configuration m b) ready_a ready_a.stage))
turn_either m b c r k a x t rises (Ends p g) = inl (subst (λ (y : Control). Each IsBlind y.commands) (sym g.control_is) tt)
turn_either m b c r k a x t rises (Runs p g) =
    let waits = waits_in (drifts (board_at m b).drift) k a in
    let commands = homing_commands m (homing_turn r.clocks k c.states r.homing) g.own b in
    let rest = clock_question commands waits ++ stop_command (stops g.stop) in
    let blind = question_blind commands waits (stops g.stop) in
    elim (homing_either m r.clocks k c.states r.homing g.own b rises) [
      | inl s ↦ inl (subst (λ (y : Control). Each IsBlind y.commands) (sym g.control_is) (each_both IsBlind commands rest s blind))
      | inr s ↦ inr (subst (λ (y : Control). Once y.commands) (sym g.control_is) (once_front commands rest s.0 blind), (p, s.1))
    ]

-- what comes to a board in a turn
pub blind_both : (xs ys : List Meant) → AreBlind xs → AreBlind ys → AreBlind (xs ++ ys)
blind_both [] ys a k = k
blind_both (x ∷ xs) ys a k = (a.0, blind_both xs ys a.1 k)

pub blind_once : (ms : List Meant) → AreBlind ms → ReadOnce ms
blind_once [] k = tt
blind_once (m ∷ ms) k = inl k.1

pub read_front : (xs ys : List Meant) → ReadOnce xs → AreBlind ys → ReadOnce (xs ++ ys)
read_front [] ys k blind = blind_once ys blind
read_front (x ∷ xs) ys (inl k) blind = inl (blind_both xs ys k blind)
read_front (x ∷ xs) ys (inr k) blind = inr (k.0, read_front xs ys k.1 blind)

pub read_behind : (xs ys : List Meant) → AreBlind xs → ReadOnce ys → ReadOnce (xs ++ ys)
read_behind [] ys blind k = k
read_behind (x ∷ xs) ys blind k = inr (blind.0, read_behind xs ys blind.1 k)

plain_blind : (cs : List Cmd) → Each IsBlind cs → AreBlind (map plain cs)
plain_blind [] k = tt
plain_blind (c ∷ cs) k = (k.0, plain_blind cs k.1)

plain_once : (cs : List Cmd) → Once cs → ReadOnce (map plain cs)
plain_once [] k = tt
plain_once (c ∷ cs) (inl k) = inl (plain_blind cs k)
plain_once (c ∷ cs) (inr k) = inr (k.0, plain_once cs k.1)

unit_blind : (u : StepUnit) → AreBlind (unit_orders u)
unit_blind u = one u.reset u.up
  where
    one : (r : Option ℕ) (d : Option Bool) → AreBlind (map plain (reset_commands u.stepper r) ++ (map plain (dir_commands u.stepper d) ++ record { command = step_command u; ticks = unit_ticks u } ∷ []))
    one None None = (tt, tt)
    one None (Some d) = (tt, (tt, tt))
    one (Some r) None = (tt, (tt, tt))
    one (Some r) (Some d) = (tt, (tt, (tt, tt)))

pub units_blind : (us : List StepUnit) → AreBlind (units_orders us)
units_blind [] = tt
units_blind (u ∷ us) = blind_both (unit_orders u) (units_orders us) (unit_blind u) (units_blind us)

pub reads_either : (m : Machine) (switches : List Switch) (pins : List (List Level)) (entries : List Entry) (b : ℕ) (c : Came) (before : List Came) (t : BoardTurn) (turns : List BoardTurn)
    → IsInRun m switches pins entries b (c ∷ before) (t ∷ turns) → AreBlind (queued_in (orders t.control t.batch))
    ⊎ (ReadOnce (queued_in (orders t.control t.batch)) × (((noted m c.note (known_by m switches before)).phase ≡ Running) × BeginsReads b (length before) (noted m c.note (known_by m switches before)).homing))
reads_either m switches pins entries b c before t turns r =
    let x = turn_of m switches pins entries b c before t turns r in
    let known = known_by m switches before in
    let now = noted m c.note known in
    let plains = map plain t.control.commands in
    let units = units_orders t.batch.units in
    elim (turn_either m b c now (length before) x.a (last_reacted m switches c before) t (noted_rises m c.note known (known_rises m switches before r.goes_on.1)) x.turned) [
      | inl k ↦ inl (blind_both plains units (plain_blind t.control.commands k) (units_blind t.batch.units))
      | inr k ↦ inr (read_front plains units (plain_once t.control.commands k.0) (units_blind t.batch.units), k.1)
    ]
