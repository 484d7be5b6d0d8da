-- A control sets the clocks of steppers that move alone.
use Rattle.std.proofs.Common.{◌≡◌, ℕ, zero, suc, ◌+◌, ◌*◌, ◌/◌, ◌%◌, ◌<◌, ◌==◌, ◌&&◌, ◌⊎◌, inl, inr, Bool, true, false, cond, List, [], ◌∷◌, ◌++◌, length, map, take, drop, Option, Some, None, refl, sym, subst, arith, rules}
use Rattle.std.specs.Prelude.{nat_lt, slice_index_or}
use Rattle.laws_board.proofs.Names.{eqb-true, take-append-drop, Level, AxisDef, Machine, Clocks, axis_at, board_at, stepper_at, Cmd, State, Control, Entry, Switch, Ctl, End, Member, Order, Goes, Rests, Sends, Homes, Starts, Fired, Seen, GroupState, all_fired, phase, relay_in, relays_in, round_of, steppers, Homing, answer_in, by_answer, command_to, commands_to, hears_all, homing_turn, order_command, members_of, Asking, asks_now, clock_question, drifts, waits_in, Known, Connecting, noted, Reacted, homing_commands, stop_command, stops, Came, known_by, last_reacted, states-kept, both_parts}
use Rattle.plan_types.specs.declared.machine.StepperDef.{StepperDef}
use Rattle.plan_types.specs.Machines.{no_stepper}
use Rattle.msg_code.specs.declared.cmd.Cmd.TheVariants as cmd
use Rattle.trigger_group.specs.declared.order.End.TheVariants as end
use Rattle.trigger_group.specs.declared.order.Order.TheVariants as order
use Rattle.trigger_group.specs.declared.round.Phase.{Phase}
use Rattle.trigger_group.specs.declared.round.Round.{Round}
use Rattle.trigger_group.specs.declared.round.Round.TheVariants.{Relays, Resets, Timeouts}
use Rattle.trigger_group.specs.Group.{bits, goes, limit, orders, orders_of_group, orders_to, reset, stop, to_board, unless_fired}
use Rattle.axis_homing.specs.Homing.{moving_on}
use Rattle.laws_board.specs.turns.Turns.{BoardTurn}
use Rattle.laws_board.specs.clocks.Runs.{IsInRun}
use Rattle.laws_board.specs.clocks.Samples.{IsAmong}
use Rattle.laws_board.proofs.clocks.Lines.{noted_phase, turn_of}
use Rattle.laws_board.proofs.clocks.Turning.{Asks, BoardTurned, Ends, Runs}
use Rattle.laws_homing.specs.home_runs.Sections.{IsOf, Moves}
use Rattle.laws_homing.proofs.home_runs.Controlling.{connecting_not}
use Rattle.laws_homing.proofs.home_runs.Setting.{steppers_are}
use Rattle.laws_homing.proofs.home_parts.Bits.{no_bits}

-- commands that set the clocks of some steppers alone
abbrev pub SetsOf : (ℕ → Type 0) → Cmd → Type 0
SetsOf P (cmd.ResetStepClock oid clock) = P oid
SetsOf P c = Unit {0}

abbrev pub AllSetOf : (ℕ → Type 0) → List Cmd → Type 0
AllSetOf P [] = Unit {0}
AllSetOf P (c ∷ cs) = SetsOf P c × AllSetOf P cs

of_both : (P : ℕ → Type 0) (xs ys : List Cmd) → AllSetOf P xs → AllSetOf P ys → AllSetOf P (xs ++ ys)
of_both P [] ys a b = b
of_both P (x ∷ xs) ys a b = (a.0, of_both P xs ys a.1 b)

of_if : (P : ℕ → Type 0) (c : Bool) (xs : List Cmd) → AllSetOf P xs → AllSetOf P (cond c xs [])
of_if P true xs a = a
of_if P false xs a = tt

-- a stepper of a board that moves, by its object id
abbrev pub MovesAs : Machine → ℕ → List Member → ℕ → Type 0
MovesAs m b ms oid = (s : ℕ) × Moves b s ms × ((stepper_at m s).oid ≡ oid)

-- orders that reset steppers of members
abbrev Resets_in : List Member → Ctl → Type 0
Resets_in ms c = (s : ℕ) → c.what ≡ order.Reset s → Moves c.board s ms

abbrev AllResetIn : List Member → List Ctl → Type 0
AllResetIn ms [] = Unit {0}
AllResetIn ms (c ∷ cs) = Resets_in ms c × AllResetIn ms cs

in_both : (ms : List Member) (xs ys : List Ctl) → AllResetIn ms xs → AllResetIn ms ys → AllResetIn ms (xs ++ ys)
in_both ms [] ys a b = b
in_both ms (x ∷ xs) ys a b = (a.0, in_both ms xs ys a.1 b)

in_if : (ms : List Member) (c : Bool) (xs : List Ctl) → AllResetIn ms xs → AllResetIn ms (cond c xs [])
in_if ms true xs a = a
in_if ms false xs a = tt

in_unless : (ms : List Member) (c : Bool) (xs : List Ctl) → AllResetIn ms xs → AllResetIn ms (cond c [] xs)
in_unless ms true xs a = tt
in_unless ms false xs a = a

in_fired : (ms : List Member) (o : Option Fired) (xs : List Ctl) → AllResetIn ms xs → AllResetIn ms (unless_fired o xs)
in_fired ms None xs a = a
in_fired ms (Some f) xs a = tt

in_stops : (ms : List Member) (x : Seen) (ks : List ℕ) → AllResetIn ms (map (stop x) ks)
in_stops ms x [] = tt
in_stops ms x (k ∷ ks) = (λ s e. cc, in_stops ms x ks)

reset_is : (s k : ℕ) → order.Reset k ≡ order.Reset s → k ≡ s
reset_is s k e = cc

in_resets : (ms : List Member) (x : Seen) (ks : List ℕ) → ((s : ℕ) → IsAmong s ks → Moves x.member.board s ms) → AllResetIn ms (map (reset x) ks)
in_resets ms x [] each = tt
in_resets ms x (k ∷ ks) each = (λ s e. each s (inl (reset_is s k e)), in_resets ms x ks (λ s is. each s (inr is)))

among_front : (s n : ℕ) (ks : List ℕ) → IsAmong s (take n ks) → IsAmong s ks
among_front s n ks is = subst (λ (l : List ℕ). IsAmong s l) (take-append-drop n ks) (left (take n ks) (drop n ks) is)
  where
    left : (xs ys : List ℕ) → IsAmong s xs → IsAmong s (xs ++ ys)
    left [] ys q = absurd q
    left (x ∷ xs) ys (inl q) = inl q
    left (x ∷ xs) ys (inr q) = inr (left xs ys q)

among_rest : (s n : ℕ) (ks : List ℕ) → IsAmong s (drop n ks) → IsAmong s ks
among_rest s n ks is = subst (λ (l : List ℕ). IsAmong s l) (take-append-drop n ks) (right (take n ks) (drop n ks) is)
  where
    right : (xs ys : List ℕ) → IsAmong s ys → IsAmong s (xs ++ ys)
    right [] ys q = q
    right (x ∷ xs) ys q = inr (right xs ys q)

to_in : (ms : List Member) (round : Round) (x : Seen) → ((s : ℕ) → IsAmong s (steppers x) → Moves x.member.board s ms) → AllResetIn ms (orders_to round x)
to_in ms (Resets row) x each = in_resets ms x (take 6 (drop (row * 6) (steppers x))) (λ s is. each s (among_rest s (row * 6) (steppers x) (among_front s 6 (drop (row * 6) (steppers x)) is)))
to_in ms (Starts timeout) x each = (λ s e. cc, (λ s e. cc, in_stops ms x (take 8 (steppers x))))
to_in ms Homes x each =
    in_both ms (map (stop x) (drop 8 (steppers x))) (cond x.member.endstop (to_board x order.Home ∷ []) []) (in_stops ms x (drop 8 (steppers x)))
    (in_if ms x.member.endstop (to_board x order.Home ∷ []) (λ s e. cc, tt))
to_in ms (Timeouts turn) x each = (λ s e. cc, tt)
to_in ms Relays x each = in_fired ms x.fired (to_board x order.Trigger ∷ []) (λ s e. cc, tt)

abbrev Covers : List Member → List Seen → Type 0
Covers ms [] = Unit {0}
Covers ms (x ∷ xs) = ((s : ℕ) → IsAmong s (steppers x) → Moves x.member.board s ms) × Covers ms xs

round_in : (ms : List Member) (round : Round) (xs : List Seen) → Covers ms xs → AllResetIn ms (round_of round xs)
round_in ms round [] c = tt
round_in ms round (x ∷ xs) c = in_both ms (orders_to round x) (round_of round xs) (to_in ms round x c.0) (round_in ms round xs c.1)

goes_in : (ms : List Member) (g : GroupState) (turn : ℕ) → Covers ms g.members → AllResetIn ms (goes g turn)
goes_in ms g turn c =
    in_both ms (cond (nat_lt g.sent (limit g)) (round_of (Timeouts (limit g)) g.members) []) (cond (relays_in (relay_in g turn) turn) (round_of Relays g.members) [])
    (in_if ms (nat_lt g.sent (limit g)) (round_of (Timeouts (limit g)) g.members) (round_in ms (Timeouts (limit g)) g.members c))
    (in_if ms (relays_in (relay_in g turn) turn) (round_of Relays g.members) (round_in ms Relays g.members c))

phase_in : (ms : List Member) (p : Phase) (g : GroupState) (turn : ℕ) → Covers ms g.members → AllResetIn ms (orders_of_group p g turn)
phase_in ms (Sends round) g turn c = round_in ms round g.members c
phase_in ms Goes g turn c = in_unless ms (all_fired g.members) (goes g turn) (goes_in ms g turn c)
phase_in ms Rests g turn c = tt

answer_resets : (ms : List Member) (k : ℕ) (h : Homing) (o : Option End) → AllResetIn ms (orders h.group k) → AllResetIn ms (by_answer k h o).ctls.items
answer_resets ms k h None a = a
answer_resets ms k h (Some (end.Endstop tick)) a = tt
answer_resets ms k h (Some end.NoSwitch) a = tt
answer_resets ms k h (Some (end.Expired b turn)) a = tt

covers : (xs : List Seen) → Covers (map (λ (y : Seen). y.member) xs) xs
covers [] = tt
covers (x ∷ xs) = (λ s is. inl (refl, subst (λ (l : List ℕ). IsAmong s l) (sym (steppers_are x)) is), more (map (λ (y : Seen). y.member) xs) xs (covers xs))
  where
    more : (ms : List Member) (ys : List Seen) → Covers ms ys → Covers (x.member ∷ ms) ys
    more ms [] c = tt
    more ms (y ∷ ys) c = (λ s is. inr (c.0 s is), more ms ys c.1)

-- their commands
one_of : (m : Machine) (clocks : Clocks) (b start : ℕ) (axis : AxisDef) (ms : List Member) (c : Ctl) → c.board ≡ b → Resets_in ms c → SetsOf (MovesAs m b ms) (order_command m clocks b start axis c.what)
one_of m clocks b start axis ms c same r = search (rules, order_command)

ctl_of : (t : Bool) (m : Machine) (clocks : Clocks) (b start : ℕ) (axis : AxisDef) (ms : List Member) (c : Ctl) → (c.board == b) ≡ t → Resets_in ms c → AllSetOf (MovesAs m b ms) (cond t (order_command m clocks b start axis c.what ∷ []) [])
ctl_of true m clocks b start axis ms c e r = (one_of m clocks b start axis ms c (eqb-true c.board b e) r, tt)
ctl_of false m clocks b start axis ms c e r = tt

ctls_of : (m : Machine) (clocks : Clocks) (b start : ℕ) (axis : AxisDef) (ms : List Member) (ctls : List Ctl) → AllResetIn ms ctls → AllSetOf (MovesAs m b ms) (commands_to m clocks b start axis ctls)
ctls_of m clocks b start axis ms [] a = tt
ctls_of m clocks b start axis ms (c ∷ ctls) a =
    of_both (MovesAs m b ms) (command_to m clocks b start axis c) (commands_to m clocks b start axis ctls) (ctl_of (c.board == b) m clocks b start axis ms c refl a.0) (ctls_of m clocks b start axis ms ctls a.1)

home_of : (m : Machine) (all : List Clocks) (k : ℕ) (states : List State) (h : Homing) (own : Clocks) (b : ℕ) → AllSetOf (MovesAs m b (members_of h.group)) (homing_commands m (homing_turn all k states (Some h)) own b)
home_of m all k states h own b =
    let g = hears_all all states h in
    let turn = by_answer k g (answer_in k g.start g.group) in
    let same = states-kept all 0 h.start states h.group in
    subst (λ (ms : List Member). AllSetOf (MovesAs m b ms) (homing_commands m turn own b)) same
    (ctls_of m own b turn.start (axis_at m turn.axis) (members_of g.group) turn.ctls.items
    (answer_resets (members_of g.group) k g (answer_in k g.start g.group) (phase_in (members_of g.group) (phase g.group.start g.group.last k) g.group k (covers g.group.members))))

question_of : (P : ℕ → Type 0) (commands : List Cmd) (a : Asking) (stop : Bool) → AllSetOf P (clock_question commands a ++ stop_command stop)
question_of P commands a stop = search (rules, of_both, clock_question, stop_command, of_if, asks_now)

control_of : (m : Machine) (b : ℕ) (c : Came) (r : Known) (k start : ℕ) (ms : List Member) (a : Asking) (x : Reacted) (t : BoardTurn) (o : Option Homing) → r.homing ≡ o → IsOf start ms o
    → (r.phase ≡ Connecting → ⊥) → BoardTurned m r b k c.states a x t.control → AllSetOf (MovesAs m b ms) t.control.commands
control_of m b c r k start ms a x t o is of n (Asks p g) = absurd (n p)
control_of m b c r k start ms a x t o is of n (Ends p g) = absurd (n p)
control_of m b c r k start ms a x t None is of n (Runs p g) = absurd of
control_of m b c r k start ms a x t (Some h) is of n (Runs p g) =
    let waits = waits_in (drifts (board_at m b).drift) k a in
    let commands = homing_commands m (homing_turn r.clocks k c.states r.homing) g.own b in
    let P = MovesAs m b ms in
    let Home : Option Homing → Type 0 = λ y. AllSetOf P (homing_commands m (homing_turn r.clocks k c.states y) g.own b) in
    let own : AllSetOf P (homing_commands m (homing_turn r.clocks k c.states (Some h)) g.own b) = subst (λ (l : List Member). AllSetOf (MovesAs m b l) (homing_commands m (homing_turn r.clocks k c.states (Some h)) g.own b)) of.2 (home_of m r.clocks k c.states h g.own b) in
    subst (λ (y : Control). AllSetOf P y.commands) (sym g.control_is) (of_both P commands (clock_question commands waits ++ stop_command (stops g.stop)) (subst Home (sym is) own) (question_of P commands waits (stops g.stop)))

pub turn_sets : (m : Machine) (switches : List Switch) (pins : List (List Level)) (entries : List Entry) (b : ℕ) (c : Came) (before : List Came) (t : BoardTurn) (turns : List BoardTurn) (start : ℕ) (ms : List Member)
    → IsInRun m switches pins entries b (c ∷ before) (t ∷ turns) → ((known_by m switches before).phase ≡ Connecting → ⊥) → IsOf start ms (noted m c.note (known_by m switches before)).homing
    → AllSetOf (MovesAs m b ms) t.control.commands
turn_sets m switches pins entries b c before t turns start ms r n of =
    let x = turn_of m switches pins entries b c before t turns r in
    let known = known_by m switches before in
    control_of m b c (noted m c.note known) (length before) start ms x.a (last_reacted m switches c before) t (noted m c.note known).homing refl of (connecting_not (noted m c.note known) known (noted_phase m c.note known) n) x.turned

-- steppers that move on a board are the board's
low_bit : (c : Bool) (r : ℕ) → ((cond c 1 0 + 2 * r) % 2 ≡ cond c 1 0) × ((cond c 1 0 + 2 * r) / 2 ≡ r)
low_bit true r = (omega arith, omega arith)
low_bit false r = (omega arith, omega arith)

abbrev IsOn : ℕ → ℕ → List StepperDef → Type 0
IsOn b n [] = ⊥
IsOn b zero (x ∷ ss) = x.board ≡ b
IsOn b (suc n) (x ∷ ss) = IsOn b n ss

bit_in : (c : Bool) (i s : ℕ) (rest : List ℕ) → IsAmong s (cond (cond c 1 0 == 1) (i ∷ []) [] ++ rest) → ((i ≡ s) × (c ≡ true)) ⊎ IsAmong s rest
bit_in true i s rest (inl e) = inl (e, refl)
bit_in true i s rest (inr is) = inr is
bit_in false i s rest is = inr is

pub on_board : (b i n s : ℕ) (word : ℕ) (ss : List StepperDef) → IsAmong s (bits i n (moving_on b word ss)) → (k : ℕ) × (i + k ≡ s) × IsOn b k ss
on_board b i zero s word ss is = absurd is
on_board b i (suc n) s word [] is = absurd (no_bits (i + 1) n s is)
on_board b i (suc n) s word (x ∷ ss) is =
    let c = (x.board == b) && (word % 2 == 1) in
    let rest = moving_on b (word / 2) ss in
    let low = low_bit c rest in
    let At : ℕ → ℕ → Type 0 = λ bit others. IsAmong s (cond (bit == 1) (i ∷ []) [] ++ bits (i + 1) n others) in
    let one : At (cond c 1 0) rest = subst (λ (v : ℕ). At v rest) low.0 (subst (λ (v : ℕ). At ((cond c 1 0 + 2 * rest) % 2) v) low.1 is) in
    elim (bit_in c i s (bits (i + 1) n rest) one) [
      | inl here ↦ (0, omega (arith, here.0), eqb-true x.board b (both_parts (x.board == b) (word % 2 == 1) here.1).0)
      | inr later ↦ let found = on_board b (i + 1) n s (word / 2) ss later in (suc found.0, omega (arith, found.1), found.2)
    ]

pub is_there : (b n : ℕ) (ss : List StepperDef) → IsOn b n ss → (n < length ss) × ((slice_index_or ss n no_stepper).board ≡ b)
is_there b n [] o = absurd o
is_there b zero (x ∷ ss) o = (omega arith, o)
is_there b (suc n) (x ∷ ss) o = let r = is_there b n ss o in (omega (arith, r.0), r.1)
