-- The commands of a homing section's set-up to a board, and those behind it.
use Rattle.std.proofs.Common.{◌≡◌, ◌≢◌, ℕ, suc, ◌+◌, ◌-◌, ◌*◌, ◌<◌, ◌≤◌, ◌==◌, ◌⊎◌, inl, inr, Bool, true, false, cond, List, [], ◌∷◌, ◌++◌, length, map, take, drop, get_or, Option, Some, None, refl, ap, sym, ◌∙◌, subst, arith, append_assoc}
use Rattle.std.specs.Prelude.{nat_lt}
use Rattle.laws_board.proofs.Names.{eq-eqb, eqb-true, eqb_tells, take-append-drop, AxisDef, Machine, Clocks, axis_at, stepper_at, Cmd, State, Ctl, End, Member, Order, Goes, Rests, Sends, Homes, Starts, Fired, Seen, GroupState, all_fired, first_timeout, phase, relay_in, relays_in, round_of, steppers, unseen, Homing, answer_in, by_answer, command_to, commands_to, hears_all, homing_turn, order_command, Asking, asks_now, clock_question, trigger_of, homing_commands, stop_command}
use Rattle.msg_code.specs.declared.cmd.Cmd.TheVariants as cmd
use Rattle.trigger_group.specs.declared.order.End.TheVariants as end
use Rattle.trigger_group.specs.declared.order.Order.TheVariants as order
use Rattle.trigger_group.specs.declared.round.Phase.{Phase}
use Rattle.trigger_group.specs.declared.round.Round.{Round}
use Rattle.trigger_group.specs.declared.round.Round.TheVariants.{Relays, Resets, Timeouts}
use Rattle.trigger_group.specs.Group.{goes, limit, orders, orders_of_group, orders_to, stop, to_board, unless_fired}
use Rattle.trigger_group.specs.Kept.{BoardsRise}
use Rattle.laws_board.specs.clocks.Samples.{IsAmong}
use Rattle.laws_board.proofs.clocks.Controls.{states_start}
use Rattle.laws_board.proofs.clocks.Links.{among_both}
use Rattle.laws_homing.specs.home_runs.Guards.{IsCalm}
use Rattle.laws_homing.specs.home_runs.Sections.{Moves}
use Rattle.laws_homing.proofs.home_runs.Saying.{EachCalm}
use Rattle.plan_types.proofs.Facts.{not_equal}

pub each_both : (i j : ℕ) (xs ys : List Cmd) → EachCalm i j xs → EachCalm i j ys → EachCalm i j (xs ++ ys)
each_both i j [] ys a b = b
each_both i j (x ∷ xs) ys a b = (a.0, each_both i j xs ys a.1 b)

each_if : (i j : ℕ) (c : Bool) (xs : List Cmd) → EachCalm i j xs → EachCalm i j (cond c xs [])
each_if i j true xs a = a
each_if i j false xs a = tt

-- a command binds a stepper to a trigger, and those behind it are calm
abbrev pub Binds : ℕ → ℕ → List Cmd → Type 0
Binds i j [] = ⊥
Binds i j (c ∷ cs) = ((c ≡ cmd.StepperStopOnTrigger i j) × EachCalm i j cs) ⊎ Binds i j cs

pub binds_front : (i j : ℕ) (xs ys : List Cmd) → Binds i j xs → EachCalm i j ys → Binds i j (xs ++ ys)
binds_front i j [] ys k calm = absurd k
binds_front i j (x ∷ xs) ys (inl k) calm = inl (k.0, each_both i j xs ys k.1 calm)
binds_front i j (x ∷ xs) ys (inr k) calm = inr (binds_front i j xs ys k calm)

pub binds_behind : (i j : ℕ) (xs ys : List Cmd) → Binds i j ys → Binds i j (xs ++ ys)
binds_behind i j [] ys k = k
binds_behind i j (x ∷ xs) ys k = inr (binds_behind i j xs ys k)

-- orders
abbrev IsLater : Order → Type 0
IsLater order.Start = ⊥
IsLater (order.Reset i) = ⊥
IsLater what = Unit {0}

abbrev AllLater : List Ctl → Type 0
AllLater [] = Unit {0}
AllLater (c ∷ cs) = IsLater c.what × AllLater cs

later_both : (xs ys : List Ctl) → AllLater xs → AllLater ys → AllLater (xs ++ ys)
later_both [] ys a b = b
later_both (x ∷ xs) ys a b = (a.0, later_both xs ys a.1 b)

later_if : (c : Bool) (xs : List Ctl) → AllLater xs → AllLater (cond c xs [])
later_if true xs a = a
later_if false xs a = tt

later_unless : (c : Bool) (xs : List Ctl) → AllLater xs → AllLater (cond c [] xs)
later_unless true xs a = tt
later_unless false xs a = a

stops_later : (x : Seen) (ks : List ℕ) → AllLater (map (stop x) ks)
stops_later x [] = tt
stops_later x (k ∷ ks) = (tt, stops_later x ks)

fired_later : (o : Option Fired) (xs : List Ctl) → AllLater xs → AllLater (unless_fired o xs)
fired_later None xs a = a
fired_later (Some f) xs a = tt

abbrev IsLate : Round → Type 0
IsLate (Resets row) = ⊥
IsLate (Starts timeout) = ⊥
IsLate round = Unit {0}

to_later : (round : Round) (x : Seen) → IsLate round → AllLater (orders_to round x)
to_later Homes x a = later_both (map (stop x) (drop 8 (steppers x))) (cond x.member.endstop (to_board x order.Home ∷ []) []) (stops_later x (drop 8 (steppers x))) (later_if x.member.endstop (to_board x order.Home ∷ []) (tt, tt))
to_later (Timeouts turn) x a = (tt, tt)
to_later Relays x a = fired_later x.fired (to_board x order.Trigger ∷ []) (tt, tt)
to_later c x a = absurd a

round_later : (round : Round) (xs : List Seen) → IsLate round → AllLater (round_of round xs)
round_later round [] a = tt
round_later round (x ∷ xs) a = later_both (orders_to round x) (round_of round xs) (to_later round x a) (round_later round xs a)

abbrev PhaseLate : Phase → Type 0
PhaseLate (Sends round) = IsLate round
PhaseLate p = Unit {0}

if_late : (c : Bool) (x y : Phase) → (c ≡ true → PhaseLate x) → PhaseLate y → PhaseLate (cond c x y)
if_late true x y f g = f refl
if_late false x y f g = g

phase_late : (start last k : ℕ) → start ≤ k + 250 → PhaseLate (phase start last k)
phase_late start last k soon =
    let left = start - k in
    if_late (left == 254) (Sends (Resets 0)) _ (λ e. let f = eqb-true left 254 e in absurd (omega (arith, f, soon)))
    (if_late (left == 253) (Sends (Resets 1)) _ (λ e. let f = eqb-true left 253 e in absurd (omega (arith, f, soon)))
    (if_late (left == 252) (Sends (Resets 2)) _ (λ e. let f = eqb-true left 252 e in absurd (omega (arith, f, soon)))
    (if_late (left == 251) (Sends (Starts (first_timeout start last))) _ (λ e. let f = eqb-true left 251 e in absurd (omega (arith, f, soon)))
    (if_late (left == 250) (Sends Homes) _ (λ e. tt) (if_late (left == 0) Goes Rests (λ e. tt) tt)))))

goes_later : (g : GroupState) (turn : ℕ) → AllLater (goes g turn)
goes_later g turn =
    later_both (cond (nat_lt g.sent (limit g)) (round_of (Timeouts (limit g)) g.members) []) (cond (relays_in (relay_in g turn) turn) (round_of Relays g.members) [])
    (later_if (nat_lt g.sent (limit g)) (round_of (Timeouts (limit g)) g.members) (round_later (Timeouts (limit g)) g.members tt))
    (later_if (relays_in (relay_in g turn) turn) (round_of Relays g.members) (round_later Relays g.members tt))

in_later : (p : Phase) (g : GroupState) (turn : ℕ) → PhaseLate p → AllLater (orders_of_group p g turn)
in_later (Sends round) g turn a = round_later round g.members a
in_later Goes g turn a = later_unless (all_fired g.members) (goes g turn) (goes_later g turn)
in_later Rests g turn a = tt

by_later : (k : ℕ) (h : Homing) (o : Option End) → AllLater (orders h.group k) → AllLater (by_answer k h o).ctls.items
by_later k h None a = a
by_later k h (Some (end.Endstop tick)) a = tt
by_later k h (Some end.NoSwitch) a = tt
by_later k h (Some (end.Expired b turn)) a = tt

-- their commands
later_calm : (i j : ℕ) (m : Machine) (clocks : Clocks) (b start : ℕ) (axis : AxisDef) (what : Order) → IsLater what → IsCalm i j (order_command m clocks b start axis what)
later_calm i j m clocks b start axis (order.Reset s) a = absurd a
later_calm i j m clocks b start axis order.Start a = absurd a
later_calm i j m clocks b start axis c a = tt

pub ctls_calm : (i j : ℕ) (m : Machine) (clocks : Clocks) (b start : ℕ) (axis : AxisDef) (ctls : List Ctl) → AllLater ctls → EachCalm i j (commands_to m clocks b start axis ctls)
ctls_calm i j m clocks b start axis [] a = tt
ctls_calm i j m clocks b start axis (c ∷ ctls) a =
    each_both i j (command_to m clocks b start axis c) (commands_to m clocks b start axis ctls)
    (each_if i j (c.board == b) (order_command m clocks b start axis c.what ∷ []) (later_calm i j m clocks b start axis c.what a.0, tt)) (ctls_calm i j m clocks b start axis ctls a.1)

pub late_calm : (i j : ℕ) (m : Machine) (all : List Clocks) (k : ℕ) (states : List State) (h : Homing) (own : Clocks) (b : ℕ) → h.group.start ≤ k + 250 → EachCalm i j (homing_commands m (homing_turn all k states (Some h)) own b)
late_calm i j m all k states h own b soon =
    let g = hears_all all states h in
    let turn = by_answer k g (answer_in k g.start g.group) in
    let same : g.group.start ≡ h.group.start = states_start all 0 h.start states h.group in
    ctls_calm i j m own b turn.start (axis_at m turn.axis) turn.ctls.items
    (by_later k g (answer_in k g.start g.group) (in_later (phase g.group.start g.group.last k) g.group k (phase_late g.group.start g.group.last k (omega (arith, soon, same)))))

-- what else a control holds
pub question_calm : (i j : ℕ) (commands : List Cmd) (a : Asking) (stop : Bool) → EachCalm i j (clock_question commands a ++ stop_command stop)
question_calm i j commands a stop = each_both i j (clock_question commands a) (stop_command stop) (each_if i j (asks_now commands a) (cmd.GetUptime ∷ []) (tt, tt)) (one stop)
  where
    one : (s : Bool) → EachCalm i j (stop_command s)
    one true = (tt, tt)
    one false = tt

-- the commands of orders to one board
pub commands_both : (m : Machine) (clocks : Clocks) (b start : ℕ) (axis : AxisDef) (xs ys : List Ctl) → commands_to m clocks b start axis (xs ++ ys) ≡ commands_to m clocks b start axis xs ++ commands_to m clocks b start axis ys
commands_both m clocks b start axis [] ys = refl
commands_both m clocks b start axis (x ∷ xs) ys =
    ap (λ (l : List Cmd). command_to m clocks b start axis x ++ l) (commands_both m clocks b start axis xs ys)
    ∙ sym (append_assoc (command_to m clocks b start axis x) (commands_to m clocks b start axis xs) (commands_to m clocks b start axis ys))

abbrev pub AllTo : ℕ → List Ctl → Type 0
AllTo b [] = Unit {0}
AllTo b (c ∷ cs) = (c.board ≡ b) × AllTo b cs

to_both : (b : ℕ) (xs ys : List Ctl) → AllTo b xs → AllTo b ys → AllTo b (xs ++ ys)
to_both b [] ys a k = k
to_both b (x ∷ xs) ys a k = (a.0, to_both b xs ys a.1 k)

to_if : (b : ℕ) (c : Bool) (xs : List Ctl) → AllTo b xs → AllTo b (cond c xs [])
to_if b true xs a = a
to_if b false xs a = tt

to_map : (x : Seen) (f : ℕ → Ctl) (ks : List ℕ) → ((k : ℕ) → (f k).board ≡ x.member.board) → AllTo x.member.board (map f ks)
to_map x f [] each = tt
to_map x f (k ∷ ks) each = (each k, to_map x f ks each)

to_fired : (b : ℕ) (o : Option Fired) (xs : List Ctl) → AllTo b xs → AllTo b (unless_fired o xs)
to_fired b None xs a = a
to_fired b (Some f) xs a = tt

pub orders_are_to : (round : Round) (x : Seen) → AllTo x.member.board (orders_to round x)
orders_are_to (Resets row) x = to_map x _ (take 6 (drop (row * 6) (steppers x))) (λ k. refl)
orders_are_to (Starts timeout) x = (refl, (refl, to_map x (stop x) (take 8 (steppers x)) (λ k. refl)))
orders_are_to Homes x =
    to_both x.member.board (map (stop x) (drop 8 (steppers x))) (cond x.member.endstop (to_board x order.Home ∷ []) []) (to_map x (stop x) (drop 8 (steppers x)) (λ k. refl))
    (to_if x.member.board x.member.endstop (to_board x order.Home ∷ []) (refl, tt))
orders_are_to (Timeouts turn) x = (refl, tt)
orders_are_to Relays x = to_fired x.member.board x.fired (to_board x order.Trigger ∷ []) (refl, tt)

none_to : (i j : ℕ) (m : Machine) (clocks : Clocks) (b c start : ℕ) (axis : AxisDef) (ctls : List Ctl) → AllTo c ctls → c ≢ b → EachCalm i j (commands_to m clocks b start axis ctls)
none_to i j m clocks b c start axis [] a d = tt
none_to i j m clocks b c start axis (x ∷ ctls) a d =
    let no = not_equal x.board b (λ e. d (sym a.0 ∙ e)) in
    each_both i j (command_to m clocks b start axis x) (commands_to m clocks b start axis ctls)
    (subst (λ (t : Bool). EachCalm i j (cond t (order_command m clocks b start axis x.what ∷ []) [])) (sym no) tt) (none_to i j m clocks b c start axis ctls a.1 d)

-- members on other boards
abbrev pub NotOn : ℕ → List Seen → Type 0
NotOn b [] = Unit {0}
NotOn b (x ∷ xs) = (x.member.board ≢ b) × NotOn b xs

pub above_not : (b : ℕ) (xs : List Seen) → ((k : ℕ) (d : Member) → k < length (map (λ (s : Seen). s.member) xs) → b < (get_or (map (λ (s : Seen). s.member) xs) k d).board) → NotOn b xs
above_not b [] above = tt
above_not b (x ∷ xs) above = (λ e. let h = above 0 x.member (omega arith) in absurd (omega (arith, h, e)), above_not b xs (λ k d l. above (suc k) d (omega (arith, l))))

pub rise_behind : (x : Member) (ms : List Member) → BoardsRise (x ∷ ms) → BoardsRise ms
rise_behind x ms r = λ a c d lt within. r (suc a) (suc c) d (omega (arith, lt)) (omega (arith, within))

others_calm : (i j : ℕ) (m : Machine) (clocks : Clocks) (b start : ℕ) (axis : AxisDef) (round : Round) (xs : List Seen) → NotOn b xs → EachCalm i j (commands_to m clocks b start axis (round_of round xs))
others_calm i j m clocks b start axis round [] n = tt
others_calm i j m clocks b start axis round (x ∷ xs) n =
    subst (λ (l : List Cmd). EachCalm i j l) (sym (commands_both m clocks b start axis (orders_to round x) (round_of round xs)))
    (each_both i j (commands_to m clocks b start axis (orders_to round x)) (commands_to m clocks b start axis (round_of round xs))
    (none_to i j m clocks b x.member.board start axis (orders_to round x) (orders_are_to round x) n.0) (others_calm i j m clocks b start axis round xs n.1))

-- a member's stepper is bound
stops_bind : (m : Machine) (clocks : Clocks) (b start : ℕ) (axis : AxisDef) (x : Seen) (s : ℕ) (ks : List ℕ) → x.member.board ≡ b → IsAmong s ks → Binds (stepper_at m s).oid (trigger_of m b) (commands_to m clocks b start axis (map (stop x) ks))
stops_bind m clocks b start axis x s [] same is = absurd is
stops_bind m clocks b start axis x s (k ∷ ks) same (inl e) =
    let i = (stepper_at m s).oid in
    let j = trigger_of m b in
    let rest = commands_to m clocks b start axis (map (stop x) ks) in
    subst (λ (t : Bool). Binds i j (cond t (cmd.StepperStopOnTrigger (stepper_at m k).oid (trigger_of m b) ∷ []) [] ++ rest)) (sym (eq-eqb x.member.board b same))
    (inl (ap (λ (n : ℕ). cmd.StepperStopOnTrigger (stepper_at m n).oid (trigger_of m b)) e, ctls_calm i j m clocks b start axis (map (stop x) ks) (stops_later x ks)))
stops_bind m clocks b start axis x s (k ∷ ks) same (inr is) =
    binds_behind (stepper_at m s).oid (trigger_of m b) (command_to m clocks b start axis (stop x k)) (commands_to m clocks b start axis (map (stop x) ks)) (stops_bind m clocks b start axis x s ks same is)

-- the round with the first eight steppers, and the one with the others
abbrev IsIn : ℕ → Round → Seen → Type 0
IsIn s (Starts timeout) x = IsAmong s (take 8 (steppers x))
IsIn s Homes x = IsAmong s (drop 8 (steppers x))
IsIn s round x = ⊥

one_binds : (m : Machine) (clocks : Clocks) (b start : ℕ) (axis : AxisDef) (round : Round) (x : Seen) (s : ℕ) → x.member.board ≡ b → IsIn s round x
    → Binds (stepper_at m s).oid (trigger_of m b) (commands_to m clocks b start axis (orders_to round x))
one_binds m clocks b start axis (Starts timeout) x s same is =
    let i = (stepper_at m s).oid in
    let j = trigger_of m b in
    let stops = commands_to m clocks b start axis (map (stop x) (take 8 (steppers x))) in
    binds_behind i j (command_to m clocks b start axis (to_board x order.Start)) (command_to m clocks b start axis (to_board x (order.Timeout timeout)) ++ stops)
    (binds_behind i j (command_to m clocks b start axis (to_board x (order.Timeout timeout))) stops (stops_bind m clocks b start axis x s (take 8 (steppers x)) same is))
one_binds m clocks b start axis Homes x s same is =
    let i = (stepper_at m s).oid in
    let j = trigger_of m b in
    let stops = map (stop x) (drop 8 (steppers x)) in
    let end_of = cond x.member.endstop (to_board x order.Home ∷ []) [] in
    subst (λ (l : List Cmd). Binds i j l) (sym (commands_both m clocks b start axis stops end_of))
    (binds_front i j (commands_to m clocks b start axis stops) (commands_to m clocks b start axis end_of) (stops_bind m clocks b start axis x s (drop 8 (steppers x)) same is)
    (ctls_calm i j m clocks b start axis end_of (later_if x.member.endstop (to_board x order.Home ∷ []) (tt, tt))))
one_binds m clocks b start axis c x s same is = absurd is

-- a stepper of a board is in a round
abbrev pub InRound : ℕ → ℕ → Round → List Seen → Type 0
InRound b s round [] = ⊥
InRound b s round (x ∷ xs) = ((x.member.board ≡ b) × IsIn s round x) ⊎ InRound b s round xs

pub round_binds : (m : Machine) (clocks : Clocks) (b start : ℕ) (axis : AxisDef) (round : Round) (xs : List Seen) (s : ℕ) → BoardsRise (map (λ (y : Seen). y.member) xs) → InRound b s round xs
    → Binds (stepper_at m s).oid (trigger_of m b) (commands_to m clocks b start axis (round_of round xs))
round_binds m clocks b start axis round [] s rise is = absurd is
round_binds m clocks b start axis round (x ∷ xs) s rise (inl is) =
    let i = (stepper_at m s).oid in
    let j = trigger_of m b in
    let ms = map (λ (y : Seen). y.member) xs in
    let not_on : NotOn b xs = subst (λ (n : ℕ). NotOn n xs) is.0 (above_not x.member.board xs (λ k d l. rise 0 (suc k) d (omega arith) (omega (arith, l)))) in
    subst (λ (l : List Cmd). Binds i j l) (sym (commands_both m clocks b start axis (orders_to round x) (round_of round xs)))
    (binds_front i j (commands_to m clocks b start axis (orders_to round x)) (commands_to m clocks b start axis (round_of round xs)) (one_binds m clocks b start axis round x s is.0 is.1)
    (others_calm i j m clocks b start axis round xs not_on))
round_binds m clocks b start axis round (x ∷ xs) s rise (inr is) =
    let i = (stepper_at m s).oid in
    let j = trigger_of m b in
    subst (λ (l : List Cmd). Binds i j l) (sym (commands_both m clocks b start axis (orders_to round x) (round_of round xs)))
    (binds_behind i j (commands_to m clocks b start axis (orders_to round x)) (commands_to m clocks b start axis (round_of round xs))
    (round_binds m clocks b start axis round xs s (rise_behind x.member (map (λ (y : Seen). y.member) xs) rise) is))

-- the turn of a round
pub steppers_are : (x : Seen) → steppers (unseen x.member) ≡ steppers x
unfolding steppers
steppers_are x = refl

-- a stepper of a board among the first eight that move, and among the others
abbrev pub FirstOf : ℕ → ℕ → List Member → Type 0
FirstOf b s [] = ⊥
FirstOf b s (x ∷ ms) = ((x.board ≡ b) × IsAmong s (take 8 (steppers (unseen x)))) ⊎ FirstOf b s ms

abbrev pub RestOf : ℕ → ℕ → List Member → Type 0
RestOf b s [] = ⊥
RestOf b s (x ∷ ms) = ((x.board ≡ b) × IsAmong s (drop 8 (steppers (unseen x)))) ⊎ RestOf b s ms

pub which : (b s : ℕ) (ms : List Member) → Moves b s ms → FirstOf b s ms ⊎ RestOf b s ms
which b s [] is = absurd is
which b s (x ∷ ms) (inl is) =
    let ks = steppers (unseen x) in
    elim (among_both s (take 8 ks) (drop 8 ks) (subst (λ (l : List ℕ). IsAmong s l) (sym (take-append-drop 8 ks)) is.1)) [
      | inl first ↦ inl (inl (is.0, first))
      | inr rest ↦ inr (inl (is.0, rest))
    ]
which b s (x ∷ ms) (inr is) = elim (which b s ms is) [ inl first ↦ inl (inr first) | inr rest ↦ inr (inr rest) ]

pub first_in : (b s timeout : ℕ) (xs : List Seen) → FirstOf b s (map (λ (y : Seen). y.member) xs) → InRound b s (Starts timeout) xs
first_in b s timeout [] is = absurd is
first_in b s timeout (x ∷ xs) (inl is) = inl (is.0, subst (λ (l : List ℕ). IsAmong s (take 8 l)) (steppers_are x) is.1)
first_in b s timeout (x ∷ xs) (inr is) = inr (first_in b s timeout xs is)

pub rest_in : (b s : ℕ) (xs : List Seen) → RestOf b s (map (λ (y : Seen). y.member) xs) → InRound b s Homes xs
rest_in b s [] is = absurd is
rest_in b s (x ∷ xs) (inl is) = inl (is.0, subst (λ (l : List ℕ). IsAmong s (drop 8 l)) (steppers_are x) is.1)
rest_in b s (x ∷ xs) (inr is) = inr (rest_in b s xs is)
