-- In the turn 251 turns before a homing section's start one command that starts a trigger comes to the board of each member.
use Rattle.std.proofs.Common.{◌≡◌, ℕ, suc, ◌+◌, ◌*◌, ◌/◌, ◌<◌, ◌⊎◌, inl, inr, Bool, cond, List, [], ◌∷◌, ◌++◌, length, map, take, get_or, Option, Some, refl, ap, sym, ◌∙◌, subst, arith}
use Rattle.laws_board.proofs.Names.{eq-eqb, Level, AxisDef, Machine, Clocks, axis_at, board_at, clocks_at, turn_tick, Cmd, State, Control, Entry, Switch, Meant, commands_of, units_orders, queued_in, orders, End, Member, Starts, Seen, first_timeout, round_of, steppers, Homing, by_answer, commands_to, hears_all, homing_turn, low, order_command, members_of, Asking, trigger_of, clock_question, drifts, waits_in, Known, Connecting, noted, Reacted, homing_commands, stop_command, stops, Came, known_by, last_reacted, states-kept}
use Rattle.msg_code.specs.declared.cmd.Cmd.TheVariants as cmd
use Rattle.trigger_group.specs.declared.order.Order.TheVariants as order
use Rattle.trigger_group.specs.declared.round.Phase.{Phase}
use Rattle.trigger_group.specs.Group.{orders_of_group, orders_to, stop}
use Rattle.trigger_group.specs.Kept.{BoardsRise}
use Rattle.axis_homing.specs.Rising.{HomingRises}
use Rattle.laws_board.specs.turns.Turns.{BoardTurn}
use Rattle.laws_board.specs.clocks.Runs.{IsInRun}
use Rattle.laws_board.proofs.clocks.Controls.{states_start}
use Rattle.laws_board.proofs.clocks.Lines.{turn_of}
use Rattle.laws_board.proofs.clocks.Turning.{Asks, BoardTurned, Ends, Runs}
use Rattle.laws_homing.specs.home_runs.Told.{IsMember}
use Rattle.laws_homing.proofs.home_runs.Controlling.{phase_starts}
use Rattle.laws_homing.proofs.home_runs.Joining.{known_rises, noted_rises}
use Rattle.laws_homing.proofs.home_runs.Setting.{commands_both, rise_behind}
use Rattle.laws_homing.proofs.home_runs.Whole.{turn_commands}
use Rattle.laws_homing.specs.clear_groups.Resting.{EachTame, IsTame}
use Rattle.laws_homing.proofs.clear_groups.Resting.{units_tame}
use Rattle.laws_homing.proofs.clear_groups.Starting.{MembersOf, ctls_tame, question_tame, round_tame, stops_tame, to_tame}
use Rattle.laws_homing.proofs.switch_runs.Ordering.{lines_at}
use Rattle.laws_homing.specs.fired_runs.Since.{IsStart}
use Rattle.host_reactor.proofs.Idle.{not-yet}

-- the command that starts the trigger of a board for a section
abbrev pub StartOf : Machine → ℕ → Clocks → ℕ → Cmd
StartOf m b own start = cmd.TrsyncStart (trigger_of m b) (low (turn_tick own start)) ((board_at m b).freq * 5 / 1_000) 2

-- a timeout of a trigger is set, by the first of some commands
abbrev pub SetsFirst : ℕ → List Cmd → Type 0
SetsFirst j [] = ⊥
SetsFirst j (cmd.TrsyncSetTimeout oid clock ∷ cs) = oid ≡ j
SetsFirst j (c ∷ cs) = ⊥

first_both : (j : ℕ) (xs ys : List Cmd) → SetsFirst j xs → SetsFirst j (xs ++ ys)
first_both j [] ys k = absurd k
first_both j (cmd.TrsyncSetTimeout oid clock ∷ cs) ys k = k
first_both j (c ∷ cs) ys k = absurd k

-- one of some commands starts a trigger: this one does, and the next one sets a trigger's timeout
abbrev StartsOnce : Cmd → ℕ → List Cmd → Type 0
StartsOnce x j [] = ⊥
StartsOnce x j (c ∷ cs) = ((c ≡ x) × SetsFirst j cs × IsStart c × EachTame cs) ⊎ (IsTame c × StartsOnce x j cs)

each_both : (xs ys : List Cmd) → EachTame xs → EachTame ys → EachTame (xs ++ ys)
each_both [] ys a b = b
each_both (x ∷ xs) ys a b = (a.0, each_both xs ys a.1 b)

once_front : (x : Cmd) (j : ℕ) (xs ys : List Cmd) → StartsOnce x j xs → EachTame ys → StartsOnce x j (xs ++ ys)
once_front x j [] ys k tame = absurd k
once_front x j (c ∷ xs) ys (inl k) tame = inl (k.0, first_both j xs ys k.1, k.2, each_both xs ys k.3 tame)
once_front x j (c ∷ xs) ys (inr k) tame = inr (k.0, once_front x j xs ys k.1 tame)

once_behind : (x : Cmd) (j : ℕ) (xs ys : List Cmd) → EachTame xs → StartsOnce x j ys → StartsOnce x j (xs ++ ys)
once_behind x j [] ys tame k = k
once_behind x j (c ∷ xs) ys tame k = inr (tame.0, once_behind x j xs ys tame.1 k)

-- the boards of members rise
member_at : (b : ℕ) (ms : List Member) → IsMember b ms → (k : ℕ) × (k < length ms) × ((d : Member) → (get_or ms k d).board ≡ b)
member_at b [] is = absurd is
member_at b (x ∷ ms) (inl e) = (0, omega arith, λ d. e)
member_at b (x ∷ ms) (inr is) = let rest = member_at b ms is in let l = rest.1 in (suc rest.0, omega (arith, l), rest.2)

pub rise_first : (b : ℕ) (x : Member) (ms : List Member) → BoardsRise (x ∷ ms) → IsMember b ms → x.board < b
rise_first b x ms rise is =
    let at = member_at b ms is in
    let l = at.1 in
    let same = at.2 x in
    let up = rise 0 (suc at.0) x (omega arith) (omega (arith, l)) in
    omega (arith, up, same)

-- the round of the start
round_once : (m : Machine) (clocks : Clocks) (b start : ℕ) (axis : AxisDef) (timeout : ℕ) (xs : List Seen) → BoardsRise (MembersOf xs) → IsMember b (MembersOf xs)
    → StartsOnce (StartOf m b clocks start) (trigger_of m b) (commands_to m clocks b start axis (round_of (Starts timeout) xs))
round_once m clocks b start axis timeout [] rise is = absurd is
round_once m clocks b start axis timeout (x ∷ xs) rise (inl e) =
    let round = Starts timeout in
    let So : List Cmd → Type 0 = λ cs. StartsOnce (StartOf m b clocks start) (trigger_of m b) cs in
    let stops = commands_to m clocks b start axis (map (stop x) (take 8 (steppers x))) in
    let set = order_command m clocks b start axis (order.Timeout timeout) in
    let own : So (commands_to m clocks b start axis (orders_to round x)) =
    subst (λ (t : Bool). So (cond t (order_command m clocks b start axis order.Start ∷ []) [] ++ (cond t (set ∷ []) [] ++ stops))) (sym (eq-eqb x.member.board b e))
    (inl (refl, refl, tt, (tt, ctls_tame m clocks b start axis (map (stop x) (take 8 (steppers x))) (stops_tame b x (take 8 (steppers x)))))) in
    let others = ctls_tame m clocks b start axis (round_of round xs) (round_tame b round xs (λ is. let up = rise_first b x.member (MembersOf xs) rise is in omega (arith, up, e))) in
    subst So (sym (commands_both m clocks b start axis (orders_to round x) (round_of round xs)))
    (once_front (StartOf m b clocks start) (trigger_of m b) (commands_to m clocks b start axis (orders_to round x)) (commands_to m clocks b start axis (round_of round xs)) own others)
round_once m clocks b start axis timeout (x ∷ xs) rise (inr is) =
    let round = Starts timeout in
    let So : List Cmd → Type 0 = λ cs. StartsOnce (StartOf m b clocks start) (trigger_of m b) cs in
    let up = rise_first b x.member (MembersOf xs) rise is in
    let own = ctls_tame m clocks b start axis (orders_to round x) (to_tame b round x (λ e. omega (arith, up, e))) in
    subst So (sym (commands_both m clocks b start axis (orders_to round x) (round_of round xs)))
    (once_behind (StartOf m b clocks start) (trigger_of m b) (commands_to m clocks b start axis (orders_to round x)) (commands_to m clocks b start axis (round_of round xs)) own
    (round_once m clocks b start axis timeout xs (rise_behind x.member (MembersOf xs) rise) is))

-- the turn of that round
homing_once : (m : Machine) (all : List Clocks) (states : List State) (own : Clocks) (b k : ℕ) (h : Homing) → h.group.start ≡ h.start → h.start ≡ k + 251 → BoardsRise (members_of h.group) → IsMember b (members_of h.group)
    → StartsOnce (StartOf m b own h.start) (trigger_of m b) (homing_commands m (homing_turn all k states (Some h)) own b)
homing_once m all states own b k h together e rise is =
    let g = hears_all all states h in
    let So : List Cmd → Type 0 = λ cs. StartsOnce (StartOf m b own h.start) (trigger_of m b) cs in
    let members = states-kept all 0 h.start states h.group in
    let begins : g.group.start ≡ k + 251 = states_start all 0 h.start states h.group ∙ together ∙ e in
    let By : Option End → Type 0 = λ o. So (homing_commands m (by_answer k g o) own b) in
    let In : Phase → Type 0 = λ p. So (commands_to m own b g.start (axis_at m g.axis) (orders_of_group p g.group k)) in
    subst By (sym (not-yet k g.start g.group (omega (arith, e))))
    (subst In (sym (phase_starts g.group.start g.group.last k begins))
    (round_once m own b g.start (axis_at m g.axis) (first_timeout g.group.start g.group.last) g.group.members (subst BoardsRise (sym members) rise) (subst (IsMember b) (sym members) is)))

control_once : (m : Machine) (b : ℕ) (c : Came) (r : Known) (k : ℕ) (a : Asking) (x : Reacted) (t : BoardTurn) (h : Homing) → (r.phase ≡ Connecting → ⊥) → r.homing ≡ Some h → BoardTurned m r b k c.states a x t.control
    → ((own : Clocks) → StartsOnce (StartOf m b own h.start) (trigger_of m b) (homing_commands m (homing_turn r.clocks k c.states (Some h)) own b))
    → StartsOnce (StartOf m b (clocks_at r.clocks b) h.start) (trigger_of m b) t.control.commands
control_once m b c r k a x t h n is (Asks p g) once = absurd (n p)
control_once m b c r k a x t h n is (Ends p g) once = absurd (n p)
control_once m b c r k a x t h n is (Runs p g) once =
    let waits = waits_in (drifts (board_at m b).drift) k a in
    let commands = homing_commands m (homing_turn r.clocks k c.states r.homing) g.own b in
    let So : Clocks → List Cmd → Type 0 = λ own cs. StartsOnce (StartOf m b own h.start) (trigger_of m b) cs in
    let Home : Option Homing → Type 0 = λ y. So g.own (homing_commands m (homing_turn r.clocks k c.states y) g.own b) in
    let first : So (clocks_at r.clocks b) commands = subst (λ (own : Clocks). So own commands) (lines_at b r.clocks g.own g.own_is) (subst Home (sym is) (once g.own)) in
    subst (λ (y : Control). So (clocks_at r.clocks b) y.commands) (sym g.control_is)
    (once_front (StartOf m b (clocks_at r.clocks b) h.start) (trigger_of m b) commands (clock_question commands waits ++ stop_command (stops g.stop)) first (question_tame commands waits (stops g.stop)))

-- what is queued in it
pub record Split (ms : List Meant) : Type 0 where
  pub front : List Meant
  pub begin : Meant
  pub more : List Meant
  pub are : ms ≡ front ++ begin ∷ more
  pub starts : IsStart begin.command
  pub before : EachTame (commands_of front)
  pub behind : EachTame (commands_of more)

-- so that it is this command, and behind it the trigger's timeout is set
pub record Started (x : Cmd) (j : ℕ) (ms : List Meant) : Type 0 where
  pub split : Split ms
  pub is : split.begin.command ≡ x
  pub next : SetsFirst j (commands_of split.more)

once_split : (x : Cmd) (j : ℕ) (ms : List Meant) → StartsOnce x j (commands_of ms) → Started x j ms
once_split x j [] k = absurd k
once_split x j (m ∷ ms) (inl k) = record { split = record { front = []; begin = m; more = ms; are = refl; starts = k.2; before = tt; behind = k.3 }; is = k.0; next = k.1 }
once_split x j (m ∷ ms) (inr k) =
    let rest = once_split x j ms k.1 in
    let s = rest.split in
    record {
      split = record { front = m ∷ s.front; begin = s.begin; more = s.more; are = ap (λ (l : List Meant). m ∷ l) s.are; starts = s.starts; before = (k.0, s.before); behind = s.behind };
      is = rest.is;
      next = rest.next;
    }

pub turn_started : (m : Machine) (switches : List Switch) (pins : List (List Level)) (entries : List Entry) (b : ℕ) (c : Came) (before : List Came) (t : BoardTurn) (turns : List BoardTurn) (h : Homing)
    → IsInRun m switches pins entries b (c ∷ before) (t ∷ turns) → ((noted m c.note (known_by m switches before)).phase ≡ Connecting → ⊥) → (noted m c.note (known_by m switches before)).homing ≡ Some h
    → h.group.start ≡ h.start → h.start ≡ length before + 251 → IsMember b (members_of h.group)
    → Started (StartOf m b (clocks_at (noted m c.note (known_by m switches before)).clocks b) h.start) (trigger_of m b) (queued_in (orders t.control t.batch))
turn_started m switches pins entries b c before t turns h r n is together e among =
    let x = turn_of m switches pins entries b c before t turns r in
    let known = known_by m switches before in
    let now = noted m c.note known in
    let start = StartOf m b (clocks_at now.clocks b) h.start in
    let rises : HomingRises (Some h) = subst HomingRises is (noted_rises m c.note known (known_rises m switches before r.goes_on.1)) in
    let once = control_once m b c now (length before) x.a (last_reacted m switches c before) t h n is x.turned (λ own. homing_once m now.clocks c.states own b (length before) h together e rises among) in
    once_split start (trigger_of m b) (queued_in (orders t.control t.batch))
    (subst (λ (cs : List Cmd). StartsOnce start (trigger_of m b) cs) (sym (turn_commands t)) (once_front start (trigger_of m b) t.control.commands (commands_of (units_orders t.batch.units)) once (units_tame t.batch.units)))

pub turn_split : (m : Machine) (switches : List Switch) (pins : List (List Level)) (entries : List Entry) (b : ℕ) (c : Came) (before : List Came) (t : BoardTurn) (turns : List BoardTurn) (h : Homing)
    → IsInRun m switches pins entries b (c ∷ before) (t ∷ turns) → ((noted m c.note (known_by m switches before)).phase ≡ Connecting → ⊥) → (noted m c.note (known_by m switches before)).homing ≡ Some h
    → h.group.start ≡ h.start → h.start ≡ length before + 251 → IsMember b (members_of h.group) → Split (queued_in (orders t.control t.batch))
turn_split m switches pins entries b c before t turns h r n is together e among = (turn_started m switches pins entries b c before t turns h r n is together e among).split
