-- The timeouts that a board takes are those that the section's group sends.
use Rattle.std.proofs.Common.{◌≡◌, ℕ, suc, ◌+◌, ◌%◌, ◌^◌, ◌<◌, ◌≤◌, ◌==◌, inl, inr, Bool, true, false, cond, List, [], ◌∷◌, ◌++◌, length, map, drop, Option, Some, None, refl, ap, sym, ◌∙◌, subst, arith, append_assoc, append-nil, length-append}
use Rattle.std.specs.Prelude.{◌-◌, nat_le, if◌then◌else◌}
use Rattle.laws_board.proofs.Names.{eqb-true, leb_tells, take-append-drop, Level, AxisDef, Machine, nearest, board_tick, clock_of, Clocks, IsValidMachine, axis_at, board_at, clocks_at, turn_tick, Cmd, State, Control, Unit as StepUnit, dir_commands, reset_commands, step_command, Entry, Switch, Meant, commands_of, plain, unit_orders, units_orders, queued_in, first_state, orders, LinkState, Ctl, Member, Order, End, GroupState, Homing, answer_in, by_answer, command_to, commands_to, hears_all, homing_turn, order_command, Asking, asks_now, clock_question, drifts, waits_in, trigger_of, Known, Connecting, Reacted, homing_commands, stop_command, stops, Came, known_by, last_reacted}
use Rattle.plan_types.specs.Board.{ahead}
use Rattle.msg_code.specs.declared.cmd.Cmd.TheVariants as cmd
use Rattle.board_sim.specs.RigRuns.{IsTimely}
use Rattle.board_world.specs.Orders.{unit_ticks}
use Rattle.link_work.specs.Answers.{IsAmong}
use Rattle.trigger_group.specs.declared.order.Order.TheVariants as order
use Rattle.trigger_group.specs.declared.order.End.TheVariants as end
use Rattle.trigger_group.specs.Group.{orders as orders_of}
use Rattle.trigger_group.specs.Runs.{all_sent, sent_in}
use Rattle.trigger_group.proofs.Bounds.{AllWithin, Within, by_end}
use Rattle.laws_board.specs.turns.Turns.{AreBoardTurns, BoardTurn, stands_after}
use Rattle.laws_board.specs.clocks.Runs.{IsInRun}
use Rattle.laws_board.proofs.clocks.Clocked.{own_clocks}
use Rattle.laws_board.proofs.clocks.Lines.{as_long, noted_phase, run_before, turn_of}
use Rattle.laws_board.proofs.clocks.Turning.{Asks, BoardTurned, Ends, Runs}
use Rattle.laws_homing.proofs.clear_boards.Clocking.{lines_up}
use Rattle.laws_homing.specs.home_runs.Sections.{HomesFrom, queued_in_turns}
use Rattle.laws_homing.specs.home_runs.SetUps.{IsBoundIn, StopsAt}
use Rattle.laws_homing.specs.home_runs.Timeouts.{BeginsBy, EndsWith, SendsTimeout, TakesInTime, TakesSent, known_in}
use Rattle.laws_homing.proofs.clear_boards.Keeping.{hears_keep}
use Rattle.laws_homing.proofs.home_runs.Controlling.{connecting_not}
use Rattle.laws_homing.proofs.home_runs.Joining.{all_queued}
use Rattle.laws_homing.proofs.home_runs.Staging.{commands_both}
use Rattle.laws_homing.proofs.home_runs.Stopped.{run_limits}
use Rattle.laws_homing.proofs.home_runs.Stopping.{fits}
use Rattle.laws_homing.proofs.home_runs.Timing.{ReadsAtMost}
use Rattle.laws_homing.proofs.home_runs.Whole.{turn_commands}
use Rattle.laws_homing.proofs.home_runs.Windows.{ordered_after}

-- a timeout that is set for a trigger is of a tick of which this holds; and so all in some commands
abbrev IsSent : ℕ → (ℕ → Type 0) → Cmd → Type 0
IsSent j P (cmd.TrsyncSetTimeout oid clock) = oid ≡ j → (tick : ℕ) × P tick × (clock ≡ tick % 2 ^ 32)
IsSent j P c = Unit {0}

abbrev AreSent : ℕ → (ℕ → Type 0) → List Cmd → Type 0
AreSent j P [] = Unit {0}
AreSent j P (c ∷ cs) = IsSent j P c × AreSent j P cs

sent_both : (j : ℕ) (P : ℕ → Type 0) (xs ys : List Cmd) → AreSent j P xs → AreSent j P ys → AreSent j P (xs ++ ys)
sent_both j P [] ys a b = b
sent_both j P (x ∷ xs) ys a b = (a.0, sent_both j P xs ys a.1 b)

sent_at : (j : ℕ) (P : ℕ → Type 0) (front : List Meant) (m : Meant) (behind : List Meant)
    → AreSent j P (commands_of (front ++ m ∷ behind)) → IsSent j P m.command
sent_at j P [] m behind a = a.0
sent_at j P (x ∷ front) m behind a = sent_at j P front m behind a.1

one_more : (j : ℕ) (P Q : ℕ → Type 0) (c : Cmd) → ((n : ℕ) → P n → Q n) → IsSent j P c → IsSent j Q c
one_more j P Q (cmd.TrsyncSetTimeout oid clock) f a = λ e. let x = a e in (x.0, f x.0 x.1, x.2)
one_more j P Q c f a = tt

sent_more : (j : ℕ) (P Q : ℕ → Type 0) (cs : List Cmd) → ((n : ℕ) → P n → Q n) → AreSent j P cs → AreSent j Q cs
sent_more j P Q [] f a = tt
sent_more j P Q (c ∷ cs) f a = (one_more j P Q c f a.0, sent_more j P Q cs f a.1)

-- a timeout that is taken less than half a round of the clock after its tick is read as this tick at most
congruent : (now tick : ℕ) → (now + ahead now (tick % 2 ^ 32)) % 2 ^ 32 ≡ tick % 2 ^ 32
congruent now tick = omega arith

pub nearest_low : (now tick : ℕ) → now < tick + 2 ^ 31 → nearest now (tick % 2 ^ 32) ≤ tick
nearest_low now tick soon = by (ahead now (tick % 2 ^ 32)) (congruent now tick) (omega arith)
  where
    by : (a : ℕ) → (now + a) % 2 ^ 32 ≡ tick % 2 ^ 32 → a < 2 ^ 32
        → (if nat_le a (2 ^ 31) then now + a else (if nat_le (2 ^ 32) (now + a) then now + a - 2 ^ 32 else now + a)) ≤ tick
    by a same few = elim (leb_tells a (2 ^ 31)) [
      | inl p ↦ rw p.0 (let l = p.1 in omega (arith, same, l, soon))
      | inr p ↦ rw p.0 (elim (leb_tells (2 ^ 32) (now + a)) [
        | inl q ↦ rw q.0 (let l = q.1 in omega (arith, same, few, l, soon))
        | inr q ↦ rw q.0 (let l = q.1 in omega (arith, same, l))
      ])
    ]

reads_low : (now j most : ℕ) (P : ℕ → Type 0) (c : Cmd) → IsSent j P c → ((tick : ℕ) → P tick → tick ≤ most)
    → ((tick : ℕ) → c ≡ cmd.TrsyncSetTimeout j (tick % 2 ^ 32) → P tick → now < tick + 2 ^ 31) → IsTimely now j most c
reads_low now j most P (cmd.TrsyncSetTimeout oid clock) sent low soon = λ e.
    let x = sent e in
    let is : cmd.TrsyncSetTimeout oid clock ≡ cmd.TrsyncSetTimeout j (x.0 % 2 ^ 32) =
    ap (λ (n : ℕ). cmd.TrsyncSetTimeout n clock) e ∙ ap (λ (n : ℕ). cmd.TrsyncSetTimeout j n) x.2 in
    let near = nearest_low now x.0 (soon x.0 is x.1) in
    let bound = low x.0 x.1 in
    subst (λ (n : ℕ). nearest now n ≤ most) (sym x.2) (omega (arith, near, bound))
reads_low now j most P c sent low soon = tt

-- the commands of a group's orders
abbrev timeout_to : ℕ → ℕ → Ctl
timeout_to b turn = record { board = b; what = order.Timeout turn }

order_sent : (m : Machine) (clocks : Clocks) (b start : ℕ) (axis : AxisDef) (what : Order) (P : ℕ → Type 0)
    → ((turn : ℕ) → what ≡ order.Timeout turn → P (turn_tick clocks turn))
    → IsSent (trigger_of m b) P (order_command m clocks b start axis what)
order_sent m clocks b start axis (order.Timeout turn) P f = λ e. (turn_tick clocks turn, f turn refl, refl)
order_sent m clocks b start axis c P f = tt

ctl_sent : (m : Machine) (clocks : Clocks) (b start : ℕ) (axis : AxisDef) (c : Ctl) (P : ℕ → Type 0) (here : Bool)
    → (c.board == b) ≡ here → ((turn : ℕ) → c ≡ timeout_to b turn → P (turn_tick clocks turn))
    → AreSent (trigger_of m b) P (cond here (order_command m clocks b start axis c.what ∷ []) [])
ctl_sent m clocks b start axis c P false e f = tt
ctl_sent m clocks b start axis c P true e f =
    let on : c.board ≡ b = eqb-true c.board b e in (
      order_sent m clocks b start axis c.what P (λ turn is. f turn (both c turn on is)),
      tt,
    )
  where
    both : (d : Ctl) (turn : ℕ) → d.board ≡ b → d.what ≡ order.Timeout turn → d ≡ timeout_to b turn
    both d turn x y = ap (λ (n : ℕ). record { board = n; what = d.what }) x ∙ ap (λ (o : Order). record { board = b; what = o }) y

ctls_sent : (m : Machine) (clocks : Clocks) (b start : ℕ) (axis : AxisDef) (ctls : List Ctl) (P : ℕ → Type 0)
    → ((turn : ℕ) → IsAmong (timeout_to b turn) ctls → P (turn_tick clocks turn))
    → AreSent (trigger_of m b) P (commands_to m clocks b start axis ctls)
ctls_sent m clocks b start axis [] P f = tt
ctls_sent m clocks b start axis (c ∷ ctls) P f =
    sent_both (trigger_of m b) P (command_to m clocks b start axis c) (commands_to m clocks b start axis ctls)
    (ctl_sent m clocks b start axis c P (c.board == b) refl (λ turn e. f turn (inl e)))
    (ctls_sent m clocks b start axis ctls P (λ turn a. f turn (inr a)))

question_sent : (j : ℕ) (P : ℕ → Type 0) (commands : List Cmd) (a : Asking) (s : Bool)
    → AreSent j P (clock_question commands a ++ stop_command s)
question_sent j P commands a s = both (asks_now commands a) s
  where
    both : (x y : Bool) → AreSent j P (cond x (cmd.GetUptime ∷ []) [] ++ stop_command y)
    both true true = (tt, (tt, tt))
    both true false = (tt, tt)
    both false true = (tt, tt)
    both false false = tt

-- the commands of units
unit_sent : (j : ℕ) (P : ℕ → Type 0) (u : StepUnit) → AreSent j P (commands_of (unit_orders u))
unit_sent j P u = one u.reset u.up
  where
    one : (r : Option ℕ) (d : Option Bool) → AreSent j P (commands_of (map plain (reset_commands u.stepper r)
        ++ (map plain (dir_commands u.stepper d) ++ record { command = step_command u; ticks = unit_ticks u } ∷ [])))
    one None None = (tt, tt)
    one None (Some d) = (tt, (tt, tt))
    one (Some r) None = (tt, (tt, tt))
    one (Some r) (Some d) = (tt, (tt, (tt, tt)))

units_sent : (j : ℕ) (P : ℕ → Type 0) (us : List StepUnit) → AreSent j P (commands_of (units_orders us))
units_sent j P [] = tt
units_sent j P (u ∷ us) =
    subst (λ (l : List Cmd). AreSent j P l) (sym (commands_both (unit_orders u) (units_orders us)))
    (sent_both j P (commands_of (unit_orders u)) (commands_of (units_orders us)) (unit_sent j P u) (units_sent j P us))

-- what a group sends in each turn from a number on is of a turn up to this one
abbrev pub AllWithinFrom : Machine → List Switch → ℕ → ℕ → List Came → Type 0
AllWithinFrom m switches from turn [] = Unit {0}
AllWithinFrom m switches from turn (c ∷ before) =
    (from ≤ length before → (h : Homing) → (known_in m switches c before).homing ≡ Some h
    → AllWithin turn (all_sent (length before) ([] ∷ []) (hears_all (known_in m switches c before).clocks c.states h).group))
    × AllWithinFrom m switches from turn before

-- a number of turns from which a section is known
module _ (m : Machine) (switches : List Switch) (pins : List (List Level)) (entries : List Entry) (b from : ℕ) where
  abbrev First : LinkState
  First = first_state (board_at m b) pins b entries

  abbrev Sent : List Came → ℕ → Type 0
  Sent came tick = SendsTimeout m switches b from tick came

  control_sent : (c : Came) (before : List Came) (r : Known) (a : Asking) (x : Reacted) (t : BoardTurn)
      → r ≡ known_in m switches c before → from ≤ length before → (r.phase ≡ Connecting → ⊥)
      → BoardTurned m r b (length before) c.states a x t.control
      → AreSent (trigger_of m b) (Sent (c ∷ before)) t.control.commands
  control_sent c before r a x t same late n (Asks p g) = absurd (n p)
  control_sent c before r a x t same late n (Ends p g) = absurd (n p)
  control_sent c before r a x t same late n (Runs p g) =
      let j = trigger_of m b in
      let k = length before in
      let turn = homing_turn r.clocks k c.states r.homing in
      let waits = waits_in (drifts (board_at m b).drift) k a in
      let commands = homing_commands m turn g.own b in
      let own : g.own ≡ clocks_at (known_in m switches c before).clocks b =
      own_clocks b r.clocks g.own _ g.own_is ∙ ap (λ (y : Known). clocks_at y.clocks b) same in
      let Ctls : Known → List Ctl = λ y. (homing_turn y.clocks k c.states y.homing).ctls.items in
      let home = ctls_sent m g.own b turn.start (axis_at m turn.axis) turn.ctls.items (Sent (c ∷ before))
      (λ timeout among. inl (
        late,
        record {
          turn = timeout;
          sent = subst (λ (y : Known). IsAmong (timeout_to b timeout) (Ctls y)) same among;
          at = ap (λ (y : Clocks). turn_tick y timeout) own;
        },
      )) in
      subst (λ (y : Control). AreSent j (Sent (c ∷ before)) y.commands) (sym g.control_is)
      (sent_both j (Sent (c ∷ before)) commands (clock_question commands waits ++ stop_command (stops g.stop)) home
      (question_sent j (Sent (c ∷ before)) commands waits (stops g.stop)))

  turn_sent : (c : Came) (before : List Came) (t : BoardTurn) (turns : List BoardTurn)
      → IsInRun m switches pins entries b (c ∷ before) (t ∷ turns) → from ≤ length before
      → ((known_by m switches before).phase ≡ Connecting → ⊥)
      → AreSent (trigger_of m b) (Sent (c ∷ before)) (commands_of (queued_in (orders t.control t.batch)))
  turn_sent c before t turns r late n =
      let j = trigger_of m b in
      let x = turn_of m switches pins entries b c before t turns r in
      let known = known_by m switches before in
      let now = known_in m switches c before in
      let control = control_sent c before now x.a (last_reacted m switches c before) t refl late
      (connecting_not now known (noted_phase m c.note known) n) x.turned in
      subst (λ (l : List Cmd). AreSent j (Sent (c ∷ before)) l) (sym (turn_commands t))
      (sent_both j (Sent (c ∷ before)) t.control.commands (commands_of (units_orders t.batch.units)) control
      (units_sent j (Sent (c ∷ before)) t.batch.units))

  -- what is queued in the section
  record QueuedSent (came : List Came) (later early : List BoardTurn) : Type 0 where
    new : List Meant
    is : queued_in_turns (later ++ early) ≡ queued_in_turns early ++ new
    sent : AreSent (trigger_of m b) (Sent came) (commands_of new)

  queued_sent : (start : ℕ) (ms : List Member) (came : List Came) (later early : List BoardTurn)
      → IsInRun m switches pins entries b came (later ++ early) → HomesFrom m switches from start ms came
      → length early ≡ from → QueuedSent came later early
  queued_sent start ms came [] early r homes long = record { new = []; is = sym (append-nil (queued_in_turns early)); sent = tt }
  queued_sent start ms [] (t ∷ later) early r homes long = absurd r.both
  queued_sent start ms (c ∷ before) (t ∷ later) early r homes long =
      let j = trigger_of m b in
      let turns = later ++ early in
      let past = queued_sent start ms before later early (run_before m switches pins entries b c before t turns r) homes.1 long in
      let same = as_long m switches b before turns r.both.2 in
      let both = length-append later early in
      let late : from ≤ length before = omega (arith, both, long, same) in
      let new = queued_in (orders t.control t.batch) in
      record {
        new = past.new ++ new;
        is = ap (λ (l : List Meant). l ++ new) past.is ∙ append_assoc (queued_in_turns early) past.new new;
        sent = subst (λ (l : List Cmd). AreSent j (Sent (c ∷ before)) l) (sym (commands_both past.new new))
            (sent_both j (Sent (c ∷ before)) (commands_of past.new) (commands_of new)
            (sent_more j (Sent before) (Sent (c ∷ before)) (commands_of past.new) (λ n x. inr x) past.sent)
            (turn_sent c before t turns r late (homes.0 late).0));
      }

  -- what is taken was queued
  taken_of : (turns : List BoardTurn) → AreBoardTurns (clock_of (board_at m b)) First turns
      → (left : List Meant) × ((stands_after First turns).core.taken ++ left ≡ queued_in_turns turns)
  taken_of turns are =
      let d = board_at m b in
      let h = (stands_after First turns).core in
      let o = ordered_after d pins b entries turns are in
      let left = drop (length h.link.taken) h.queued in
      (left, ap (λ (x : List Meant). x ++ left) o.first ∙ take-append-drop (length h.link.taken) h.queued ∙ all_queued d pins b entries turns are)

  reads_early : (own : ℕ → ℕ) (j most n : ℕ) (turns : List BoardTurn)
      → AreBoardTurns (clock_of (board_at m b)) First turns
      → length (queued_in_turns turns) ≤ n → ReadsAtMost own j most n First turns
  reads_early own j most n [] are few = tt
  reads_early own j most n (t ∷ before) are few =
      let new = queued_in (orders t.control t.batch) in
      let more = length-append (queued_in_turns before) new in
      let x = taken_of (t ∷ before) are in
      let whole = ap length x.1 in
      let parts = length-append t.after.core.taken x.0 in (
        λ front one behind e low far.
            let size = ap length e in
            let sum = length-append front (one ∷ behind) in
            absurd (too_many (length front) (length behind) (length t.after.core.taken) (length x.0) n (length (queued_in_turns (t ∷ before))) size sum parts whole few far),
        reads_early own j most n before are.1 (omega (arith, few, more)),
      )
    where
      too_many : (f k taken left n queued : ℕ) {sum all : ℕ} → taken ≡ sum → sum ≡ f + suc k → all ≡ taken + left
          → all ≡ queued → queued ≤ n → n ≤ f → ⊥
      too_many f k taken left n queued a p q e l o = omega arith

  pub reads : (own : ℕ → ℕ) (most start : ℕ) (ms : List Member) (came : List Came) (later early : List BoardTurn)
      → IsInRun m switches pins entries b came (later ++ early) → HomesFrom m switches from start ms came
      → length early ≡ from
      → ((tick : ℕ) → Sent came tick → tick ≤ most)
      → TakesInTime own (trigger_of m b) (length (queued_in_turns early)) (Sent came) First (later ++ early)
      → ReadsAtMost own (trigger_of m b) most (length (queued_in_turns early)) First (later ++ early)
  reads own most start ms came [] early r homes long low soon = reads_early own (trigger_of m b) most (length (queued_in_turns early)) early r.turns_are (omega arith)
  reads own most start ms [] (t ∷ later) early r homes long low soon = absurd r.both
  reads own most start ms (c ∷ before) (t ∷ later) early r homes long low soon =
      let j = trigger_of m b in
      let turns = later ++ early in
      let q = queued_sent start ms (c ∷ before) (t ∷ later) early r homes long in
      let x = taken_of (t ∷ turns) r.turns_are in (
        λ front one behind e some far.
            let all : queued_in_turns early ++ q.new ≡ front ++ one ∷ (behind ++ x.0) =
            sym q.is ∙ sym x.1 ∙ ap (λ (l : List Meant). l ++ x.0) e ∙ append_assoc front (one ∷ behind) x.0 in
            let f = fits (queued_in_turns early) q.new front (one ∷ (behind ++ x.0)) all far in
            let here = subst (λ (l : List Meant). AreSent j (Sent (c ∷ before)) (commands_of l)) f.2 q.sent in
            reads_low (own (length turns)) j most (Sent (c ∷ before)) one.command
            (sent_at j (Sent (c ∷ before)) f.0 one (behind ++ x.0) here) low
            (λ tick is sent. soon.0 front one behind tick e some far is sent),
        reads own most start ms before later early (run_before m switches pins entries b c before t turns r) homes.1 long
            (λ tick sent. low tick (inr sent)) (weaker own (length (queued_in_turns early)) turns (Sent before) (Sent (c ∷ before)) (λ tick sent. inr sent) soon.1),
      )
    where
      weaker : (own : ℕ → ℕ) (n : ℕ) (turns : List BoardTurn) (P Q : ℕ → Type 0) → ((tick : ℕ) → P tick → Q tick)
          → TakesInTime own (trigger_of m b) n Q First turns → TakesInTime own (trigger_of m b) n P First turns
      weaker own n [] P Q f k = tt
      weaker own n (t ∷ turns) P Q f k =
          (λ front one behind tick e some far is sent. k.0 front one behind tick e some far is (f tick sent), weaker own n turns P Q f k.1)

  -- the ticks that are sent
  ctls_within : (turn n : ℕ) (ctls : List Ctl) → Within n ctls → IsAmong (timeout_to b turn) ctls → turn ≤ n
  ctls_within turn n [] w a = absurd a
  ctls_within turn n (c ∷ ctls) w (inl e) = w.0 turn (ap (λ (x : Ctl). x.what) e)
  ctls_within turn n (c ∷ ctls) w (inr a) = ctls_within turn n ctls w.1 a

  ordered_within : (k n : ℕ) (h : Homing) (o : Option End) → Within n (orders_of h.group k)
      → Within n (by_answer k h o).ctls.items
  ordered_within k n h None w = w
  ordered_within k n h (Some (end.Endstop tick)) w = tt
  ordered_within k n h (Some end.NoSwitch) w = tt
  ordered_within k n h (Some (end.Expired board turn)) w = tt

  sent_within : (k n : ℕ) (g : GroupState) → AllWithin n (all_sent k ([] ∷ []) g) → Within n (orders_of g k)
  sent_within k n g w = each (orders_of g k) w
    where
      each : (cs : List Ctl) → AllWithin n (map (sent_in k) cs ++ []) → Within n cs
      each [] a = tt
      each (c ∷ cs) a = (a.0, each cs a.1)

  turn_within : (clocks : List Clocks) (k n turn : ℕ) (states : List State) (o : Option Homing)
      → ((h : Homing) → o ≡ Some h → AllWithin n (all_sent k ([] ∷ []) (hears_all clocks states h).group))
      → IsAmong (timeout_to b turn) (homing_turn clocks k states o).ctls.items → turn ≤ n
  turn_within clocks k n turn states None w a = absurd a
  turn_within clocks k n turn states (Some h) w a =
      let g = hears_all clocks states h in
      ctls_within turn n (by_answer k g (answer_in k g.start g.group)).ctls.items
      (ordered_within k n g (answer_in k g.start g.group) (sent_within k n g.group (w h refl))) a

  tick_up : (clocks : Clocks) (j k : ℕ) → j ≤ k → turn_tick clocks j ≤ turn_tick clocks k
  tick_up clocks j k l = let up = lines_up clocks j k l in omega (arith, up)

  pub sent_by : (turn most : ℕ) (came : List Came) → AllWithinFrom m switches from turn came
      → BeginsBy m switches b from turn most came
      → (tick : ℕ) → Sent came tick → tick ≤ most
  sent_by turn most [] within begins tick sent = absurd sent
  sent_by turn most (c ∷ before) within begins tick (inl x) =
      let r = known_in m switches c before in
      let low = turn_within r.clocks (length before) turn x.1.turn c.states r.homing (within.0 x.0) x.1.sent in
      let up = tick_up (clocks_at r.clocks b) x.1.turn turn low in
      let begin = begins.0 x.0 in
      let at = x.1.at in
      omega (arith, up, begin, at)
  sent_by turn most (c ∷ before) within begins tick (inr sent) = sent_by turn most before within.1 begins.1 tick sent

  pub ends_within : (last : ℕ) (came : List Came) → EndsWith m switches from last came
      → AllWithinFrom m switches from (last + 1) came
  ends_within last [] ends = tt
  ends_within last (c ∷ before) ends = (
    λ late h is. (
        let clocks = (known_in m switches c before).clocks in
        let g = (hears_all clocks c.states h).group in
        let same : g.last ≡ last = (hears_keep clocks c.states h).last ∙ ends.0 late h is in
        subst (λ (n : ℕ). AllWithin (n + 1) (all_sent (length before) ([] ∷ []) g)) same (by_end ([] ∷ []) (length before) g)),
    ends_within last before ends.1,
  )

-- a stepper that is bound behind a timeout of the section stops at the last one that is sent
pub stops_under : (m : Machine) (switches : List Switch) (pins : List (List Level)) (entries : List Entry) (b s : ℕ)
    (came : List Came)
    (later : List BoardTurn) (t : BoardTurn) (between early : List BoardTurn) (from start turn most : ℕ) (ms : List Member) → IsValidMachine m
    → IsBoundIn m switches pins entries b s came later t between early from start ms
    → TakesSent m switches pins entries b came (later ++ t ∷ (between ++ early)) early
    → AllWithinFrom m switches from turn came → BeginsBy m switches b from turn most came
    → StopsAt m pins entries b s most (later ++ t ∷ (between ++ early)) (between ++ early)
stops_under m switches pins entries b s came later t between early from start turn most ms v x soon within begins =
    let own = board_tick (clock_of (board_at m b)) in
    let n = length (queued_in_turns early) in
    let first = first_state (board_at m b) pins b entries in
    let same : (later ++ t ∷ between) ++ early ≡ later ++ t ∷ (between ++ early) = append_assoc later (t ∷ between) early in
    let In : List BoardTurn → Type 0 = λ l. TakesInTime own (trigger_of m b) n (λ tick. SendsTimeout m switches b (length early) tick came) first l in
    let late : TakesInTime own (trigger_of m b) n (λ tick. SendsTimeout m switches b from tick came) first ((later ++ t ∷ between) ++ early) =
    subst (λ (f : ℕ). TakesInTime own (trigger_of m b) n (λ tick. SendsTimeout m switches b f tick came) first ((later ++ t ∷ between) ++ early)) x.long
    (subst In (sym same) soon) in
    let read = reads m switches pins entries b from own most start ms came (later ++ t ∷ between) early
    (subst (IsInRun m switches pins entries b came) (sym same) x.run_is) x.homes x.long (sent_by m switches pins entries b from turn most came within begins) late in
    run_limits m switches pins entries b s came later t between early from start ms v x most (subst (ReadsAtMost own (trigger_of m b) most n first) same read)

pub stops_by_end : (m : Machine) (switches : List Switch) (pins : List (List Level)) (entries : List Entry) (b s : ℕ)
    (came : List Came)
    (later : List BoardTurn) (t : BoardTurn) (between early : List BoardTurn) (from start last most : ℕ) (ms : List Member) → IsValidMachine m
    → IsBoundIn m switches pins entries b s came later t between early from start ms
    → TakesSent m switches pins entries b came (later ++ t ∷ (between ++ early)) early
    → EndsWith m switches from last came → BeginsBy m switches b from (last + 1) most came
    → StopsAt m pins entries b s most (later ++ t ∷ (between ++ early)) (between ++ early)
stops_by_end m switches pins entries b s came later t between early from start last most ms v x soon ends begins =
    stops_under m switches pins entries b s came later t between early from start (last + 1) most ms v x soon
    (ends_within m switches pins entries b from last came ends) begins
