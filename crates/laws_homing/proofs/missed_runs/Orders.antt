-- What a board is sent while a homing section is known: no order to trigger but the relays of the section's group, and readings of the endstop alone.
use Rattle.std.proofs.Common.{◌≡◌, ℕ, ◌+◌, ◌-◌, ◌*◌, ◌%◌, ◌^◌, ◌==◌, ◌≤◌, inl, inr, Bool, true, false, cond, List, [], ◌∷◌, ◌++◌, map, take, drop, length, Option, Some, None, refl, sym, ◌∙◌, subst, arith, rules}
use Rattle.std.specs.Prelude.{nat_lt}
use Rattle.laws_board.proofs.Names.{eqb-true, eqb_tells, Level, AxisDef, Machine, Clocks, axis_at, board_at, clocks_at, Cmd, State, Control, Unit as StepUnit, dir_commands, reset_commands, step_command, Entry, Switch, plain, unit_orders, units_orders, Asking, asks_now, clock_question, drifts, waits_in, queued_in, orders, Ctl, End, Member, Order, Goes, Rests, Sends, Homes, Starts, Fired, Seen, GroupState, all_fired, first_timeout, phase, relay_in, relays_in, round_of, steppers, Homing, answer_in, by_answer, command_to, commands_to, hears_all, homing_turn, order_command, members_of, Known, Connecting, noted, Reacted, homing_commands, stop_command, stops, Came, known_by, last_reacted, states-kept}
use Rattle.msg_code.specs.declared.cmd.Cmd.TheVariants as cmd
use Rattle.msg_code.specs.Units.{bit}
use Rattle.board_world.specs.Orders.{unit_ticks}
use Rattle.trigger_group.specs.declared.order.End.TheVariants as end
use Rattle.trigger_group.specs.declared.order.Order.TheVariants as order
use Rattle.trigger_group.specs.declared.round.Phase.{Phase}
use Rattle.trigger_group.specs.declared.round.Round.{Round}
use Rattle.trigger_group.specs.declared.round.Round.TheVariants.{Relays, Resets, Timeouts}
use Rattle.trigger_group.specs.Group.{goes, limit, orders as group_orders, orders_of_group, orders_to, reset, stop, to_board, unless_fired}
use Rattle.laws_board.specs.turns.Turns.{BoardTurn}
use Rattle.laws_board.specs.clocks.Runs.{IsInRun}
use Rattle.laws_board.proofs.clocks.Answers.{Each, each_both}
use Rattle.laws_board.proofs.clocks.Lines.{noted_phase, turn_of}
use Rattle.laws_board.proofs.clocks.Turning.{Asks, BoardTurned, Ends, Runs}
use Rattle.laws_homing.proofs.clear_groups.Starting.{MembersOf}
use Rattle.laws_homing.specs.missed_groups.Ticks.{IsReader}
use Rattle.laws_homing.proofs.switch_runs.Ordering.{lines_at}
use Rattle.laws_homing.proofs.missed_runs.Meek.{AllSo, IsOf, so_both}

-- a command starts, times and tells no trigger, and begins no readings
abbrev pub IsFree : Cmd → Type 0
IsFree (cmd.TrsyncStart oid clock every reason) = ⊥
IsFree (cmd.TrsyncSetTimeout oid clock) = ⊥
IsFree (cmd.TrsyncTrigger oid reason) = ⊥
IsFree (cmd.EndstopHome oid clock sample count rest value other reason) = ⊥
IsFree c = Unit {0}

-- the group of a section that is known, as it has heard what came
abbrev pub heard_group : Known → List State → Homing → GroupState
heard_group r states h = (hears_all r.clocks states h).group

-- by what holds of a group's orders to a board, what holds of all that comes to it
module _ (O : Order → Type 0) (C : Cmd → Type 0) (b : ℕ) (frees : (c : Cmd) → IsFree c → C c) (resets_so : (i : ℕ) → O (order.Reset i)) (stops_so : (i : ℕ) → O (order.Stop i)) (start_so : O order.Start) where
  abbrev CtlsOf : List Ctl → Type 0
  CtlsOf [] = Unit {0}
  CtlsOf (c ∷ cs) = (c.board ≡ b → O c.what) × CtlsOf cs

  ctls_both : (xs ys : List Ctl) → CtlsOf xs → CtlsOf ys → CtlsOf (xs ++ ys)
  ctls_both [] ys a k = k
  ctls_both (x ∷ xs) ys a k = (a.0, ctls_both xs ys a.1 k)

  ctls_if : (c : Bool) (xs : List Ctl) → (c ≡ true → CtlsOf xs) → CtlsOf (cond c xs [])
  ctls_if true xs a = a refl
  ctls_if false xs a = tt

  ctls_unless : (c : Bool) (xs : List Ctl) → CtlsOf xs → CtlsOf (cond c [] xs)
  ctls_unless true xs a = tt
  ctls_unless false xs a = a

  resets_are : (x : Seen) (ks : List ℕ) → CtlsOf (map (reset x) ks)
  resets_are x [] = tt
  resets_are x (k ∷ ks) = (λ e. resets_so k, resets_are x ks)

  stops_are : (x : Seen) (ks : List ℕ) → CtlsOf (map (stop x) ks)
  stops_are x [] = tt
  stops_are x (k ∷ ks) = (λ e. stops_so k, stops_are x ks)

  fired_are : (o : Option Fired) (xs : List Ctl) → CtlsOf xs → CtlsOf (unless_fired o xs)
  fired_are None xs a = a
  fired_are (Some f) xs a = tt

  abbrev RoundOf : Round → Type 0
  RoundOf (Starts timeout) = O (order.Timeout timeout)
  RoundOf (Timeouts turn) = O (order.Timeout turn)
  RoundOf Relays = O order.Trigger
  RoundOf round = Unit {0}

  to_are : (round : Round) (x : Seen) → (x.member.board ≡ b → x.member.endstop ≡ true → O order.Home) → RoundOf round → CtlsOf (orders_to round x)
  to_are round x p2 p3 = search (rules, resets_are, steppers, stops_are, ctls_both, ctls_if, fired_are)

  round_are : (round : Round) (xs : List Seen) → (IsReader b (MembersOf xs) → O order.Home) → RoundOf round → CtlsOf (round_of round xs)
  round_are round [] f k = tt
  round_are round (x ∷ xs) f k = ctls_both (orders_to round x) (round_of round xs) (to_are round x (λ e is. f (inl (e, is))) k) (round_are round xs (λ i. f (inr i)) k)

  -- what the group is to do in a phase: a timeout, where it grows, and the relays
  abbrev pub PhaseOf : GroupState → ℕ → Phase → Type 0
  PhaseOf g turn (Sends round) = RoundOf round
  PhaseOf g turn Goes = (nat_lt g.sent (limit g) ≡ true → O (order.Timeout (limit g))) × (relays_in (relay_in g turn) turn ≡ true → O order.Trigger)
  PhaseOf g turn Rests = Unit {0}

  goes_are : (g : GroupState) (turn : ℕ) → (IsReader b (members_of g) → O order.Home) → PhaseOf g turn Goes → CtlsOf (goes g turn)
  goes_are g turn f k = search (rules, ctls_both, nat_lt, round_of, relays_in, relay_in, ctls_if, round_are)

  in_are : (p : Phase) (g : GroupState) (turn : ℕ) → (IsReader b (members_of g) → O order.Home) → PhaseOf g turn p → CtlsOf (orders_of_group p g turn)
  in_are (Sends round) g turn f q = round_are round g.members f q
  in_are Goes g turn f q = ctls_unless (all_fired g.members) (goes g turn) (goes_are g turn f q)
  in_are Rests g turn f q = tt

  if_of : (g : GroupState) (turn : ℕ) (c : Bool) (x y : Phase) → (c ≡ true → PhaseOf g turn x) → PhaseOf g turn y → PhaseOf g turn (cond c x y)
  if_of g turn true x y f q = f refl
  if_of g turn false x y f q = q

  phase_of : (g : GroupState) (k : ℕ) → ((g.start - k == 251) ≡ true → O (order.Timeout (first_timeout g.start g.last))) → ((g.start - k == 0) ≡ true → PhaseOf g k Goes) → PhaseOf g k (phase g.start g.last k)
  phase_of g k first on = search (rules, if_of, first_timeout)

  -- their commands
  ctls_are : (m : Machine) (clocks : Clocks) (start : ℕ) (axis : AxisDef) (ctls : List Ctl) → ((what : Order) → O what → C (order_command m clocks b start axis what)) → CtlsOf ctls → Each C (commands_to m clocks b start axis ctls)
  ctls_are m clocks start axis [] so a = tt
  ctls_are m clocks start axis (c ∷ ctls) so a =
      each_both C (command_to m clocks b start axis c) (commands_to m clocks b start axis ctls)
      (elim (eqb_tells c.board b) [
        | inl p ↦ rw p.0 (so c.what (a.0 p.1), tt)
        | inr p ↦ rw p.0 tt
      ])
      (ctls_are m clocks start axis ctls so a.1)

  answer_is : (m : Machine) (k : ℕ) (own : Clocks) (h : Homing) (o : Option End) → ((what : Order) → O what → C (order_command m own b h.start (axis_at m h.axis) what)) → CtlsOf (group_orders h.group k) → Each C (homing_commands m (by_answer k h o) own b)
  answer_is m k own h o p5 p6 = search (rules, ctls_are, axis_at, by_answer)

  stop_is : (s : Bool) → Each C (stop_command s)
  stop_is true = (frees cmd.EmergencyStop tt, tt)
  stop_is false = tt

  asks_is : (t : Bool) → Each C (cond t (cmd.GetUptime ∷ []) [])
  asks_is true = (frees cmd.GetUptime tt, tt)
  asks_is false = tt

  -- its orders are so, and their commands, by the clock lines that are known
  pub record AreSent (m : Machine) (r : Known) (k : ℕ) (states : List State) (h : Homing) : Type 0 where
    pub commands : (what : Order) → O what → C (order_command m (clocks_at r.clocks b) b h.start (axis_at m h.axis) what)
    pub homes : IsReader b (members_of h.group) → O order.Home
    pub first : (heard_group r states h).start ≡ k + 251 → O (order.Timeout (first_timeout (heard_group r states h).start (heard_group r states h).last))
    pub on : (heard_group r states h).start ≤ k → PhaseOf (heard_group r states h) k Goes

  control_is : (m : Machine) (k : ℕ) (r : Known) (states : List State) (a : Asking) (x : Reacted) (c : Control) (h : Homing) → (r.phase ≡ Connecting → ⊥) → r.homing ≡ Some h → BoardTurned m r b k states a x c → AreSent m r k states h → Each C c.commands
  control_is m k r states a x c h open_it is (Asks p g) s = absurd (open_it p)
  control_is m k r states a x c h open_it is (Ends p g) s = absurd (open_it p)
  control_is m k r states a x c h open_it is (Runs p g) s =
      let waits = waits_in (drifts (board_at m b).drift) k a in
      let commands = homing_commands m (homing_turn r.clocks k states r.homing) g.own b in
      let rest = clock_question commands waits ++ stop_command (stops g.stop) in
      let heard = hears_all r.clocks states h in
      let members = states-kept r.clocks 0 h.start states h.group in
      let reads : IsReader b (members_of heard.group) → O order.Home = λ i. s.homes (subst (λ (l : List Member). IsReader b l) members i) in
      let left = heard.group.start - k in
      let of_phase = phase_of heard.group k (λ e. s.first (let n = eqb-true left 251 e in omega (arith, n))) (λ e. s.on (let n = eqb-true left 0 e in omega (arith, n))) in
      let sent = in_are (phase heard.group.start heard.group.last k) heard.group k reads of_phase in
      let so : (what : Order) → O what → C (order_command m g.own b h.start (axis_at m h.axis) what) = λ what o.
      subst (λ (own : Clocks). C (order_command m own b h.start (axis_at m h.axis) what)) (sym (lines_at b r.clocks g.own g.own_is)) (s.commands what o) in
      let At : Option Homing → Type 0 = λ o. Each C (homing_commands m (homing_turn r.clocks k states o) g.own b) in
      let own : Each C commands = subst At (sym is) (answer_is m k g.own heard (answer_in k heard.start heard.group) so sent) in
      let more = each_both C (clock_question commands waits) (stop_command (stops g.stop)) (asks_is (asks_now commands waits)) (stop_is (stops g.stop)) in
      subst (λ (y : Control). Each C y.commands) (sym g.control_is) (each_both C commands rest own more)

  -- what comes to it in the turn
  plain_are : (cs : List Cmd) → Each C cs → AllSo C (map plain cs)
  plain_are [] k = tt
  plain_are (c ∷ cs) k = (k.0, plain_are cs k.1)

  unit_is : (u : StepUnit) → AllSo C (unit_orders u)
  unit_is u = search (rules, step_command, plain, reset_commands, dir_commands)

  units_are : (us : List StepUnit) → AllSo C (units_orders us)
  units_are [] = tt
  units_are (u ∷ us) = so_both C (unit_orders u) (units_orders us) (unit_is u) (units_are us)

  pub turn_so : (m : Machine) (switches : List Switch) (pins : List (List Level)) (entries : List Entry) (c : Came) (before : List Came) (t : BoardTurn) (turns : List BoardTurn) (h : Homing) → IsInRun m switches pins entries b (c ∷ before) (t ∷ turns)
      → ((known_by m switches before).phase ≡ Connecting → ⊥) → (noted m c.note (known_by m switches before)).homing ≡ Some h → AreSent m (noted m c.note (known_by m switches before)) (length before) c.states h → AllSo C (queued_in (orders t.control t.batch))
  turn_so m switches pins entries c before t turns h r open_it is s =
      let x = turn_of m switches pins entries b c before t turns r in
      let known = known_by m switches before in
      let n = noted m c.note known in
      so_both C (map plain t.control.commands) (units_orders t.batch.units)
      (plain_are t.control.commands (control_is m (length before) n c.states x.a (last_reacted m switches c before) t.control h (λ p. open_it (sym (noted_phase m c.note known) ∙ p)) is x.turned s)) (units_are t.batch.units)

-- readings are asked for where Z is so, and it is told to trigger where R is so
module _ (Z R : Type 0) (b : ℕ) where
  abbrev OrderOf : Order → Type 0
  OrderOf order.Home = Z
  OrderOf order.Trigger = R
  OrderOf what = Unit {0}

  free_of : (c : Cmd) → IsFree c → IsOf Z R c
  free_of (cmd.TrsyncStart oid clock every reason) k = absurd k
  free_of (cmd.TrsyncTrigger oid reason) k = absurd k
  free_of (cmd.EndstopHome oid clock sample count rest value other reason) k = absurd k
  free_of c k = tt

  order_is : (m : Machine) (clocks : Clocks) (start : ℕ) (axis : AxisDef) (what : Order) → OrderOf what → IsOf Z R (order_command m clocks b start axis what)
  order_is m clocks start axis order.Start a = refl
  order_is m clocks start axis order.Home a = (a, refl)
  order_is m clocks start axis order.Trigger a = a
  order_is m clocks start axis c a = tt

  pub turn_is : (m : Machine) (switches : List Switch) (pins : List (List Level)) (entries : List Entry) (c : Came) (before : List Came) (t : BoardTurn) (turns : List BoardTurn) (h : Homing) → IsInRun m switches pins entries b (c ∷ before) (t ∷ turns)
      → ((known_by m switches before).phase ≡ Connecting → ⊥) → (noted m c.note (known_by m switches before)).homing ≡ Some h → (IsReader b (members_of h.group) → Z)
      → (relays_in (relay_in (hears_all (noted m c.note (known_by m switches before)).clocks c.states h).group (length before)) (length before) ≡ true → R) → AllSo (IsOf Z R) (queued_in (orders t.control t.batch))
  turn_is m switches pins entries c before t turns h r open_it is f relays =
      turn_so OrderOf (IsOf Z R) b free_of (λ i. tt) (λ i. tt) tt m switches pins entries c before t turns h r open_it is
      (record { commands = λ what o. order_is m (clocks_at (noted m c.note (known_by m switches before)).clocks b) h.start (axis_at m h.axis) what o; homes = f; first = λ e. tt; on = λ e. (λ g. tt, relays) })
