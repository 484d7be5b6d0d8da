-- What a board is sent in a turn from a homing section's start on: the group's orders, and what is behind the set-up in any case.
use Rattle.std.proofs.Common.{◌≡◌, ℕ, Bool, true, false, cond, List, [], ◌∷◌, ◌++◌, length, map, Option, Some, None, refl, ap, sym, ◌∙◌, subst, append_assoc}
use Rattle.laws_board.proofs.Names.{Level, Machine, Clocks, axis_at, board_at, Entry, Switch, Cmd, Control, Unit as StepUnit, dir_commands, reset_commands, Meant, commands_of, plain, unit_orders, units_orders, queued_in, orders, End, Homing, answer_in, by_answer, commands_to, hears_all, homing_turn, Asking, asks_now, clock_question, drifts, waits_in, Known, Connecting, noted, Reacted, homing_commands, stop_command, stops, Came, known_by, last_reacted}
use Rattle.plan_types.specs.Sections as section
use Rattle.msg_code.specs.declared.cmd.Cmd.TheVariants as cmd
use Rattle.trigger_group.specs.Group.{orders as group_orders}
use Rattle.laws_board.specs.turns.Turns.{BoardTurn}
use Rattle.laws_board.specs.clocks.Runs.{IsInRun}
use Rattle.laws_board.proofs.clocks.Lines.{turn_of}
use Rattle.laws_board.proofs.clocks.Turning.{Asks, BoardTurned, Ends, Runs}
use Rattle.laws_homing.proofs.home_runs.Staging.{commands_both}
use Rattle.laws_homing.specs.clear_boards.Alive.{RelayNone}
use Rattle.laws_homing.specs.clear_boards.Ordered.{IsOrdered}
use Rattle.laws_homing.specs.clear_boards.Turned.{AreSentBehind}
use Rattle.laws_homing.proofs.clear_boards.Sending.{behind_both, none_both}
use Rattle.laws_board.proofs.clocks.Clocked.{own_clocks}

-- control commands as they are taken
pub plain_are : (cs : List Cmd) → commands_of (map plain cs) ≡ cs
plain_are [] = refl
plain_are (c ∷ cs) = ap (λ (x : List Cmd). c ∷ x) (plain_are cs)

-- a unit's commands
reset_behind : (oid clock stepper : ℕ) (o : Option ℕ) → AreSentBehind oid clock (commands_of (map plain (reset_commands stepper o))) × RelayNone (commands_of (map plain (reset_commands stepper o)))
reset_behind oid clock stepper None = (tt, tt)
reset_behind oid clock stepper (Some n) = ((tt, tt), ((λ x. x), tt))

dir_behind : (oid clock stepper : ℕ) (o : Option Bool) → AreSentBehind oid clock (commands_of (map plain (dir_commands stepper o))) × RelayNone (commands_of (map plain (dir_commands stepper o)))
dir_behind oid clock stepper None = (tt, tt)
dir_behind oid clock stepper (Some up) = ((tt, tt), ((λ x. x), tt))

abbrev Behind : ℕ → ℕ → List Meant → Type 0
Behind oid clock ms = AreSentBehind oid clock (commands_of ms) × RelayNone (commands_of ms)

both : (oid clock : ℕ) (xs ys : List Meant) → Behind oid clock xs → Behind oid clock ys → Behind oid clock (xs ++ ys)
both oid clock xs ys k l =
    let same = commands_both xs ys in
    (subst (λ (cs : List Cmd). AreSentBehind oid clock cs) (sym same) (behind_both oid clock (commands_of xs) (commands_of ys) k.0 l.0), subst RelayNone (sym same) (none_both (commands_of xs) (commands_of ys) k.1 l.1))

unit_behind : (oid clock : ℕ) (u : StepUnit) → Behind oid clock (unit_orders u)
unit_behind oid clock u =
    both oid clock (map plain (reset_commands u.stepper u.reset)) _ (reset_behind oid clock u.stepper u.reset)
    (both oid clock (map plain (dir_commands u.stepper u.up)) _ (dir_behind oid clock u.stepper u.up) ((tt, tt), ((λ x. x), tt)))

units_behind : (oid clock : ℕ) (us : List StepUnit) → Behind oid clock (units_orders us)
units_behind oid clock [] = (tt, tt)
units_behind oid clock (u ∷ us) = both oid clock (unit_orders u) (units_orders us) (unit_behind oid clock u) (units_behind oid clock us)

-- the asking, and the order to stop
question_behind : (oid clock : ℕ) (b stop : Bool) → AreSentBehind oid clock (cond b (cmd.GetUptime ∷ []) [] ++ stop_command stop) × RelayNone (cond b (cmd.GetUptime ∷ []) [] ++ stop_command stop)
question_behind oid clock true true = ((tt, (tt, tt)), ((λ x. x), ((λ x. x), tt)))
question_behind oid clock true false = ((tt, tt), ((λ x. x), tt))
question_behind oid clock false true = ((tt, tt), ((λ x. x), tt))
question_behind oid clock false false = (tt, tt)

-- the group's orders
home_is : (m : Machine) (all : List Clocks) (k : ℕ) (h : Homing) (own : Clocks) (b : ℕ) (o : Option End) → o ≡ None
    → homing_commands m (by_answer k h o) own b ≡ commands_to m own b h.start (axis_at m h.axis) (group_orders h.group k)
home_is m all k h own b None e = refl
home_is m all k h own b (Some end) e = absurd (cc)

ordered_by : (m : Machine) (b : ℕ) (c : Came) (r : Known) (k : ℕ) (a : Asking) (x : Reacted) (t : BoardTurn) (h : Homing) → r.homing ≡ Some h → (r.phase ≡ Connecting → ⊥) → answer_in k h.start (hears_all r.clocks c.states h).group ≡ None
    → BoardTurned m r b k c.states a x t.control → IsOrdered m (section.clocks_at r.clocks b) b h k (hears_all r.clocks c.states h).group (commands_of (queued_in (orders t.control t.batch)))
ordered_by m b c r k a x t h is n goes (Asks p g) = absurd (n p)
ordered_by m b c r k a x t h is n goes (Ends p g) = absurd (n p)
ordered_by m b c r k a x t h is n goes (Runs p g) =
    let waits = waits_in (drifts (board_at m b).drift) k a in
    let heard = hears_all r.clocks c.states h in
    let commands = homing_commands m (homing_turn r.clocks k c.states r.homing) g.own b in
    let tail = clock_question commands waits ++ stop_command (stops g.stop) in
    let units = commands_of (units_orders t.batch.units) in
    let home : commands ≡ commands_to m g.own b h.start (axis_at m h.axis) (group_orders heard.group k) =
    ap (λ (o : Option Homing). homing_commands m (homing_turn r.clocks k c.states o) g.own b) is ∙ home_is m r.clocks k heard g.own b (answer_in k heard.start heard.group) goes in
    let control : t.control.commands ≡ commands ++ tail = ap (λ (y : Control). y.commands) g.control_is in
    let all : commands_of (queued_in (orders t.control t.batch)) ≡ t.control.commands ++ units = commands_both (map plain t.control.commands) (units_orders t.batch.units) ∙ ap (λ (cs : List Cmd). cs ++ units) (plain_are t.control.commands) in
    let Own : Clocks → Type 0 = λ y. commands ≡ commands_to m y b h.start (axis_at m h.axis) (group_orders heard.group k) in
    let own_home = subst Own (own_clocks b r.clocks g.own _ g.own_is) home in
    record {
      tail = tail ++ units;
      are = all ∙ ap (λ (cs : List Cmd). cs ++ units) control ∙ append_assoc commands tail units ∙ ap (λ (cs : List Cmd). cs ++ (tail ++ units)) own_home;
      behind = λ oid clock. behind_both oid clock tail units (question_behind oid clock (asks_now commands waits) (stops g.stop)).0 (units_behind oid clock t.batch.units).0;
      none = none_both tail units (question_behind 0 0 (asks_now commands waits) (stops g.stop)).1 (units_behind 0 0 t.batch.units).1;
    }

pub turn_ordered : (m : Machine) (switches : List Switch) (pins : List (List Level)) (entries : List Entry) (b : ℕ) (c : Came) (before : List Came) (t : BoardTurn) (turns : List BoardTurn) (h : Homing) → IsInRun m switches pins entries b (c ∷ before) (t ∷ turns)
    → (noted m c.note (known_by m switches before)).homing ≡ Some h → ((noted m c.note (known_by m switches before)).phase ≡ Connecting → ⊥)
    → answer_in (length before) h.start (hears_all (noted m c.note (known_by m switches before)).clocks c.states h).group ≡ None
    → IsOrdered m (section.clocks_at (noted m c.note (known_by m switches before)).clocks b) b h (length before) (hears_all (noted m c.note (known_by m switches before)).clocks c.states h).group (commands_of (queued_in (orders t.control t.batch)))
turn_ordered m switches pins entries b c before t turns h r is n goes =
    let s = turn_of m switches pins entries b c before t turns r in
    ordered_by m b c (noted m c.note (known_by m switches before)) (length before) s.a (last_reacted m switches c before) t h is n goes s.turned
