-- What the reactor orders of a board that homes, and the planner: no command of theirs triggers a trigger by the reason of readings, and they
-- begin readings of the endstop of the axis that homes alone.
use Rattle.std.proofs.Common.{◌≡◌, ℕ, suc, ◌+◌, ◌-◌, ◌≤◌, inl, inr, Bool, true, false, cond, List, [], ◌∷◌, ◌++◌, map, drop, zero, length, Option, Some, None, refl, sym, ◌∙◌, subst, arith}
use Rattle.std.specs.Prelude.{◌==◌, nat_le, slice_index_or}
use Rattle.laws_board.proofs.Names.{flat_map, eqb_tells, Level, AxisDef, Machine, Clocks, axis_at, board_at, clocks_at, turn_tick, Cmd, State, Control, Unit as StepUnit, dir_commands, reset_commands, step_command, Entry, Switch, Meant, plain, unit_orders, units_orders, Asking, Stage, Identify, Uptime, Configure, Config, Connected, Setup, is_question_due, ready, asks_now, clock_question, drifts, waits_in, configuration, trigger_of, Ctl, End, Order, Homing, answer_in, by_answer, command_to, commands_to, hears_all, homing_turn, low, order_command, Known, noted, Reacted, homing_commands, stop_command, stops, Came, known_by, last_reacted}
use Rattle.plan_types.specs.declared.machine.StepperDef.{StepperDef}
use Rattle.msg_code.specs.declared.cmd.Cmd.TheVariants as cmd
use Rattle.msg_code.specs.Bytes.{command_bytes}
use Rattle.board_world.specs.Orders.{unit_ticks}
use Rattle.board_asking.specs.declared.setup.Setup.TheVariants.{Oids, Stepper, Trsync, Endstop, Finish}
use Rattle.board_asking.specs.Asking.{asks, question}
use Rattle.board_asking.specs.Machine.{control_bytes, endstop_pins, fitting, setup_command, setup_endstops, setup_stepper}
use Rattle.trigger_group.specs.declared.order.End.TheVariants as end
use Rattle.trigger_group.specs.declared.order.Order.TheVariants as order
use Rattle.axis_homing.specs.Homing.{place_from}
use Rattle.laws_board.specs.turns.Turns.{BoardTurn}
use Rattle.laws_board.specs.clocks.Runs.{IsInRun}
use Rattle.laws_board.proofs.clocks.Answers.{Each, each_both}
use Rattle.laws_board.proofs.clocks.Lines.{run_before, turn_of}
use Rattle.laws_board.proofs.clocks.Turning.{Asks, BoardTurned, Ends, Runs}
use Rattle.laws_board.proofs.clocks.Turning as turning
use Rattle.laws_homing.specs.switch_runs.Reading.{AllTellTrue, AreFit, BringFit, IsComplete, IsFitReading}
use Rattle.laws_homing.specs.switch_runs.Runs.{IsAt, IsEndstop, IsReadInRun, readings}
use Rattle.laws_homing.proofs.switch_runs.Telling.{all_true}

-- the endstop of a pin
at_least : (oid pin place : ℕ) (pins : List ℕ) → IsAt oid pin place pins → place ≤ oid
at_least oid pin place [] a = absurd a
at_least oid pin place (p ∷ pins) (inl a) = let e = a.0 in omega (arith, e)
at_least oid pin place (p ∷ pins) (inr a) = let l = at_least oid pin (place + 1) pins a in omega (arith, l)

placed : (place pin : ℕ) (pins : List ℕ) → place ≤ place_from place pin pins
placed place pin [] = omega arith
placed place pin (p ∷ pins) = one (p == pin) (placed (place + 1) pin pins)
  where
    one : (b : Bool) → place + 1 ≤ place_from (place + 1) pin pins → place ≤ cond b place (place_from (place + 1) pin pins)
    one true l = omega arith
    one false l = omega (arith, l)

pub pin_of : (place pin other : ℕ) (pins : List ℕ) → IsAt (place_from place pin pins) other place pins → other ≡ pin
pin_of place pin other [] a = absurd a
pin_of place pin other (p ∷ pins) a =
    let At : Bool → Type 0 = λ b. IsAt (cond b place (place_from (place + 1) pin pins)) other place (p ∷ pins) in
    elim (eqb_tells p pin) [
      | inl e ↦ same e.1 (subst At e.0 a)
      | inr e ↦ differs (λ k. pin_of (place + 1) pin other pins k) (subst At e.0 a)
    ]
  where
    same : p ≡ pin → IsAt place other place (p ∷ pins) → other ≡ pin
    same e (inl k) = k.1 ∙ e
    same e (inr k) = let l = at_least place other (place + 1) pins k in absurd (omega (arith, l))

    differs : (IsAt (place_from (place + 1) pin pins) other (place + 1) pins → other ≡ pin) → IsAt (place_from (place + 1) pin pins) other place (p ∷ pins) → other ≡ pin
    differs f (inl k) = let e = k.0 in let l = placed (place + 1) pin pins in absurd (omega (arith, e, l))
    differs f (inr k) = f k

-- what connecting orders
abbrev Pinned : (ℕ → (ℕ → Type 0)) → Setup → Type 0
Pinned E (Endstop oid pin) = E oid pin
Pinned E s = Unit {0}

abbrev AllPinned : (ℕ → (ℕ → Type 0)) → List Setup → Type 0
AllPinned E [] = Unit {0}
AllPinned E (s ∷ ss) = Pinned E s × AllPinned E ss

pinned_both : (E : ℕ → (ℕ → Type 0)) (xs ys : List Setup) → AllPinned E xs → AllPinned E ys → AllPinned E (xs ++ ys)
pinned_both E [] ys a b = b
pinned_both E (x ∷ xs) ys a b = (a.0, pinned_both E xs ys a.1 b)

steppers_pinned : (E : ℕ → (ℕ → Type 0)) (b : ℕ) (ss : List StepperDef) → AllPinned E (flat_map (setup_stepper b) ss)
steppers_pinned E b [] = tt
steppers_pinned E b (s ∷ ss) = pinned_both E (setup_stepper b s) (flat_map (setup_stepper b) ss) (one (s.board == b)) (steppers_pinned E b ss)
  where
    one : (t : Bool) → AllPinned E (cond t (Stepper s.oid s.step_pin s.dir_pin ∷ []) [])
    one true = (tt, tt)
    one false = tt

endstops_pinned : (E : ℕ → (ℕ → Type 0)) (place : ℕ) (pins : List ℕ) → ((oid pin : ℕ) → IsAt oid pin place pins → E oid pin) → AllPinned E (setup_endstops place pins)
endstops_pinned E place [] f = tt
endstops_pinned E place (p ∷ pins) f = (f place p (inl (refl, refl)), endstops_pinned E (place + 1) pins (λ oid pin a. f oid pin (inr a)))

configuration_pinned : (m : Machine) (b : ℕ) → AllPinned (IsEndstop m b) (configuration m b)
unfolding configuration
configuration_pinned m b =
    let E = IsEndstop m b in
    let endstops = setup_endstops (trigger_of m b + 1) (endstop_pins m b) in (
      tt,
      pinned_both E (flat_map (setup_stepper b) m.steppers) (Trsync (trigger_of m b) ∷ (endstops ++ Finish ∷ [])) (steppers_pinned E b m.steppers)
          (tt, pinned_both E endstops (Finish ∷ []) (endstops_pinned E (trigger_of m b + 1) (endstop_pins m b) (λ oid pin a. a)) (tt, tt)),
    )

dropped_pinned : (E : ℕ → (ℕ → Type 0)) (n : ℕ) (ss : List Setup) → AllPinned E ss → AllPinned E (drop n ss)
dropped_pinned E zero ss a = a
dropped_pinned E (suc n) [] a = tt
dropped_pinned E (suc n) (s ∷ ss) a = dropped_pinned E n ss a.1

fitting_pinned : (E : ℕ → (ℕ → Type 0)) (room : ℕ) (ss : List Setup) → AllPinned E ss → AllPinned E (fitting room ss)
fitting_pinned E room [] a = tt
fitting_pinned E room (s ∷ ss) a = one (nat_le (command_bytes (setup_command s)) room) (fitting_pinned E (room - command_bytes (setup_command s)) ss a.1)
  where
    one : (t : Bool) → AllPinned E (fitting (room - command_bytes (setup_command s)) ss) → AllPinned E (cond t (s ∷ fitting (room - command_bytes (setup_command s)) ss) [])
    one true k = (a.0, k)
    one false k = tt

setup_fit : (E : ℕ → (ℕ → Type 0)) (F : ℕ → (ℕ → Type 0)) (pins : List (List Level)) (s : Setup) → Pinned E s → IsFitReading E F pins (setup_command s)
setup_fit E F pins (Endstop oid pin) a = a
setup_fit E F pins c a = tt

setups_fit : (E : ℕ → (ℕ → Type 0)) (F : ℕ → (ℕ → Type 0)) (pins : List (List Level)) (ss : List Setup) → AllPinned E ss → Each (IsFitReading E F pins) (map setup_command ss)
setups_fit E F pins [] a = tt
setups_fit E F pins (s ∷ ss) a = (setup_fit E F pins s a.0, setups_fit E F pins ss a.1)

fit_if : (P : Cmd → Type 0) (t : Bool) (cs : List Cmd) → Each P cs → Each P (cond t cs [])
fit_if P true cs a = a
fit_if P false cs a = tt

asks_fit : (E : ℕ → (ℕ → Type 0)) (F : ℕ → (ℕ → Type 0)) (pins : List (List Level)) (setups : List Setup) (k : ℕ) (a : Asking) (stage : Stage) → AllPinned E setups → Each (IsFitReading E F pins) (asks setups k a stage)
asks_fit E F pins setups k a (Configure n) p = setups_fit E F pins (fitting control_bytes (drop n setups)) (fitting_pinned E control_bytes (drop n setups) (dropped_pinned E n setups p))
asks_fit E F pins setups k a Connected p = fit_if (IsFitReading E F pins) (is_question_due k a.since) (question Connected) tt
asks_fit E F pins setups k a c p = fit_if (IsFitReading E F pins) (is_question_due k a.since) (question c) (tt, tt)

-- what homing orders
abbrev pub Reads : Machine → List (List Level) → ℕ → (ℕ → (ℕ → Type 0)) → Clocks → ℕ → AxisDef → Type 0
Reads m pins b F own start axis = (now tick : ℕ) → IsComplete (slice_index_or pins axis.pin []) (readings m b axis (low (turn_tick own start))) now tick → F now tick

order_fit : (m : Machine) (pins : List (List Level)) (b : ℕ) (F : ℕ → (ℕ → Type 0)) (own : Clocks) (start : ℕ) (axis : AxisDef) (o : Order) → Reads m pins b F own start axis → IsFitReading (IsEndstop m b) F pins (order_command m own b start axis o)
order_fit m pins b F own start axis order.Start f = (omega arith, λ e. absurd (omega (arith, e)))
order_fit m pins b F own start axis order.Home f =
    (omega arith, λ e pin now tick at complete. f now tick (subst (λ (n : ℕ). IsComplete (slice_index_or pins n []) (readings m b axis (low (turn_tick own start))) now tick) (pin_of (trigger_of m b + 1) axis.pin pin (endstop_pins m b) at) complete))
order_fit m pins b F own start axis order.Trigger f = (omega arith, λ e. absurd (omega (arith, e)))
order_fit m pins b F own start axis c f = tt

ctls_fit : (m : Machine) (pins : List (List Level)) (b : ℕ) (F : ℕ → (ℕ → Type 0)) (own : Clocks) (start : ℕ) (axis : AxisDef) (ctls : List Ctl) → Reads m pins b F own start axis
    → Each (IsFitReading (IsEndstop m b) F pins) (commands_to m own b start axis ctls)
ctls_fit m pins b F own start axis [] f = tt
ctls_fit m pins b F own start axis (c ∷ ctls) f =
    each_both (IsFitReading (IsEndstop m b) F pins) (command_to m own b start axis c) (commands_to m own b start axis ctls)
    (fit_if (IsFitReading (IsEndstop m b) F pins) (c.board == b) (order_command m own b start axis c.what ∷ []) (order_fit m pins b F own start axis c.what f, tt)) (ctls_fit m pins b F own start axis ctls f)

answer_fit : (m : Machine) (pins : List (List Level)) (b k : ℕ) (F : ℕ → (ℕ → Type 0)) (own : Clocks) (h : Homing) (o : Option End) → Reads m pins b F own h.start (axis_at m h.axis)
    → Each (IsFitReading (IsEndstop m b) F pins) (homing_commands m (by_answer k h o) own b)
answer_fit m pins b k F own h None f = ctls_fit m pins b F own h.start (axis_at m h.axis) (by_answer k h None).ctls.items f
answer_fit m pins b k F own h (Some (end.Endstop tick)) f = tt
answer_fit m pins b k F own h (Some end.NoSwitch) f = tt
answer_fit m pins b k F own h (Some (end.Expired board turn)) f = tt

homing_fit : (m : Machine) (pins : List (List Level)) (b k : ℕ) (F : ℕ → (ℕ → Type 0)) (all : List Clocks) (states : List State) (own : Clocks) (o : Option Homing) → ((h : Homing) → o ≡ Some h → Reads m pins b F own h.start (axis_at m h.axis))
    → Each (IsFitReading (IsEndstop m b) F pins) (homing_commands m (homing_turn all k states o) own b)
homing_fit m pins b k F all states own None f = tt
homing_fit m pins b k F all states own (Some h) f = let g = hears_all all states h in answer_fit m pins b k F own g (answer_in k g.start g.group) (f h refl)

-- the control of a turn
question_fit : (E : ℕ → (ℕ → Type 0)) (F : ℕ → (ℕ → Type 0)) (pins : List (List Level)) (commands : List Cmd) (a : Asking) (stop : Bool) → Each (IsFitReading E F pins) (clock_question commands a ++ stop_command stop)
question_fit E F pins commands a stop =
    each_both (IsFitReading E F pins) (clock_question commands a) (stop_command stop) (fit_if (IsFitReading E F pins) (asks_now commands a) (cmd.GetUptime ∷ []) (tt, tt)) (one stop)
  where
    one : (s : Bool) → Each (IsFitReading E F pins) (stop_command s)
    one true = (tt, tt)
    one false = tt

pub lines_at : (b : ℕ) (clocks : List Clocks) (own : Clocks) → turning.clocks_at b clocks ≡ own ∷ [] → own ≡ clocks_at clocks b
lines_at b [] own e = cc
lines_at zero (c ∷ clocks) own e = cc
lines_at (suc b) (c ∷ clocks) own e = lines_at b clocks own e

pub control_fit : (m : Machine) (pins : List (List Level)) (b k : ℕ) (F : ℕ → (ℕ → Type 0)) (r : Known) (states : List State) (a : Asking) (x : Reacted) (c : Control) → BoardTurned m r b k states a x c
    → ((h : Homing) (own : Clocks) → r.homing ≡ Some h → own ≡ clocks_at r.clocks b → Reads m pins b F own h.start (axis_at m h.axis)) → Each (IsFitReading (IsEndstop m b) F pins) c.commands
control_fit m pins b k F r states a x c (Asks p g) f =
    let ready_a = ready (configuration m b) a in
    subst (λ (y : Control). Each (IsFitReading (IsEndstop m b) F pins) y.commands) (sym g.control_is) (asks_fit (IsEndstop m b) F pins (configuration m b) k ready_a ready_a.stage (configuration_pinned m b))
control_fit m pins b k F r states a x c (Ends p g) f = subst (λ (y : Control). Each (IsFitReading (IsEndstop m b) F pins) y.commands) (sym g.control_is) tt
control_fit m pins b k F r states a x c (Runs p g) f =
    let waits = waits_in (drifts (board_at m b).drift) k a in
    let commands = homing_commands m (homing_turn r.clocks k states r.homing) g.own b in
    subst (λ (y : Control). Each (IsFitReading (IsEndstop m b) F pins) y.commands) (sym g.control_is)
    (each_both (IsFitReading (IsEndstop m b) F pins) commands (clock_question commands waits ++ stop_command (stops g.stop))
    (homing_fit m pins b k F r.clocks states g.own r.homing (λ h e. f h g.own e (lines_at b r.clocks g.own g.own_is))) (question_fit (IsEndstop m b) F pins commands waits (stops g.stop)))

-- what comes to a board in a turn
pub fit_both : (E : ℕ → (ℕ → Type 0)) (F : ℕ → (ℕ → Type 0)) (pins : List (List Level)) (xs ys : List Meant) → AreFit E F pins xs → AreFit E F pins ys → AreFit E F pins (xs ++ ys)
fit_both E F pins [] ys a b = b
fit_both E F pins (x ∷ xs) ys a b = (a.0, fit_both E F pins xs ys a.1 b)

pub plain_fit : (E : ℕ → (ℕ → Type 0)) (F : ℕ → (ℕ → Type 0)) (pins : List (List Level)) (cs : List Cmd) → Each (IsFitReading E F pins) cs → AreFit E F pins (map plain cs)
plain_fit E F pins [] a = tt
plain_fit E F pins (c ∷ cs) a = (a.0, plain_fit E F pins cs a.1)

unit_fit : (E : ℕ → (ℕ → Type 0)) (F : ℕ → (ℕ → Type 0)) (pins : List (List Level)) (u : StepUnit) → AreFit E F pins (unit_orders u)
unit_fit E F pins u = one u.reset u.up
  where
    one : (r : Option ℕ) (d : Option Bool) → AreFit E F pins (map plain (reset_commands u.stepper r) ++ (map plain (dir_commands u.stepper d) ++ record { command = step_command u; ticks = unit_ticks u } ∷ []))
    one None None = (tt, tt)
    one None (Some d) = (tt, (tt, tt))
    one (Some r) None = (tt, (tt, tt))
    one (Some r) (Some d) = (tt, (tt, (tt, tt)))

pub units_fit : (E : ℕ → (ℕ → Type 0)) (F : ℕ → (ℕ → Type 0)) (pins : List (List Level)) (us : List StepUnit) → AreFit E F pins (units_orders us)
units_fit E F pins [] = tt
units_fit E F pins (u ∷ us) = fit_both E F pins (unit_orders u) (units_orders us) (unit_fit E F pins u) (units_fit E F pins us)

-- over the turns of a run
pub bring_fit : (m : Machine) (switches : List Switch) (pins : List (List Level)) (entries : List Entry) (b : ℕ) (F : ℕ → (ℕ → Type 0)) (came : List Came) (turns : List BoardTurn) → IsInRun m switches pins entries b came turns
    → ((tick : ℕ) (k : IsReadInRun m switches pins b came tick) → F k.now tick) → BringFit (IsEndstop m b) F pins turns
bring_fit m switches pins entries b F [] [] r f = tt
bring_fit m switches pins entries b F [] (t ∷ turns) r f = absurd r.both
bring_fit m switches pins entries b F (c ∷ before) [] r f = absurd r.both
bring_fit m switches pins entries b F (c ∷ before) (t ∷ turns) r f =
    let x = turn_of m switches pins entries b c before t turns r in
    let known = noted m c.note (known_by m switches before) in
    let reads = λ (h : Homing). λ (own : Clocks). λ (is : known.homing ≡ Some h). λ (lines : own ≡ clocks_at known.clocks b). λ (now : ℕ). λ (tick : ℕ).
    λ (complete : IsComplete (slice_index_or pins (axis_at m h.axis).pin []) (readings m b (axis_at m h.axis) (low (turn_tick own h.start))) now tick).
    f tick (record { at = length before; start = h.start; axis = h.axis; now = now; read = record { lines = own; knew = inl (refl, record { homing = h; known = is; start_is = refl; axis_is = refl; lines_are = lines }); complete = complete } }) in (
      fit_both (IsEndstop m b) F pins (map plain t.control.commands) (units_orders t.batch.units)
          (plain_fit (IsEndstop m b) F pins t.control.commands (control_fit m pins b (length before) F known c.states x.a (last_reacted m switches c before) t.control x.turned reads)) (units_fit (IsEndstop m b) F pins t.batch.units),
      bring_fit m switches pins entries b F before turns (run_before m switches pins entries b c before t turns r)
          (λ tick k. f tick (record { at = k.at; start = k.start; axis = k.axis; now = k.now; read = record { lines = k.read.lines; knew = inr k.read.knew; complete = k.read.complete } })),
    )

pub run_tells : (m : Machine) (switches : List Switch) (pins : List (List Level)) (entries : List Entry) (b : ℕ) (came : List Came) (turns : List BoardTurn) → IsInRun m switches pins entries b came turns
    → AllTellTrue (IsReadInRun m switches pins b came) turns
run_tells m switches pins entries b came turns r =
    let F = IsReadInRun m switches pins b came in
    all_true (IsEndstop m b) F (board_at m b) pins b entries turns r.turns_are (bring_fit m switches pins entries b (λ n. F) came turns r (λ tick k. k))
