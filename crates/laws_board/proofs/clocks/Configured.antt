-- What was ordered of a board's configuration, over the turns of a run.
use Rattle.std.proofs.Common.{◌≡◌, ℕ, suc, ◌+◌, ◌<◌, ◌≤◌, Bool, true, false, cond, List, [], ◌∷◌, ◌++◌, map, take, drop, length, refl, ap, sym, ◌∙◌, subst, arith, append-nil, rules}
use Rattle.std.specs.Prelude.{not}
use Rattle.laws_board.proofs.Names.{flat_map, map-append, take-append-drop, Level, AxisDef, Machine, Clocks, IsValidMachine, axis_at, board_at, Cmd, Control, Ctl, Order, Entry, Switch, Asking, Stage, Identify, Uptime, Configure, Config, Connected, Setup, ready, asks_now, clock_question, drifts, waits_in, configuration, trigger_of, command_to, commands_to, homing_turn, order_command, Known, Connecting, noted, Reacted, homing_commands, stop_command, stops, Came, known_by, last_reacted}
use Rattle.std.specs.List.{filter}
use Rattle.std.proofs.lemmas.List.{length-append}
use Rattle.plan_types.specs.declared.machine.StepperDef.{StepperDef}
use Rattle.msg_code.specs.declared.cmd.Cmd.TheVariants as cmd
use Rattle.trigger_group.specs.declared.order.Order.TheVariants as order
use Rattle.board_asking.specs.declared.setup.Setup.TheVariants.{Stepper, Trsync, Finish}
use Rattle.board_asking.specs.Asking.{after_asks, asks, is_connected, new_asking}
use Rattle.board_asking.specs.Drift.{after_question, is_asked_now, is_unanswered}
use Rattle.board_asking.specs.Machine.{endstop_pins, is_among, pins_of, setup_command, setup_endstops, setup_stepper}
use Rattle.host_reactor.specs.declared.ordered.Phase.TheVariants.{Running}
use Rattle.laws_board.specs.turns.Turns.{BoardTurn, latest_state}
use Rattle.laws_board.specs.clocks.Ordered.{commands_in, configures}
use Rattle.laws_board.specs.clocks.Runs.{IsInRun}
use Rattle.laws_board.proofs.clocks.Lines.{noted_phase, run_before, stands, turn_of}
use Rattle.laws_board.proofs.clocks.Setups.{Conf, conf_asks, conf_heard, conf_ready, filter_both}
use Rattle.laws_board.proofs.clocks.Turning.{Asks, BoardTurned, Ends, Runs, asking_at, new_at}
use Rattle.std.specs.Prelude.{◌==◌, ◌&&◌}
use Rattle.laws_board.proofs.causes.Told.{one_of}
use Rattle.laws_board.proofs.causes.Ended.{running_not}
use Rattle.axis_homing.proofs.Room.{pins-few}
use Rattle.laws_board.proofs.causes.Hears.{either_same}

-- commands of a running board configure nothing
abbrev NoSetup : List Cmd → Type 0
NoSetup cs = filter configures cs ≡ []

none_both : (xs ys : List Cmd) → NoSetup xs → NoSetup ys → NoSetup (xs ++ ys)
none_both xs ys e f = filter_both xs ys ∙ ap (λ (l : List Cmd). l ++ filter configures ys) e ∙ f

none_if : (b : Bool) (xs : List Cmd) → NoSetup xs → NoSetup (cond b xs [])
none_if true xs e = e
none_if false xs e = refl

order_none : (m : Machine) (clocks : Clocks) (b start : ℕ) (axis : AxisDef) (o : Order) → NoSetup (order_command m clocks b start axis o ∷ [])
order_none m clocks b start axis (order.Reset i) = refl
order_none m clocks b start axis c = refl

home_none : (m : Machine) (clocks : Clocks) (b start : ℕ) (axis : AxisDef) (ctls : List Ctl) → NoSetup (commands_to m clocks b start axis ctls)
home_none m clocks b start axis [] = refl
home_none m clocks b start axis (c ∷ ctls) =
    none_both (command_to m clocks b start axis c) (commands_to m clocks b start axis ctls)
    (none_if (c.board == b) (order_command m clocks b start axis c.what ∷ []) (order_none m clocks b start axis c.what)) (home_none m clocks b start axis ctls)

stop_none : (stop : Bool) → NoSetup (stop_command stop)
stop_none true = refl
stop_none false = refl

run_none : (commands : List Cmd) (a : Asking) (stop : Bool) → NoSetup commands → NoSetup (commands ++ (clock_question commands a ++ stop_command stop))
run_none commands a stop e =
    none_both commands _ e (none_both (clock_question commands a) (stop_command stop) (none_if (asks_now commands a) (cmd.GetUptime ∷ []) refl) (stop_none stop))

waits_stage : (drifting : Bool) (k : ℕ) (a : Asking) → (waits_in drifting k a).stage ≡ a.stage
waits_stage drifting k a = either_same (is_unanswered k a.since) _ _ a.stage refl (either_same (is_asked_now drifting k a.since) _ a a.stage refl refl)

question_stage : (k : ℕ) (commands : List Cmd) (a : Asking) → (after_question k commands a).stage ≡ a.stage
question_stage k commands a = either_same (asks_now commands a) _ a a.stage refl refl

-- a configuration has few commands
pub steppers_few : (b : ℕ) (ss : List StepperDef) → length (flat_map (setup_stepper b) ss) ≤ length ss
steppers_few b [] = omega arith
steppers_few b (s ∷ ss) = let rest = steppers_few b ss in omega (arith, length-append (setup_stepper b s) (flat_map (setup_stepper b) ss), one_few (s.board == b) s)
  where
    one_few : (t : Bool) (s : StepperDef) → length (cond t (Stepper s.oid s.step_pin s.dir_pin ∷ []) []) ≤ 1
    one_few true s = omega arith
    one_few false s = omega arith

pub endstops_few : (oid : ℕ) (pins : List ℕ) → length (setup_endstops oid pins) ≡ length pins
endstops_few oid [] = refl
endstops_few oid (p ∷ pins) = ap suc (endstops_few (oid + 1) pins)

pub setups_few : (m : Machine) (b : ℕ) → IsValidMachine m → length (configuration m b) < 1_000
unfolding configuration
setups_few m b v =
    let steppers = flat_map (setup_stepper b) m.steppers in
    let endstops = setup_endstops (trigger_of m b + 1) (endstop_pins m b) in
    let s = steppers_few b m.steppers in
    let p = pins-few b m.axes [] in
    let e = endstops_few (trigger_of m b + 1) (endstop_pins m b) in
    let few = v.steppers_few in
    let three = v.axes_three in
    let tail = length-append endstops (Finish ∷ []) in
    omega (arith, length-append steppers (Trsync (trigger_of m b) ∷ (endstops ++ Finish ∷ [])))

more_done : (t : BoardTurn) (turns : List BoardTurn) → filter configures (commands_in (t ∷ turns)) ≡ filter configures (commands_in turns) ++ filter configures t.control.commands
more_done t turns = filter_both (commands_in turns) t.control.commands

abbrev Done : Machine → ℕ → List BoardTurn → Asking → Type 0
Done m b turns a = Conf (configuration m b) a.stage (filter configures (commands_in turns))

none_more : (m : Machine) (b : ℕ) (t : BoardTurn) (turns : List BoardTurn) (g : Stage) → NoSetup t.control.commands → Conf (configuration m b) g (filter configures (commands_in turns))
    → Conf (configuration m b) g (filter configures (commands_in (t ∷ turns)))
none_more m b t turns g e c =
    let done = filter configures (commands_in turns) in
    subst (λ (l : List Cmd). Conf (configuration m b) g l) (sym (more_done t turns ∙ ap (λ (l : List Cmd). done ++ l) e ∙ append-nil done)) c

turn_done : (m : Machine) (b : ℕ) (c : Came) (r : Known) (k : ℕ) (a : Asking) (x : Reacted) (t : BoardTurn) (turns : List BoardTurn) → IsValidMachine m → Done m b turns a
    → BoardTurned m r b k c.states a x t.control → (y : Asking) → asking_at b x.known.askings.items ≡ y ∷ [] → Done m b (t ∷ turns) y
turn_done m b c r k a x t turns v d (Asks p g) y e =
    let setups = configuration m b in
    let ready_a = ready setups a in
    let done = filter configures (commands_in turns) in
    let same : after_asks setups k ready_a ready_a.stage ≡ y = one_of _ y (sym g.asking ∙ e) in
    let next = conf_asks setups k ready_a ready_a.stage done (setups_few m b v) refl (conf_ready setups a.stage done d) in
    let commands : filter configures t.control.commands ≡ filter configures (asks setups k ready_a ready_a.stage) = ap (λ (z : Control). filter configures z.commands) g.control_is in
    let whole = more_done t turns ∙ ap (λ (l : List Cmd). done ++ l) commands in
    subst (λ (z : Asking). Done m b (t ∷ turns) z) same (subst (λ (l : List Cmd). Conf setups (after_asks setups k ready_a ready_a.stage).stage l) (sym whole) next)
turn_done m b c r k a x t turns v d (Ends p g) y e =
    let setups = configuration m b in
    let ready_a = ready setups a in
    let same : ready_a ≡ y = one_of _ y (sym g.asking ∙ e) in
    let next = none_more m b t turns ready_a.stage (ap (λ (z : Control). filter configures z.commands) g.control_is) (conf_ready setups a.stage (filter configures (commands_in turns)) d) in
    subst (λ (z : Asking). Done m b (t ∷ turns) z) same next
turn_done m b c r k a x t turns v d (Runs p g) y e =
    let waits = waits_in (drifts (board_at m b).drift) k a in
    let turn = homing_turn r.clocks k c.states r.homing in
    let commands = homing_commands m turn g.own b in
    let after = after_question k commands waits in
    let same : after ≡ y = one_of _ y (sym g.asking ∙ e) in
    let none : NoSetup t.control.commands = ap (λ (z : Control). filter configures z.commands) g.control_is ∙ run_none commands waits (stops g.stop) (home_none m g.own b turn.start (axis_at m turn.axis) turn.ctls.items) in
    let stage : a.stage ≡ after.stage = sym (question_stage k commands waits ∙ waits_stage (drifts (board_at m b).drift) k a) in
    let next = none_more m b t turns after.stage none (subst (λ (z : Stage). Conf (configuration m b) z (filter configures (commands_in turns))) stage d) in
    subst (λ (z : Asking). Done m b (t ∷ turns) z) same next

pub done : (m : Machine) (switches : List Switch) (pins : List (List Level)) (entries : List Entry) (b : ℕ) (came : List Came) (turns : List BoardTurn) → IsValidMachine m
    → IsInRun m switches pins entries b came turns → (y : Asking) → asking_at b (known_by m switches came).askings.items ≡ y ∷ [] → Done m b turns y
done m switches pins entries b [] [] v r y e =
    let same : new_asking ≡ y = one_of new_asking y (sym (new_at b m.boards r.board) ∙ e) in
    subst (λ (z : Asking). Done m b [] z) same refl
done m switches pins entries b [] (t ∷ turns) v r y e = absurd r.both
done m switches pins entries b (c ∷ before) [] v r y e = absurd r.both
done m switches pins entries b (c ∷ before) (t ∷ turns) v r y e =
    let x = turn_of m switches pins entries b c before t turns r in
    let old = done m switches pins entries b before turns v (run_before m switches pins entries b c before t turns r) x.first x.was in
    let heard : Done m b turns x.a = subst (λ (z : Asking). Done m b turns z) (sym x.hears) (conf_heard (configuration m b) (filter configures (commands_in turns)) x.first (latest_state turns) old) in
    turn_done m b c (noted m c.note (known_by m switches before)) (length before) x.a (last_reacted m switches c before) t turns v heard x.turned y e

connected_done : (setups : List Setup) (stage : Stage) (done : List Cmd) → is_connected stage ≡ true → Conf setups stage done → done ≡ map setup_command setups
connected_done setups Connected done h c = c
connected_done setups m done h c = cc

first_done : (setups : List Setup) (stage : Stage) (done : List Cmd) → Conf setups stage done → (rest : List Cmd) × (done ++ rest ≡ map setup_command setups)
first_done setups (Configure n) done c =
    let rest = map setup_command (drop n setups) in
    (rest, ap (λ (l : List Cmd). l ++ rest) c.1 ∙ sym (map-append setup_command (take n setups) (drop n setups)) ∙ ap (λ (l : List Setup). map setup_command l) (take-append-drop n setups))
first_done setups Config done c = ([], append-nil done ∙ c)
first_done setups Connected done c = ([], append-nil done ∙ c)
first_done setups m done c = (map setup_command setups, ap (λ (l : List Cmd). l ++ map setup_command setups) c)

-- once connecting ended, the whole configuration was ordered; before, a front of it
pub all_configured : (m : Machine) (switches : List Switch) (pins : List (List Level)) (entries : List Entry) (b : ℕ) (came : List Came) (turns : List BoardTurn) → IsValidMachine m
    → IsInRun m switches pins entries b came turns → ((known_by m switches came).phase ≡ Connecting → ⊥) → filter configures (commands_in turns) ≡ map setup_command (configuration m b)
all_configured m switches pins entries b came turns v r n =
    let s = stands m switches pins entries b came turns r in
    connected_done (configuration m b) s.a.stage (filter configures (commands_in turns)) (s.connected n) (done m switches pins entries b came turns v r s.a s.asking)

pub some_configured : (m : Machine) (switches : List Switch) (pins : List (List Level)) (entries : List Entry) (b : ℕ) (came : List Came) (turns : List BoardTurn) → IsValidMachine m
    → IsInRun m switches pins entries b came turns → (rest : List Cmd) × (filter configures (commands_in turns) ++ rest ≡ map setup_command (configuration m b))
some_configured m switches pins entries b came turns v r =
    let s = stands m switches pins entries b came turns r in
    first_done (configuration m b) s.a.stage (filter configures (commands_in turns)) (done m switches pins entries b came turns v r s.a s.asking)

-- in the turn in which connecting ends nothing is ordered
ends_quiet : (m : Machine) (b : ℕ) (c : Came) (r : Known) (k : ℕ) (a : Asking) (x : Reacted) (t : BoardTurn) (turns : List BoardTurn) → r.phase ≡ Connecting → (x.known.phase ≡ Connecting → ⊥)
    → BoardTurned m r b k c.states a x t.control → filter configures (commands_in (t ∷ turns)) ≡ filter configures (commands_in turns)
ends_quiet m b c r k a x t turns p9 p10 p11 = search (rules, more_done, append-nil, running_not)

pub configured_before : (m : Machine) (switches : List Switch) (pins : List (List Level)) (entries : List Entry) (b : ℕ) (c : Came) (before : List Came) (t : BoardTurn) (turns : List BoardTurn) → IsValidMachine m
    → IsInRun m switches pins entries b (c ∷ before) (t ∷ turns) → (known_by m switches before).phase ≡ Connecting → ((known_by m switches (c ∷ before)).phase ≡ Connecting → ⊥)
    → filter configures (commands_in turns) ≡ map setup_command (configuration m b)
configured_before m switches pins entries b c before t turns v r p n =
    let x = turn_of m switches pins entries b c before t turns r in
    let k = noted m c.note (known_by m switches before) in
    let quiet = ends_quiet m b c k (length before) x.a (last_reacted m switches c before) t turns (noted_phase m c.note (known_by m switches before) ∙ p) n x.turned in
    sym quiet ∙ all_configured m switches pins entries b (c ∷ before) (t ∷ turns) v r n
