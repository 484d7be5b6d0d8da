-- No board is told to stop while the reactor is not about to, axes home or not.
use Rattle.std.proofs.Common.{◌≡◌, ℕ, List, [], ◌∷◌, ◌++◌, length, Option, Some, None, refl, sym, ◌∙◌, subst}
use Rattle.laws_board.proofs.Names.{Level, AxisDef, Machine, Clocks, axis_at, board_at, Cmd, Control, Entry, Switch, orders, Asking, ready, asks_now, clock_question, drifts, waits_in, configuration, Ctl, Order, HomingTurn, command_to, commands_to, homing_turn, order_command, Known, Stopping, noted, Reacted, homing_commands, stop_command, stops, Came, known_by, last_reacted}
use Rattle.std.specs.Prelude.{◌==◌}
use Rattle.msg_code.specs.declared.cmd.Cmd.TheVariants as cmd
use Rattle.trigger_group.specs.declared.order.Order.TheVariants as order
use Rattle.host_reactor.specs.Reactor.{phase_after, run_control}
use Rattle.laws_board.specs.turns.Turns.{BoardTurn}
use Rattle.laws_board.specs.clocks.Runs.{IsInRun, orders_in}
use Rattle.laws_board.proofs.clocks.Lines.{run_before, turn_of}
use Rattle.laws_board.proofs.clocks.Turning.{Asks, BoardTurned, Ends, Runs}
use Rattle.laws_board.specs.sections.Stops.{IsNoStop, NeverStop}
use Rattle.laws_run.proofs.run_ends.Unstopped.{NoStops, all_none, asks_none, none_if, none_later, not_before}

-- the orders of a homing group
order_none : (m : Machine) (clocks : Clocks) (b start : ℕ) (axis : AxisDef) (what : Order) → IsNoStop (order_command m clocks b start axis what)
order_none m clocks b start axis (order.Reset s) = tt
order_none m clocks b start axis c = tt

none_both : (xs ys : List Cmd) → NoStops xs → NoStops ys → NoStops (xs ++ ys)
none_both [] ys a b = b
none_both (x ∷ xs) ys a b = (a.0, none_both xs ys a.1 b)

ctls_none : (m : Machine) (clocks : Clocks) (b start : ℕ) (axis : AxisDef) (ctls : List Ctl) → NoStops (commands_to m clocks b start axis ctls)
ctls_none m clocks b start axis [] = tt
ctls_none m clocks b start axis (c ∷ ctls) =
    none_both (command_to m clocks b start axis c) (commands_to m clocks b start axis ctls) (none_if (c.board == b) (order_command m clocks b start axis c.what ∷ []) (order_none m clocks b start axis c.what, tt))
    (ctls_none m clocks b start axis ctls)

-- a running turn which doesn't stop
runs_none : (m : Machine) (k b : ℕ) (turn : HomingTurn) (own : Clocks) (a : Asking) (stop : Option ℕ) → ((line : ℕ) → phase_after stop ≡ Stopping line → ⊥) → NoStops (run_control m k b turn (stop_command (stops stop)) own a).commands
runs_none m k b turn own a (Some line) n = absurd (n line refl)
runs_none m k b turn own a None n =
    let commands = homing_commands m turn own b in
    none_both commands (clock_question commands a ++ []) (ctls_none m own b turn.start (axis_at m turn.axis) turn.ctls.items) (none_both (clock_question commands a) [] (none_if (asks_now commands a) (cmd.GetUptime ∷ []) (tt, tt)) tt)

turn_none : (m : Machine) (b k : ℕ) (c : Came) (r : Known) (a : Asking) (x : Reacted) (t : BoardTurn) → BoardTurned m r b k c.states a x t.control → ((line : ℕ) → x.known.phase ≡ Stopping line → ⊥) → NoStops t.control.commands
turn_none m b k c r a x t (Asks p g) n =
    let Of : Control → Type 0 = λ y. NoStops y.commands in
    let s = ready (configuration m b) a in
    subst Of (sym g.control_is) (asks_none k (configuration m b) s s.stage)
turn_none m b k c r a x t (Ends p g) n =
    let Of : Control → Type 0 = λ y. NoStops y.commands in
    subst Of (sym g.control_is) tt
turn_none m b k c r a x t (Runs p g) n =
    let Of : Control → Type 0 = λ y. NoStops y.commands in
    subst Of (sym g.control_is) (runs_none m k b (homing_turn r.clocks k c.states r.homing) g.own (waits_in (drifts (board_at m b).drift) k a) g.stop (λ line e. n line (g.phase ∙ e)))

pub never_stop : (m : Machine) (switches : List Switch) (pins : List (List Level)) (entries : List Entry) (b : ℕ) (came : List Came) (turns : List BoardTurn) → IsInRun m switches pins entries b came turns
    → ((line : ℕ) → (known_by m switches came).phase ≡ Stopping line → ⊥) → NeverStop (orders_in turns)
never_stop m switches pins entries b [] [] r n = tt
never_stop m switches pins entries b [] (t ∷ turns) r n = absurd r.both
never_stop m switches pins entries b (c ∷ before) [] r n = absurd r.both
never_stop m switches pins entries b (c ∷ before) (t ∷ turns) r n =
    let x = turn_of m switches pins entries b c before t turns r in
    let k = noted m c.note (known_by m switches before) in
    let none = turn_none m b (length before) c k x.a (last_reacted m switches c before) t x.turned n in
    none_later (orders_in turns) (orders t.control t.batch)
    (never_stop m switches pins entries b before turns (run_before m switches pins entries b c before t turns r) (not_before m switches c before r.goes_on.0)) (all_none t.control.commands none)
