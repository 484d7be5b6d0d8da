-- Until the reactor stops, no board is told to.
use Rattle.std.proofs.Common.{◌≡◌, ◌⊎◌, ℕ, Bool, true, false, cond, List, [], ◌∷◌, ◌++◌, All, drop, length, map, Option, Some, None, refl, sym, ◌∙◌, subst, inl, inr, rules}
use Rattle.laws_board.proofs.Names.{All-cons, All-nil, Level, Machine, Clocks, board_at, Cmd, State, Control, Entry, Switch, orders, Orders, Asking, Stage, Identify, Uptime, Configure, Config, Connected, Setup, is_question_due, ready, asks_now, drifts, waits_in, configuration, Homing, homing_turn, Known, Phase, Connecting, Stopping, noted, Reacted, stop_command, stops, Came, known_by, last_reacted}
use Rattle.msg_code.specs.declared.cmd.Cmd.TheVariants as cmd
use Rattle.board_asking.specs.declared.setup.Setup.TheVariants.{Oids, Stepper, Trsync, Endstop, Finish}
use Rattle.board_asking.specs.Asking.{asks, question}
use Rattle.board_asking.specs.Machine.{control_bytes, fitting, setup_command}
use Rattle.host_reactor.specs.declared.ordered.Phase.TheVariants.{Running}
use Rattle.host_reactor.specs.Reactor.{phase_after, run_control}
use Rattle.laws_board.specs.turns.Turns.{BoardTurn}
use Rattle.laws_board.specs.clocks.Runs.{IsInRun, orders_in}
use Rattle.laws_board.proofs.clocks.Lines.{noted_phase, run_before, turn_of}
use Rattle.laws_board.proofs.clocks.Turning.{Asks, BoardTurned, Ends, Runs, goes}
use Rattle.laws_board.specs.sections.Stops.{IsNoStop, NeverStop}
use Rattle.laws_run.specs.run_ends.Ends.{NoneHomes}

-- commands of which none is the order to stop
abbrev pub NoStops : List Cmd → Type 0
NoStops [] = Unit {0}
NoStops (c ∷ cs) = IsNoStop c × NoStops cs

pub all_none : (cs : List Cmd) → NoStops cs → All IsNoStop cs
all_none [] n = All-nil IsNoStop
all_none (c ∷ cs) n = All-cons IsNoStop c cs n.0 (all_none cs n.1)

pub none_if : (b : Bool) (cs : List Cmd) → NoStops cs → NoStops (cond b cs [])
none_if true cs n = n
none_if false cs n = tt

pub one_setup : (s : Setup) → IsNoStop (setup_command s)
one_setup (Oids count) = tt
one_setup c = tt

pub all_setups : (ss : List Setup) → NoStops (map setup_command ss)
all_setups [] = tt
all_setups (s ∷ ss) = (one_setup s, all_setups ss)

pub asks_none : (turn : ℕ) (setups : List Setup) (a : Asking) (stage : Stage) → NoStops (asks setups turn a stage)
asks_none turn setups a (Configure n) = all_setups (fitting control_bytes (drop n setups))
asks_none turn setups a Connected = none_if (is_question_due turn a.since) (question Connected) tt
asks_none turn setups a c = none_if (is_question_due turn a.since) (question c) (tt, tt)

-- a running turn in which no board homes, and which doesn't stop
runs_none : (m : Machine) (k b : ℕ) (clocks : List Clocks) (states : List State) (own : Clocks) (a : Asking) (h : Option Homing) (stop : Option ℕ) → h ≡ None → ((line : ℕ) → phase_after stop ≡ Stopping line → ⊥)
    → NoStops (run_control m k b (homing_turn clocks k states h) (stop_command (stops stop)) own a).commands
runs_none m k b clocks states own a (Some h) stop e n = absurd (let f : Some h ≡ None = e in cc)
runs_none m k b clocks states own a None (Some line) e n = absurd (n line refl)
runs_none m k b clocks states own a None None e n = asked (asks_now [] a)
  where
    asked : (t : Bool) → NoStops (cond t (cmd.GetUptime ∷ []) [] ++ [])
    asked true = (tt, tt)
    asked false = tt

turn_none : (m : Machine) (b k : ℕ) (c : Came) (r : Known) (a : Asking) (x : Reacted) (t : BoardTurn) → BoardTurned m r b k c.states a x t.control → r.homing ≡ None → ((line : ℕ) → x.known.phase ≡ Stopping line → ⊥) → NoStops t.control.commands
turn_none m b k c r a x t p8 p9 p10 = search (rules, ready, configuration, asks_none, runs_none, waits_in, drifts, board_at)

-- a turn that goes on finds the reactor not stopping
pub not_yet : (p : Phase) (line : ℕ) → (p ≡ Connecting) ⊎ (p ≡ Running) → p ≡ Stopping line → ⊥
not_yet p line (inl c) f = let g : Connecting ≡ Stopping line = sym c ∙ f in cc
not_yet p line (inr c) f = let g : Running ≡ Stopping line = sym c ∙ f in cc

pub not_before : (m : Machine) (switches : List Switch) (c : Came) (before : List Came) → (last_reacted m switches c before).ordered.end ≡ None → (line : ℕ) → (known_by m switches before).phase ≡ Stopping line → ⊥
not_before m switches c before e line f = search (rules, known_by, not_yet, noted, goes, noted_phase)

pub none_later : (xs : List Orders) (o : Orders) → NeverStop xs → All IsNoStop o.control.commands → NeverStop (xs ++ o ∷ [])
none_later [] o n a = (a, tt)
none_later (x ∷ xs) o n a = (n.0, none_later xs o n.1 a)

pub never_stop : (m : Machine) (switches : List Switch) (pins : List (List Level)) (entries : List Entry) (b : ℕ) (came : List Came) (turns : List BoardTurn) → IsInRun m switches pins entries b came turns → NoneHomes m switches came
    → ((line : ℕ) → (known_by m switches came).phase ≡ Stopping line → ⊥) → NeverStop (orders_in turns)
never_stop m switches pins entries b [] [] r h n = tt
never_stop m switches pins entries b [] (t ∷ turns) r h n = absurd r.both
never_stop m switches pins entries b (c ∷ before) [] r h n = absurd r.both
never_stop m switches pins entries b (c ∷ before) (t ∷ turns) r h n =
    let x = turn_of m switches pins entries b c before t turns r in
    let k = noted m c.note (known_by m switches before) in
    let none = turn_none m b (length before) c k x.a (last_reacted m switches c before) t x.turned h.0 n in
    none_later (orders_in turns) (orders t.control t.batch)
    (never_stop m switches pins entries b before turns (run_before m switches pins entries b c before t turns r) h.1 (not_before m switches c before r.goes_on.0)) (all_none t.control.commands none)
