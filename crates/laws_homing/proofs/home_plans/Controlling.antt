-- The controls of a board are those of a run in which axes home.
use Rattle.std.proofs.Common.{◌≡◌, ℕ, ◌≤◌, ◌⊎◌, inl, inr, List, [], ◌∷◌, length, map, Option, Some, None, refl, ap, sym, ◌∙◌, subst, arith, rules}
use Rattle.laws_board.proofs.Names.{map-append, All-cons, All-nil, Level, Machine, Clocks, IsValidMachine, clocks_at, turn_tick, base_of, Cmd, Control, Entry, Switch, Asking, ready, configuration, trigger_of, Homing, Started, Known, Phase, Connecting, Stopping, noted, Reacted, Came, known_by, last_reacted}
use Rattle.msg_code.specs.declared.cmd.Cmd.TheVariants as cmd
use Rattle.host_reactor.specs.declared.ordered.Phase.TheVariants.{Running}
use Rattle.laws_board.specs.turns.Turns.{BoardTurn}
use Rattle.laws_board.specs.clocks.Ordered.{MayOrder, commands_in, times_made}
use Rattle.laws_board.specs.clocks.Runs.{IsInRun}
use Rattle.laws_board.proofs.clocks.Controls.{EachMay, may_ask}
use Rattle.laws_board.proofs.clocks.Lines.{as_long, noted_phase, run_before, turn_of}
use Rattle.laws_board.proofs.clocks.Made.{made_none, times_both}
use Rattle.laws_board.proofs.clocks.Turning.{Asks, BoardTurned, Ends, Runs}
use Rattle.std.specs.List.{All}
use Rattle.laws_board.specs.sections.Homes.{IsControlIn, RunSection}
use Rattle.laws_board.specs.orders.Homed.{IsOneOf}
use Rattle.laws_board.proofs.orders.Controlled.{made_small}
use Rattle.laws_board.proofs.orders.Homing.{controls_in}
use Rattle.laws_homing.specs.home_plans.Notes.{CameNotes, HoldControlsIn, KnowBases, ShowsSections, WasBegun}
use Rattle.laws_homing.proofs.home_plans.Knowing.{now_was}
use Rattle.laws_board.proofs.causes.Ended.{running_not, stopping_not}
use Rattle.laws_board.proofs.causes.Soon.{phase_or}
use Rattle.axis_homing.proofs.Room.{on-few}

-- the commands of a turn in which the boards connect
one_asks : (clocks : Clocks) (ss : List RunSection) (k : ℕ) (c : Cmd) (cs : List Cmd) → MayOrder None k c → ((oid : ℕ) → 256 ≤ oid → times_made oid (c ∷ cs) ≡ 0) → IsControlIn clocks ss k c
one_asks clocks ss k (cmd.ConfigStepper oid step dir invert width) cs m f = made_small oid (times_made oid cs) (λ l. f oid l)
one_asks clocks ss k (cmd.QueueStep oid interval count add) cs m f = absurd m
one_asks clocks ss k (cmd.SetNextStepDir oid dir) cs m f = absurd m
one_asks clocks ss k (cmd.ResetStepClock oid clock) cs m f = absurd m
one_asks clocks ss k c cs m f = tt

all_ask : (clocks : Clocks) (ss : List RunSection) (k : ℕ) (cs : List Cmd) → EachMay None k cs → ((oid : ℕ) → 256 ≤ oid → times_made oid cs ≡ 0) → All (IsControlIn clocks ss k) cs
all_ask clocks ss k [] m f = All-nil (IsControlIn clocks ss k)
all_ask clocks ss k (c ∷ cs) m f = All-cons (IsControlIn clocks ss k) c cs (one_asks clocks ss k c cs m.0 f) (all_ask clocks ss k cs m.1 (λ oid l. let z = f oid l in omega arith))

turn_asks : (m : Machine) (b : ℕ) (c : Came) (r : Known) (k : ℕ) (a : Asking) (x : Reacted) (t : BoardTurn) → r.phase ≡ Connecting → BoardTurned m r b k c.states a x t.control → EachMay None k t.control.commands
turn_asks m b c r k a x t e (Asks p g) =
    let ready_a = ready (configuration m b) a in
    subst (λ (y : Control). EachMay None k y.commands) (sym g.control_is) (may_ask None k k (configuration m b) ready_a ready_a.stage)
turn_asks m b c r k a x t e (Ends p g) = subst (λ (y : Control). EachMay None k y.commands) (sym g.control_is) tt
turn_asks m b c r k a x t e (Runs p g) = absurd (running_not (sym p ∙ e))

asks_in : (m : Machine) (switches : List Switch) (pins : List (List Level)) (entries : List Entry) (b : ℕ) (c : Came) (before : List Came) (t : BoardTurn) (turns : List BoardTurn) (clocks : Clocks) (ss : List RunSection) → IsValidMachine m
    → IsInRun m switches pins entries b (c ∷ before) (t ∷ turns) → (known_by m switches before).phase ≡ Connecting → All (IsControlIn clocks ss (length before)) t.control.commands
asks_in m switches pins entries b c before t turns clocks ss v r e =
    let s = turn_of m switches pins entries b c before t turns r in
    let n = noted m c.note (known_by m switches before) in
    let steppers = v.steppers_few in
    let few : trigger_of m b ≤ 16 = omega (arith, on-few b m.steppers) in
    all_ask clocks ss (length before) t.control.commands (turn_asks m b c n (length before) s.a (last_reacted m switches c before) t (noted_phase m c.note (known_by m switches before) ∙ e) s.turned)
    (λ oid l. let none = made_none m switches pins entries b (c ∷ before) (t ∷ turns) v r oid (omega arith) in let both = times_both oid (commands_in turns) t.control.commands in omega arith)

one_of : (clocks known : Clocks) (part : Started → RunSection) (begun : List Started) (ss : List RunSection) (o : Option Homing) → ShowsSections part begun ss → WasBegun begun o
    → ((h : Homing) (s : Started) → o ≡ Some h → h.start ≡ s.start → turn_tick known h.start ≡ base_of clocks (part s).section) → IsOneOf o known clocks ss
one_of clocks known part begun ss o p6 p7 p8 = search (rules, map-append)

pub all_hold : (m : Machine) (switches : List Switch) (pins : List (List Level)) (entries : List Entry) (b : ℕ) (clocks : Clocks) (part : Started → RunSection) (begun : List Started) (ss : List RunSection) (came : List Came) (turns : List BoardTurn)
    → IsValidMachine m → IsInRun m switches pins entries b came turns → CameNotes begun came → ShowsSections part begun ss → KnowBases m switches b clocks part came → HoldControlsIn clocks ss turns
all_hold m switches pins entries b clocks part begun ss [] [] v r notes shows bases = tt
all_hold m switches pins entries b clocks part begun ss [] (t ∷ turns) v r notes shows bases = absurd r.both
all_hold m switches pins entries b clocks part begun ss (c ∷ before) [] v r notes shows bases = absurd r.both
all_hold m switches pins entries b clocks part begun ss (c ∷ before) (t ∷ turns) v r notes shows bases =
    let now = noted m c.note (known_by m switches before) in
    let was = now_was m switches begun c before r.goes_on.1 notes in
    let goes = λ (past : (known_by m switches before).phase ≡ Connecting → ⊥).
    controls_in m switches pins entries b c before t turns now.homing clocks ss v r refl (one_of clocks (clocks_at now.clocks b) part begun ss now.homing shows was (bases.0 past)) in
    let held : All (IsControlIn clocks ss (length before)) t.control.commands = elim (phase_or (known_by m switches before).phase) [
      | inl e ↦ asks_in m switches pins entries b c before t turns clocks ss v r e
      | inr past ↦ goes past
    ] in
    let long = as_long m switches b before turns r.both.2 in (
      subst (λ (k : ℕ). All (IsControlIn clocks ss k) t.control.commands) long held,
      all_hold m switches pins entries b clocks part begun ss before turns v (run_before m switches pins entries b c before t turns r) notes.1 shows bases.1,
    )
