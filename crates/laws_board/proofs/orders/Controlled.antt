-- The commands of a control are control commands while no board homes.
use Rattle.std.proofs.Common.{◌≡◌, ℕ, suc, ◌+◌, ◌<◌, ◌≤◌, inl, inr, Bool, true, false, cond, List, [], ◌∷◌, length, Option, None, refl, ap, subst, arith, rules}
use Rattle.laws_board.proofs.Names.{eq-eqb, leb_tells, All-cons, All-nil, Level, Machine, IsValidMachine, Cmd, Entry, Switch, Homing, trigger_of, noted, Came, known_by}
use Rattle.std.specs.List.{All}
use Rattle.std.specs.Prelude.{◌==◌}
use Rattle.plan_types.specs.declared.machine.StepperDef.{StepperDef}
use Rattle.msg_code.specs.declared.cmd.Cmd.TheVariants as cmd
use Rattle.board_asking.specs.Machine.{steppers_on}
use Rattle.laws_board.specs.turns.Turns.{BoardTurn}
use Rattle.laws_board.specs.clocks.Ordered.{MayOrder, commands_in, times_made}
use Rattle.laws_board.specs.clocks.Runs.{IsInRun}
use Rattle.laws_board.proofs.clocks.Made.{made_none, times_both}
use Rattle.laws_board.proofs.clocks.Ordering.{may_order}
use Rattle.laws_board.specs.sections.Parts.{IsControl}
use Rattle.axis_homing.proofs.Room.{on-few}

-- a command that may be ordered, and makes no stepper with a great number
pub made_small : (oid : ℕ) (n : ℕ) → (256 ≤ oid → cond (oid == oid) 1 0 + n ≡ 0) → oid < 256
made_small oid n f = search (rules, leb_tells, eq-eqb)

one_control : (k : ℕ) (c : Cmd) (cs : List Cmd) → MayOrder None k c → ((oid : ℕ) → 256 ≤ oid → times_made oid (c ∷ cs) ≡ 0) → IsControl c
one_control k (cmd.ConfigStepper oid step dir invert width) cs m f = made_small oid (times_made oid cs) (λ l. f oid l)
one_control k (cmd.QueueStep oid interval count add) cs m f = absurd m
one_control k (cmd.SetNextStepDir oid dir) cs m f = absurd m
one_control k (cmd.ResetStepClock oid clock) cs m f = absurd m
one_control k (cmd.StepperStopOnTrigger oid other) cs m f = absurd m
one_control k c cs m f = tt

all_control : (k : ℕ) (cs : List Cmd) → All (MayOrder None k) cs → ((oid : ℕ) → 256 ≤ oid → times_made oid cs ≡ 0) → All IsControl cs
all_control k [] m f = All-nil IsControl
all_control k (c ∷ cs) m f =
    All-cons IsControl c cs (one_control k c cs (m 0 c (omega arith)) f) (all_control k cs (λ i d l. m (suc i) d (omega arith)) (λ oid l. let z = f oid l in omega arith))

pub controls_plain : (m : Machine) (switches : List Switch) (pins : List (List Level)) (entries : List Entry) (b : ℕ) (c : Came) (before : List Came) (t : BoardTurn) (turns : List BoardTurn) → IsValidMachine m
    → IsInRun m switches pins entries b (c ∷ before) (t ∷ turns) → (noted m c.note (known_by m switches before)).homing ≡ None → All IsControl t.control.commands
controls_plain m switches pins entries b c before t turns v r h =
    let may = may_order m switches pins entries b c before t turns r in
    let plain : All (MayOrder None (length before)) t.control.commands = subst (λ (o : Option Homing). All (MayOrder o (length before)) t.control.commands) h may in
    let steppers = v.steppers_few in
    let few : trigger_of m b ≤ 16 = omega (arith, on-few b m.steppers) in
    all_control (length before) t.control.commands plain
    (λ oid l. let none = made_none m switches pins entries b (c ∷ before) (t ∷ turns) v r oid (omega arith) in let both = times_both oid (commands_in turns) t.control.commands in omega arith)
