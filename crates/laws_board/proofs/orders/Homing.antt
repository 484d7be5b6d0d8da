-- The commands of a control in a run in which axes home.
use Rattle.std.proofs.Common.{◌≡◌, ℕ, suc, ◌+◌, ◌%◌, ◌^◌, ◌≤◌, inl, inr, true, List, [], ◌∷◌, ◌++◌, length, Option, Some, None, ap, sym, ◌∙◌, subst, arith, rules}
use Rattle.laws_board.proofs.Names.{All-cons, All-head, All-nil, All-tail, Level, Machine, Clocks, IsValidMachine, clocks_at, turn_tick, Cmd, Entry, Switch, Homing, low, trigger_of, noted, Came, known_by, base_of}
use Rattle.std.specs.List.{All}
use Rattle.msg_code.specs.declared.cmd.Cmd.TheVariants as cmd
use Rattle.laws_board.specs.turns.Turns.{BoardTurn}
use Rattle.laws_board.specs.clocks.Clocked.{SetsTo}
use Rattle.laws_board.specs.clocks.Ordered.{MayOrder, commands_in, times_made}
use Rattle.laws_board.specs.clocks.Runs.{IsInRun}
use Rattle.laws_board.proofs.clocks.Clocked.{clocks_set}
use Rattle.laws_board.proofs.clocks.Made.{made_none, times_both}
use Rattle.laws_board.proofs.clocks.Ordering.{may_order}
use Rattle.laws_board.specs.sections.Homes.{IsControlIn, RunSection, SetsClock}
use Rattle.laws_board.specs.sections.Parts.{IsControl}
use Rattle.laws_board.specs.orders.Homed.{IsOneOf, IsUnderWay}
use Rattle.laws_board.proofs.orders.Controlled.{controls_plain, made_small}
use Rattle.axis_homing.proofs.Room.{on-few}

-- the clock that is set is that of a section among others
among : (clocks : Clocks) (past : List RunSection) (s : RunSection) (later : List RunSection) (turn clock : ℕ) → s.homes ≡ true → s.section.start ≤ turn + 254 → turn + 252 ≤ s.section.start
    → clock ≡ base_of clocks s.section % 2 ^ 32 → SetsClock clocks (past ++ s ∷ later) turn clock
among clocks [] s later turn clock homes soon late is = inl (homes, soon, late, is)
among clocks (x ∷ past) s later turn clock homes soon late is = inr (among clocks past s later turn clock homes soon late is)

sets : (h : Homing) (known clocks : Clocks) (ss : List RunSection) (turn clock : ℕ) → IsUnderWay h known clocks ss → turn + 252 ≤ h.group.start → h.group.start ≤ turn + 254 → clock ≡ low (turn_tick known h.start)
    → SetsClock clocks ss turn clock
sets h known clocks ss turn clock u late soon is = search (rules, among, low)

one_in : (h : Homing) (known clocks : Clocks) (ss : List RunSection) (k : ℕ) (c : Cmd) (cs : List Cmd) → IsUnderWay h known clocks ss → MayOrder (Some h) k c → SetsTo (turn_tick known h.start) c
    → ((oid : ℕ) → 256 ≤ oid → times_made oid (c ∷ cs) ≡ 0) → IsControlIn clocks ss k c
one_in h known clocks ss k (cmd.ConfigStepper oid step dir invert width) cs u m s f = made_small oid (times_made oid cs) (λ l. f oid l)
one_in h known clocks ss k (cmd.QueueStep oid interval count add) cs u m s f = absurd m
one_in h known clocks ss k (cmd.SetNextStepDir oid dir) cs u m s f = absurd m
one_in h known clocks ss k (cmd.ResetStepClock oid clock) cs u m s f = sets h known clocks ss k clock u m.0 m.1 s
one_in h known clocks ss k c cs u m s f = tt

all_in : (h : Homing) (known clocks : Clocks) (ss : List RunSection) (k : ℕ) (cs : List Cmd) → IsUnderWay h known clocks ss → All (MayOrder (Some h) k) cs → All (SetsTo (turn_tick known h.start)) cs
    → ((oid : ℕ) → 256 ≤ oid → times_made oid cs ≡ 0) → All (IsControlIn clocks ss k) cs
all_in h known clocks ss k [] u m s f = All-nil (IsControlIn clocks ss k)
all_in h known clocks ss k (c ∷ cs) u m s f =
    All-cons (IsControlIn clocks ss k) c cs (one_in h known clocks ss k c cs u (m 0 c (omega arith)) (s 0 c (omega arith)) f)
    (all_in h known clocks ss k cs u (λ i d l. m (suc i) d (omega arith)) (λ i d l. s (suc i) d (omega arith)) (λ oid l. let z = f oid l in omega arith))

-- a control of a run in which no axis homes
plain_one : (clocks : Clocks) (ss : List RunSection) (k : ℕ) (c : Cmd) → IsControl c → IsControlIn clocks ss k c
plain_one clocks ss k (cmd.ConfigStepper oid step dir invert width) i = i
plain_one clocks ss k (cmd.QueueStep oid interval count add) i = absurd i
plain_one clocks ss k (cmd.SetNextStepDir oid dir) i = absurd i
plain_one clocks ss k (cmd.ResetStepClock oid clock) i = absurd i
plain_one clocks ss k c i = tt

plain_in : (clocks : Clocks) (ss : List RunSection) (k : ℕ) (cs : List Cmd) → All IsControl cs → All (IsControlIn clocks ss k) cs
plain_in clocks ss k [] a = All-nil (IsControlIn clocks ss k)
plain_in clocks ss k (c ∷ cs) a =
    All-cons (IsControlIn clocks ss k) c cs (plain_one clocks ss k c (All-head IsControl c cs a)) (plain_in clocks ss k cs (All-tail IsControl c cs a))

pub controls_in : (m : Machine) (switches : List Switch) (pins : List (List Level)) (entries : List Entry) (b : ℕ) (c : Came) (before : List Came) (t : BoardTurn) (turns : List BoardTurn) (o : Option Homing)
    (clocks : Clocks) (ss : List RunSection) → IsValidMachine m → IsInRun m switches pins entries b (c ∷ before) (t ∷ turns) → (noted m c.note (known_by m switches before)).homing ≡ o
    → IsOneOf o (clocks_at (noted m c.note (known_by m switches before)).clocks b) clocks ss → All (IsControlIn clocks ss (length before)) t.control.commands
controls_in m switches pins entries b c before t turns None clocks ss v r is u =
    plain_in clocks ss (length before) t.control.commands (controls_plain m switches pins entries b c before t turns v r is)
controls_in m switches pins entries b c before t turns (Some h) clocks ss v r is u =
    let known = clocks_at (noted m c.note (known_by m switches before)).clocks b in
    let may = subst (λ (o : Option Homing). All (MayOrder o (length before)) t.control.commands) is (may_order m switches pins entries b c before t turns r) in
    let set = clocks_set m switches pins entries b c before t turns h r is in
    let steppers = v.steppers_few in
    let few : trigger_of m b ≤ 16 = omega (arith, on-few b m.steppers) in
    all_in h known clocks ss (length before) t.control.commands u may set
    (λ oid l. let none = made_none m switches pins entries b (c ∷ before) (t ∷ turns) v r oid (omega arith) in let both = times_both oid (commands_in turns) t.control.commands in omega arith)
