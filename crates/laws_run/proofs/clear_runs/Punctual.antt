-- Units that are released before the turn in which they are due are never late on a clear link.
use Rattle.std.proofs.Common.{◌≡◌, ℕ, suc, ◌+◌, ◌*◌, ◌<◌, ◌≤◌, Bool, List, [], ◌∷◌, ◌++◌, All, length, map, take, Option, Some, None, refl, ap, sym, ◌∙◌, subst, arith, inl, inr, append_assoc, rules}
use Rattle.std.specs.Prelude.{◌-◌}
use Rattle.laws_board.proofs.Names.{eqb_tells, leb_tells, All-head, All-tail, BoardClock, BoardDef, Level, board_tick, clock_of, turn_ns, Clocks, lines_tick, Cmd, dir_commands, reset_commands, step_command, StepUnit, Release, batch_at, BoardSection, Entry, Down, Up, Meant, plain, unit_orders, units_orders, Core, Do, Step, world_after, run_world, AreTurns, queued_in, first_state, IsTurn, LinkState, Orders, after_board, after_host, come}
use Rattle.clock_line.proofs.Turns.{turn-below}
use Rattle.msg_code.specs.declared.cmd.Cmd.TheVariants as cmd
use Rattle.board_world.specs.declared.event.Event.TheVariants.{Pass}
use Rattle.board_world.specs.Orders.{unit_ticks}
use Rattle.board_world.specs.World.{AllFair}
use Rattle.link_work.specs.Ends.{EndSo, Ended, last_link, stretch, up_to}
use Rattle.link_work.specs.Late.{AreFairTurns, BeginsAt, IsLate, IsSteps, turn_steps}
use Rattle.link_work.specs.Turn.{host_steps}
use Rattle.link_work.proofs.Shut.{unit_begins}
use Rattle.laws_board.specs.sections.Links.{ends_of, steps_of, steps_of_turn}
use Rattle.laws_board.specs.sections.Parts.{IsControl}
use Rattle.laws_board.specs.sections.Runs.{AreSpilled, IsSpilled}
use Rattle.laws_board.proofs.sections.Calm.{AllQuiet, first_clear, none_unquiet, stretch_quiet, take_quiet, turns_quiet}
use Rattle.laws_board.proofs.sections.Linking.{same_bool, turn_runs}
use Rattle.laws_board.proofs.sections.Releasing.{AreFrom}
use Rattle.laws_board.proofs.sections.Waiting.{AreInside, Frame}
use Rattle.laws_board.specs.plans.Given.{TookControls}
use Rattle.laws_run.specs.clear_runs.Clear.{AllSoon, AreSoon}

-- of the units that are released before a turn each begins at the board's tick of its turn or later
abbrev pub AreAhead : ℕ → (ℕ → ℕ) → List Release → Type 0
AreAhead turns own [] = Unit {0}
AreAhead turns own (r ∷ rs) = (r.turn < turns → own r.turn ≤ r.unit.first) × AreAhead turns own rs

-- each of them is released so many turns before the one in which it is due, or earlier
abbrev pub AreLed : ℕ → ℕ → List Release → Type 0
AreLed turns n [] = Unit {0}
AreLed turns n (r ∷ rs) = (r.turn < turns → r.turn + n ≤ r.unit.due) × AreLed turns n rs

abbrev pub AllLed : ℕ → ℕ → List BoardSection → Type 0
AllLed turns n [] = Unit {0}
AllLed turns n (s ∷ ss) = AreLed turns n s.releases × AllLed turns n ss

soon_led : (turns : ℕ) (rs : List Release) → AreSoon turns rs → AreLed turns 1 rs
soon_led turns [] a = tt
soon_led turns (r ∷ rs) a = ((λ low. elim (leb_tells (suc r.unit.due) turns) [ inl p ↦ (let soon = a.0 (omega (arith, p.1)) in omega (arith, soon)) | inr p ↦ omega (arith, p.1, low) ]), soon_led turns rs a.1)

pub all_soon_led : (turns : ℕ) (ss : List BoardSection) → AllSoon turns ss → AllLed turns 1 ss
all_soon_led turns [] a = tt
all_soon_led turns (s ∷ ss) a = (soon_led turns s.releases a.0, all_soon_led turns ss a.1)

spilled_led : (turns : ℕ) (rs : List Release) → IsSpilled turns 0 rs → AreLed turns 0 rs
spilled_led turns [] a = tt
spilled_led turns (r ∷ rs) a = ((λ low. elim (leb_tells (suc r.unit.due) turns) [ inl p ↦ (let late = a.0 (omega (arith, p.1)) in omega (arith, late)) | inr p ↦ omega (arith, p.1, low) ]), spilled_led turns rs a.1)

pub all_spilled_led : (turns : ℕ) (ss : List BoardSection) → AreSpilled turns 0 ss → AllLed turns 0 ss
all_spilled_led turns [] a = tt
all_spilled_led turns (s ∷ ss) a = (spilled_led turns s.releases a.0, all_spilled_led turns ss a.1)

pub led_less : (turns fewer n : ℕ) (rs : List Release) → fewer ≤ turns → AreLed turns n rs → AreLed fewer n rs
led_less turns fewer n [] h s = tt
led_less turns fewer n (r ∷ rs) h s = ((λ low. s.0 (omega (arith, low, h))), led_less turns fewer n rs h s.1)

-- in a run of so many turns the board's lines are at most n turns behind it
abbrev pub AreNear : (own : ℕ → ℕ) (clocks : Clocks) (ready turns until n : ℕ) → Type 0
AreNear own clocks ready turns until n = (k : ℕ) → ready ≤ k → k < turns → k ≤ until → own k ≤ lines_tick clocks ((k + n) * turn_ns)

pub ahead_in : (f : Frame) (turns n : ℕ) (rs : List Release) → AreNear f.own f.clocks f.ready turns f.tracked.until n → AreInside f rs → AreLed turns n rs → AreFrom (f.ready + 1) rs → AreAhead turns f.own rs
ahead_in f turns n [] near i s a = tt
ahead_in f turns n (r ∷ rs) near i s a = (λ low. here low (s.0 low), ahead_in f turns n rs near i.1 s.1 a.1)
  where
    here : r.turn < turns → r.turn + n ≤ r.unit.due → f.own r.turn ≤ r.unit.first
    here low led =
        let first : r.unit.first < lines_tick f.clocks ((f.end + 1) * turn_ns) = omega (arith, i.0.up, i.0.high) in
        let last = turn-below f.clocks r.unit.first f.end first in
        let behind = near r.turn (omega (arith, a.0)) low (omega (arith, led, i.0.due, last, f.limit)) in
        let before = r.turn + n - 1 in
        let next : before + 1 ≡ r.turn + n = omega (arith, a.0) in
        let time = ap (λ x. lines_tick f.clocks (x * turn_ns)) next in
        elim (leb_tells (suc r.unit.first) (lines_tick f.clocks ((before + 1) * turn_ns))) [
          | inl p ↦ absurd (let q = turn-below f.clocks r.unit.first before (omega (arith, p.1)) in omega (arith, q, next, led, i.0.due))
          | inr p ↦ omega (arith, behind, time, p.1)
        ]

-- so those of a turn
abbrev pub AllFrom : ℕ → List StepUnit → Type 0
AllFrom t [] = Unit {0}
AllFrom t (u ∷ us) = (t ≤ u.first) × AllFrom t us

pub from_both : (t : ℕ) (us vs : List StepUnit) → AllFrom t us → AllFrom t vs → AllFrom t (us ++ vs)
from_both t [] vs a b = b
from_both t (u ∷ us) vs a b = (a.0, from_both t us vs a.1 b)

pub batch_from : (turns : ℕ) (own : ℕ → ℕ) (k : ℕ) (rs : List Release) → k < turns → AreAhead turns own rs → AllFrom (own k) (batch_at k rs)
batch_from turns own k [] low a = tt
batch_from turns own k (r ∷ rs) low a =
    let rest = batch_from turns own k rs low a.1 in
    elim (eqb_tells r.turn k) [
      | inl p ↦ let From : ℕ → Type 0 = λ n. own n ≤ r.unit.first in rw p.0 (subst From p.1 (a.0 (omega (arith, p.1, low))), rest)
      | inr p ↦ rw p.0 rest
    ]

-- the steps of some commands begin at a tick or later
abbrev pub InTime : ℕ → Meant → Type 0
InTime t m = IsSteps m.command → (first : ℕ) → BeginsAt first m.ticks → t ≤ first

abbrev pub AllInTime : ℕ → List Meant → Type 0
AllInTime t [] = Unit {0}
AllInTime t (m ∷ ms) = InTime t m × AllInTime t ms

pub time_both : (t : ℕ) (ms ns : List Meant) → AllInTime t ms → AllInTime t ns → AllInTime t (ms ++ ns)
time_both t [] ns a b = b
time_both t (m ∷ ms) ns a b = (a.0, time_both t ms ns a.1 b)

pub time_of : (t : ℕ) (front : List Meant) (m : Meant) (rest : List Meant) → AllInTime t (front ++ m ∷ rest) → InTime t m
time_of t [] m rest a = a.0
time_of t (x ∷ front) m rest a = time_of t front m rest a.1

resets_time : (t oid : ℕ) (o : Option ℕ) → AllInTime t (map plain (reset_commands oid o))
resets_time t oid None = tt
resets_time t oid (Some tick) = ((λ s first b. absurd s), tt)

dirs_time : (t oid : ℕ) (o : Option Bool) → AllInTime t (map plain (dir_commands oid o))
dirs_time t oid None = tt
dirs_time t oid (Some up) = ((λ s first b. absurd s), tt)

pub units_time : (t : ℕ) (us : List StepUnit) → AllFrom t us → AllInTime t (units_orders us)
units_time t [] a = tt
units_time t (u ∷ us) a =
    let step : Meant = record { command = step_command u; ticks = unit_ticks u } in
    let dirs = map plain (dir_commands u.stepper u.up) in
    let own : InTime t step = λ s first b. let e = unit_begins u first b in omega (arith, a.0, e) in
    time_both t (unit_orders u) (units_orders us)
    (time_both t (map plain (reset_commands u.stepper u.reset)) (dirs ++ step ∷ []) (resets_time t u.stepper u.reset) (time_both t dirs (step ∷ []) (dirs_time t u.stepper u.up) (own, tt)))
    (units_time t us a.1)

-- turns in which the units that are taken are fair
fair_split : (xs ys : List Step) (h : Core) → AllFair h (xs ++ ys) → AllFair h xs × AllFair (run_world xs h) ys
fair_split [] ys h a = (tt, a)
fair_split (x ∷ xs) ys h a = let r = fair_split xs ys (world_after h x) a.1 in ((a.0, r.0), r.1)

turn_fair : (clock : BoardClock) (turn : ℕ) (o : Orders) (l m : LinkState) (t u : IsTurn clock turn o l m) → AllFair l.core (steps_of_turn clock turn o t.resent l) → AllFair l.core (turn_steps clock turn o u.resent l)
turn_fair clock turn o l m t u f = search (rules, after_host, come, board_tick, after_board, append_assoc, same_bool)

pub fair_turns : (clock : BoardClock) (turn : ℕ) (os : List Orders) (l m : LinkState) (t : AreTurns clock turn os l m) → AllFair l.core (steps_of clock turn os l m t) → AreFairTurns clock turn os l (ends_of clock turn os l m t)
fair_turns clock turn [] l m t f = tt
fair_turns clock turn (o ∷ os) l m t f =
    let first = steps_of_turn clock turn o t.1.resent l in
    let both = fair_split first (steps_of clock (turn + 1) os t.0 m t.2) l.core f in
    let same : run_world first l.core ≡ t.0.core = sym (ap (λ (x : LinkState). x.core) t.1.becomes ∙ turn_runs clock turn o t.1.resent l) in
    let Fair : Core → Type 0 = λ h. AllFair h (steps_of clock (turn + 1) os t.0 m t.2) in
    ((λ u. turn_fair clock turn o l t.0 t.1 u both.0), fair_turns clock (turn + 1) os t.0 m t.2 (subst Fair same both.1))

-- how turns end
pub end_so : (clock : BoardClock) (turn : ℕ) (os : List Orders) (l m : LinkState) (t : AreTurns clock turn os l m) → EndSo clock turn os l (ends_of clock turn os l m t)
end_so clock turn [] l m t = refl
end_so clock turn (o ∷ os) l m t = (refl, t.1, end_so clock (turn + 1) os t.0 m t.2)

pub last_end : (clock : BoardClock) (turn : ℕ) (os : List Orders) (l m : LinkState) (t : AreTurns clock turn os l m) → last_link l (ends_of clock turn os l m t) ≡ m
last_end clock turn [] l m t = sym t
last_end clock turn (o ∷ os) l m t = last_end clock (turn + 1) os t.0 m t.2

up_to_quiet : (k : ℕ) (ends : List Ended) → AllQuiet ends → AllQuiet (up_to k ends)
up_to_quiet k [] q = tt
up_to_quiet k (e ∷ ends) q = elim (leb_tells e.turn k) [ inl p ↦ rw p.0 (q.0, up_to_quiet k ends q.1) | inr p ↦ rw p.0 (up_to_quiet k ends q.1) ]

-- steps that begin no sooner than the board's tick of their turn are not late where nothing is spoiled
pub not_late : (b : BoardDef) (pins : List (List Level)) (place : ℕ) (entries : List Entry) (os : List Orders) (m : LinkState) (t : AreTurns (clock_of b) 0 os (first_state b pins place entries) m) (tick first : ℕ) → entries ≡ []
    → (y : IsLate (clock_of b) os (first_state b pins place entries) (ends_of (clock_of b) 0 os (first_state b pins place entries) m t) tick first) → board_tick (clock_of b) (length y.before) ≤ first → ⊥
not_late b pins place entries os m t tick first e y low = search (rules, first_state, clock_of, up_to_quiet, stretch_quiet, take_quiet, turns_quiet, first_clear, none_unquiet)

-- nor is a board to which no units are sent
abbrev pub NoUnits : List Orders → Type 0
NoUnits [] = Unit {0}
NoUnits (o ∷ os) = (o.batch.units ≡ []) × NoUnits os

abbrev NoSteps : List Meant → Type 0
NoSteps [] = Unit {0}
NoSteps (m ∷ ms) = (IsSteps m.command → ⊥) × NoSteps ms

steps_of_none : (front : List Meant) (m : Meant) (rest : List Meant) → NoSteps (front ++ m ∷ rest) → IsSteps m.command → ⊥
steps_of_none [] m rest n s = n.0 s
steps_of_none (x ∷ front) m rest n s = steps_of_none front m rest n.1 s

one_none : (c : Cmd) → IsControl c → IsSteps c → ⊥
one_none (cmd.QueueStep oid interval count add) k s = k
one_none c k s = s

controls_none : (cs : List Cmd) → All IsControl cs → NoSteps (map plain cs ++ [])
controls_none [] a = tt
controls_none (c ∷ cs) a = (one_none c (All-head IsControl c cs a), controls_none cs (All-tail IsControl c cs a))

orders_none : (before : List Orders) (o : Orders) (more : List Orders) → NoUnits (before ++ o ∷ more) → TookControls (before ++ o ∷ more) → NoSteps (queued_in o)
orders_none [] o more n c =
    let Queued : List StepUnit → Type 0 = λ us. NoSteps (map plain o.control.commands ++ units_orders us) in
    subst Queued (sym n.0) (controls_none o.control.commands c.0)
orders_none (x ∷ before) o more n c = orders_none before o more n.1 c.1

pub none_not_late : (clock : BoardClock) (os : List Orders) (l : LinkState) (ends : List Ended) (tick first : ℕ) → NoUnits os → TookControls os → IsLate clock os l ends tick first → ⊥
none_not_late clock os l ends tick first none controls y = search (rules, steps_of_none, orders_none)
