-- Units that are queued in some turns are timely for as many turns more.
use Rattle.std.proofs.Common.{◌≡◌, ℕ, suc, Bool, ◌+◌, ◌-◌, ◌*◌, ◌^◌, ◌<◌, ◌≤◌, List, [], ◌∷◌, ◌++◌, map, All, Option, Some, None, refl, sym, subst, arith, inl, inr}
use Rattle.laws_board.proofs.Names.{leb_tells, eqb_tells, All-head, All-tail, turn_ns, Clocks, lines_tick, Cmd, reset_commands, dir_commands, step_command, Meant, plain, unit_orders, units_orders, StepUnit, Release, batch_at, units_of, of_stepper}
use Rattle.std.specs.Prelude.{slice_index}
use Rattle.plan_types.specs.Lines.{lines_turn}
use Rattle.clock_line.proofs.Turns.{turn-below}
use Rattle.msg_code.specs.declared.cmd.Cmd.TheVariants as cmd
use Rattle.laws_board.specs.sections.Timely.{IsTimely, AreTimely}
use Rattle.section_units.specs.Sections.{ticks_meant}
use Rattle.laws_board.specs.sections.Parts.{IsControl}
use Rattle.laws_board.specs.sections.Runs.{IsSpilled}
use Rattle.laws_board.proofs.sections.Clocks.{ticks_rise, turn_least}
use Rattle.laws_board.proofs.sections.Seeking.{TellFirst}
use Rattle.laws_board.proofs.sections.Ticks.{orders_are}
use Rattle.laws_board.proofs.sections.Soon.{timely_append}
use Rattle.laws_board.proofs.sections.Waiting.{Frame, IsInside, AreInside}

-- the turn of a tick doesn't begin after it
pub turn_floor : (clocks : Clocks) (t : ℕ) → 0 < lines_turn clocks t → lines_tick clocks (lines_turn clocks t * turn_ns) ≤ t
turn_floor clocks t some =
    let k = lines_turn clocks t in
    let j = k - 1 in
    let e : j + 1 ≡ k = omega (arith, some) in
    elim (leb_tells (lines_tick clocks (k * turn_ns)) t) [
      | inl p ↦ p.1
      | inr p ↦
          let At : ℕ → Type 0 = λ x. t < lines_tick clocks (x * turn_ns) in
          let low : t < lines_tick clocks (k * turn_ns) = omega (arith, p.1) in
          absurd (omega (arith, turn-below clocks t j (subst At (sym e) low), some))
    ]

-- a unit within a section, which is released in a turn that is at most m behind its due one, is timely n turns later
pub unit_lasts : (f : Frame) (n m turn top : ℕ) (u : StepUnit) → IsInside f u → turn ≤ u.due + m → top ≤ turn + n → ((k : ℕ) → f.own (k + (n + m + 2)) < f.own k + 2 ^ 31) → f.own (top + 1) < u.first + 2 ^ 31
unit_lasts f n m turn top u i spilled near far =
    let due = lines_turn f.clocks u.first in
    let from = turn_least f.own f.clocks f.ready f.start u.first f.tracked (omega (arith, i.low)) in
    let floor = turn_floor f.clocks u.first (omega (arith, from, f.after)) in
    let to = turn-below f.clocks u.first f.end (omega (arith, i.up, i.high)) in
    let k = due - 1 in
    let e : k + 1 ≡ due = omega (arith, from, f.after) in
    let At : ℕ → Type 0 = λ x. f.own k ≤ lines_tick f.clocks (x * turn_ns) in
    let behind : f.own k ≤ lines_tick f.clocks (due * turn_ns) = subst At e (f.tracked.behind k (omega (arith, from, f.after, e)) (omega (arith, to, f.limit, e))) in
    let up = ticks_rise f.own f.ticks (top + 1) (k + (n + m + 2)) (omega (arith, near, spilled, i.due, e)) in
    omega (arith, up, far k, behind, floor)

-- the commands of units
abbrev pub Lasting : ℕ → List StepUnit → Type 0
Lasting t [] = Unit {0}
Lasting t (u ∷ us) = (t < slice_index (ticks_meant u) 0 + 2 ^ 31) × Lasting t us

pub lasting_append : (t : ℕ) (us vs : List StepUnit) → Lasting t us → Lasting t vs → Lasting t (us ++ vs)
lasting_append t [] vs a b = b
lasting_append t (u ∷ us) vs a b = (a.0, lasting_append t us vs a.1 b)

pub resets_timely : (t oid : ℕ) (o : Option ℕ) → AreTimely t (map plain (reset_commands oid o))
resets_timely t oid None = tt
resets_timely t oid (Some tick) = (tt, tt)

pub dirs_timely : (t oid : ℕ) (o : Option Bool) → AreTimely t (map plain (dir_commands oid o))
dirs_timely t oid None = tt
dirs_timely t oid (Some up) = (tt, tt)

pub units_timely : (t : ℕ) (us : List StepUnit) → Lasting t us → AreTimely t (units_orders us)
units_timely t [] l = tt
units_timely t (u ∷ us) l =
    let dirs = map plain (dir_commands u.stepper u.up) in
    let step : List Meant = record { command = step_command u; ticks = ticks_meant u } ∷ [] in
    let Timely : List Meant → Type 0 = λ x. AreTimely t x in
    timely_append t (unit_orders u) (units_orders us)
    (subst Timely (sym (orders_are u)) (timely_append t (map plain (reset_commands u.stepper u.reset)) (dirs ++ step) (resets_timely t u.stepper u.reset) (timely_append t dirs step (dirs_timely t u.stepper u.up) (l.0, tt))))
    (units_timely t us l.1)

one_control : (t : ℕ) (c : Cmd) → IsControl c → IsTimely t c []
one_control t (cmd.QueueStep oid interval count add) k = absurd k
one_control t _ k = tt

pub controls_timely : (t : ℕ) (cs : List Cmd) → All IsControl cs → AreTimely t (map plain cs)
controls_timely t [] a = tt
controls_timely t (c ∷ cs) a = (one_control t c (All-head IsControl c cs a), controls_timely t cs (All-tail IsControl c cs a))

-- the units of a turn
pub tell_each : (r : Release) (rs : List Release) → ((oid : ℕ) → TellFirst (of_stepper oid (units_of (r ∷ rs)))) → (r.unit.first ≡ slice_index (ticks_meant r.unit) 0) × ((oid : ℕ) → TellFirst (of_stepper oid (units_of rs)))
tell_each r rs t =
    let own = t r.unit.stepper in (
      elim (eqb_tells r.unit.stepper r.unit.stepper) [ inl p ↦ (rw p.0 at own).0 | inr p ↦ absurd (p.1 refl) ],
      λ oid. elim (eqb_tells r.unit.stepper oid) [ inl p ↦ (rw p.0 at (t oid)).1 | inr p ↦ rw p.0 at (t oid) ],
    )

-- of units that are released before a turn
spilled_soon : (turns m turn due : ℕ) → turn < turns → (due < turns → turn ≤ due + m) → turn ≤ due + m
spilled_soon turns m turn due low h = elim (leb_tells (suc due) turns) [ inl p ↦ h (omega (arith, p.1)) | inr p ↦ omega (arith, p.1, low) ]

pub batch_lasts : (f : Frame) (n m turns turn top : ℕ) (rs : List Release) → AreInside f rs → IsSpilled turns m rs → turn < turns → ((oid : ℕ) → TellFirst (of_stepper oid (units_of rs))) → top ≤ turn + n
    → ((k : ℕ) → f.own (k + (n + m + 2)) < f.own k + 2 ^ 31) → Lasting (f.own (top + 1)) (batch_at turn rs)
batch_lasts f n m turns turn top [] i s low t near far = tt
batch_lasts f n m turns turn top (r ∷ rs) i s low t near far =
    let told = tell_each r rs t in
    let rest = batch_lasts f n m turns turn top rs i.1 s.1 low told.1 near far in
    elim (eqb_tells r.turn turn) [
      | inl p ↦
          let one = unit_lasts f n m r.turn top r.unit i.0 (spilled_soon turns m r.turn r.unit.due (omega (arith, low, p.1)) s.0) (omega (arith, near, p.1)) far in
          rw p.0 (omega (arith, one, told.0), rest)
      | inr p ↦ rw p.0 rest
    ]
