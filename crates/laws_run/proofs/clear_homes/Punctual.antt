-- In a run in which axes home, units that are released before the turn in which they are due are never late on a clear link.
use Rattle.std.proofs.Common.{◌≡◌, ℕ, suc, ◌+◌, ◌*◌, ◌<◌, ◌≤◌, Bool, true, false, List, [], ◌∷◌, ◌++◌, All, length, map, Option, ap, sym, ◌∙◌, subst, arith, inl, inr, length-append}
use Rattle.laws_board.proofs.Names.{flat_map, leb_tells, All-head, All-tail, Machine, clock_of, turn_ns, Clocks, lines_tick, Cmd, StepUnit, Release, batch_at, units_of, BoardSection, base_of, of_stepper, section_steps, Entry, Meant, plain, units_orders, world_after, new_world, queued_in, first_state, Orders, parts_on, Started}
use Rattle.msg_code.specs.declared.cmd.Cmd.TheVariants as cmd
use Rattle.board_world.specs.World.{AllFair}
use Rattle.link_work.specs.Late.{IsLate}
use Rattle.motion_work.specs.Homes.{before_turn}
use Rattle.motion_work.specs.Seen.{part_on}
use Rattle.laws_board.specs.sections.Boards.{OnBoard}
use Rattle.laws_board.specs.sections.Events.{AreTicks}
use Rattle.laws_board.specs.sections.Homes.{AreInTurn, AreOrdersIn, IsControlIn, IsHomeBoard, IsSectionBy, RunSection}
use Rattle.laws_board.specs.sections.Links.{ends_of, steps_of, turns_told}
use Rattle.laws_board.specs.sections.Parts.{AreTracked}
use Rattle.laws_board.proofs.sections.Entering.{all_inside, begun_inside, early_fits}
use Rattle.laws_board.proofs.sections.Halted.{all_fair}
use Rattle.laws_board.proofs.sections.Releasing.{from_down, paced_from}
use Rattle.laws_board.proofs.sections.Waiting.{Frame}
use Rattle.laws_homing.specs.home_parts.Cuts.{cuts_on}
use Rattle.laws_run.proofs.home_headline.Good.{board_good}
use Rattle.laws_run.proofs.clear_runs.Punctual.{AllFrom, AllInTime, AllLed, AreAhead, AreLed, AreNear, InTime, ahead_in, batch_from, fair_turns, from_both, led_less, not_late, time_both, time_of, units_time}

abbrev AllAhead : ℕ → (ℕ → ℕ) → List RunSection → Type 0
AllAhead turns own [] = Unit {0}
AllAhead turns own (s ∷ ss) = AreAhead turns own s.section.releases × AllAhead turns own ss

abbrev pub RunsLed : ℕ → ℕ → List RunSection → Type 0
RunsLed turns n [] = Unit {0}
RunsLed turns n (s ∷ ss) = AreLed turns n s.section.releases × RunsLed turns n ss

runs_led_less : (turns fewer n : ℕ) (ss : List RunSection) → fewer ≤ turns → RunsLed turns n ss → RunsLed fewer n ss
runs_led_less turns fewer n [] h s = tt
runs_led_less turns fewer n (x ∷ ss) h s = (led_less turns fewer n x.section.releases h s.0, runs_led_less turns fewer n ss h s.1)

-- those of the units that were released before a turn
led_front : (turns n turn : ℕ) (rs : List Release) → AreLed turns n rs → AreLed turns n (before_turn turn rs)
led_front turns n turn [] s = tt
led_front turns n turn (r ∷ rs) s = elim (leb_tells (suc r.turn) turn) [ inl p ↦ rw p.0 (s.0, led_front turns n turn rs s.1) | inr p ↦ rw p.0 (led_front turns n turn rs s.1) ]

pub cuts_led : (m : Machine) (clocks : List Clocks) (turns n turn b : ℕ) (begun : List Started) → AllLed turns n (parts_on m clocks begun b) → RunsLed turns n (cuts_on m clocks turn begun b)
cuts_led m clocks turns n turn b [] s = tt
cuts_led m clocks turns n turn b (x ∷ begun) s = (led_front turns n turn (part_on m clocks x b).releases s.0, cuts_led m clocks turns n turn b begun s.1)

-- a section's
section_ahead : (own : ℕ → ℕ) (clocks : Clocks) (freq slots ready turns n : ℕ) (stops : ℕ → Option ℕ) (homes : Bool) (s : BoardSection) → AreTicks own → (tracked : AreTracked own clocks ready) → AreNear own clocks ready turns tracked.until n
    → IsSectionBy homes clocks freq slots tracked.until stops s → ready + 260 ≤ s.start → s.start ≤ s.end → AreLed turns n s.releases → AreAhead turns own s.releases
section_ahead own clocks freq slots ready turns n stops true s ticks tracked near i after order led =
    let f : Frame = record { own = own; clocks = clocks; slots = slots; ready = ready; start = s.start; end = i.last; ticks = ticks; tracked = tracked; after = after; order = i.order; limit = i.limit } in
    let inside = all_inside f s.releases (λ oid.
    begun_inside f true oid false (of_stepper oid (units_of s.releases)) (i.begun oid) (early_fits freq (lines_tick clocks ((i.last + 1) * turn_ns)) (base_of clocks s) (section_steps oid s) (s.plan oid) (i.fits oid) (i.within oid))) in
    let soon = i.exact in
    let from = from_down (ready + 1) i.from s.releases (omega (arith, after, soon)) (paced_from clocks slots i.from [] s.releases i.paced) in
    ahead_in f turns n s.releases near inside led from
section_ahead own clocks freq slots ready turns n stops false s ticks tracked near i after order led =
    let f : Frame = record { own = own; clocks = clocks; slots = slots; ready = ready; start = s.start; end = s.end; ticks = ticks; tracked = tracked; after = after; order = order; limit = i.limit } in
    let inside = all_inside f s.releases (λ oid.
    begun_inside f false oid false (of_stepper oid (units_of s.releases)) (i.is.begun oid) (early_fits freq (lines_tick clocks ((s.end + 1) * turn_ns)) (base_of clocks s) (section_steps oid s) (s.plan oid) (i.is.fits oid) (i.is.within oid))) in
    let soon = i.is.exact in
    let from = from_down (ready + 1) i.is.from s.releases (omega (arith, after, soon)) (paced_from clocks slots i.is.from [] s.releases i.is.paced) in
    ahead_in f turns n s.releases near inside led from

all_ahead : (own : ℕ → ℕ) (clocks : Clocks) (freq slots ready e turns n : ℕ) (stops : ℕ → Option ℕ) (ss : List RunSection) → AreTicks own → (tracked : AreTracked own clocks ready) → AreNear own clocks ready turns tracked.until n → ready ≤ e
    → All (λ s. IsSectionBy s.homes clocks freq slots tracked.until stops s.section) ss → AreInTurn e ss → RunsLed turns n ss → AllAhead turns own ss
all_ahead own clocks freq slots ready e turns n stops [] ticks tracked near low i row s = tt
all_ahead own clocks freq slots ready e turns n stops (x ∷ ss) ticks tracked near low i row s =
    let P : RunSection → Type 0 = λ y. IsSectionBy y.homes clocks freq slots tracked.until stops y.section in
    let after = row.0 in
    let order = row.1 in (
      section_ahead own clocks freq slots ready turns n stops x.homes x.section ticks tracked near (All-head P x ss i) (omega (arith, low, after)) order s.0,
      all_ahead own clocks freq slots ready x.section.end turns n stops ss ticks tracked near (omega (arith, low, after, order)) (All-tail P x ss i) row.2 s.1,
    )

sections_from : (turns : ℕ) (own : ℕ → ℕ) (k : ℕ) (ss : List RunSection) → k < turns → AllAhead turns own ss → AllFrom (own k) (flat_map (λ s. batch_at k s.section.releases) ss)
sections_from turns own k [] low a = tt
sections_from turns own k (s ∷ ss) low a =
    from_both (own k) (batch_at k s.section.releases) (flat_map (λ (x : RunSection). batch_at k x.section.releases) ss) (batch_from turns own k s.section.releases low a.0) (sections_from turns own k ss low a.1)

one_time : (clocks : Clocks) (ss : List RunSection) (turn t : ℕ) (c : Cmd) → IsControlIn clocks ss turn c → InTime t (plain c)
one_time clocks ss turn t (cmd.QueueStep oid interval count add) k = absurd k
one_time clocks ss turn t c k = λ s first b. absurd s

controls_time : (clocks : Clocks) (ss : List RunSection) (turn t : ℕ) (cs : List Cmd) → All (IsControlIn clocks ss turn) cs → AllInTime t (map plain cs)
controls_time clocks ss turn t [] a = tt
controls_time clocks ss turn t (c ∷ cs) a =
    let P : Cmd → Type 0 = IsControlIn clocks ss turn in
    (one_time clocks ss turn t c (All-head P c cs a), controls_time clocks ss turn t cs (All-tail P c cs a))

-- those that are queued in a turn
orders_time : (turns : ℕ) (own : ℕ → ℕ) (clocks : Clocks) (ss : List RunSection) (turn k : ℕ) (before : List Orders) (o : Orders) (more : List Orders) → AllAhead turns own ss → k < turns → turn + length before ≡ k
    → AreOrdersIn clocks ss turn (before ++ o ∷ more) → AllInTime (own k) (queued_in o)
orders_time turns own clocks ss turn k [] o more a low e are =
    let same : turn ≡ k = omega (arith, e) in
    let At : ℕ → Type 0 = λ n. AllInTime (own n) (queued_in o) in
    let From : List StepUnit → Type 0 = λ us. AllFrom (own turn) us in
    subst At same (time_both (own turn) (map plain o.control.commands) (units_orders o.batch.units) (controls_time clocks ss turn (own turn) o.control.commands are.0)
    (units_time (own turn) o.batch.units (subst From (sym are.1) (sections_from turns own turn ss (omega (arith, low, same)) a))))
orders_time turns own clocks ss turn k (x ∷ before) o more a low e are = orders_time turns own clocks ss (turn + 1) k before o more a low (omega (arith, e)) are.2

-- the units that it takes are fair
board_fair : (place : ℕ) (entries : List Entry) (ready turns : ℕ) (ss : List RunSection) (x : OnBoard) (k : IsHomeBoard place entries ready turns ss x)
    → AllFair (new_world x.board x.pins) (steps_of (clock_of x.board) 0 x.orders (first_state x.board x.pins place entries) k.end (turns_told (clock_of x.board) 0 x.orders x.states (first_state x.board x.pins place entries) k.end k.told))
board_fair place entries ready turns ss x k =
    let t = turns_told (clock_of x.board) 0 x.orders x.states (first_state x.board x.pins place entries) k.end k.told in
    all_fair x.board x.pins k.own k.stops x.orders (steps_of (clock_of x.board) 0 x.orders (first_state x.board x.pins place entries) k.end t) (board_good place entries ready turns ss x k)

-- where each unit is released as many turns before the one in which it is due as the lines are behind
pub soon_not_late : (place : ℕ) (entries : List Entry) (ready turns long n : ℕ) (ss : List RunSection) (x : OnBoard) (k : IsHomeBoard place entries ready turns ss x) (tick first : ℕ) → entries ≡ []
    → AreNear k.own x.clocks ready turns k.run_is.tracked.until n → RunsLed long n ss → turns ≤ long
    → IsLate (clock_of x.board) x.orders (first_state x.board x.pins place entries)
    (ends_of (clock_of x.board) 0 x.orders (first_state x.board x.pins place entries) k.end (turns_told (clock_of x.board) 0 x.orders x.states (first_state x.board x.pins place entries) k.end k.told)) tick first → ⊥
soon_not_late place entries ready turns long n ss x k tick first e near led within y =
    let clock = clock_of x.board in
    let own = k.own in
    let l = first_state x.board x.pins place entries in
    let t = turns_told clock 0 x.orders x.states l k.end k.told in
    let r = k.run_is in
    let ahead = all_ahead own x.clocks x.board.freq x.board.slots ready ready turns n k.stops ss k.own_is.ticks r.tracked near (omega arith) r.sections r.row (runs_led_less long turns n ss within led) in
    let In : List Orders → Type 0 = λ z. AreOrdersIn x.clocks ss 0 z in
    let few = ap length y.turns ∙ length-append y.before (y.orders ∷ y.after) in
    let count = k.count in
    let time = orders_time turns own x.clocks ss 0 (length y.before) y.before y.orders y.after ahead (omega (arith, few, count)) (omega arith) (subst In y.turns r.orders) in
    let Queued : List Meant → Type 0 = λ z. AllInTime (own (length y.before)) z in
    let one = time_of (own (length y.before)) y.front y.command y.rest (subst Queued y.queued time) in
    let soon = one y.steps first (y.own (fair_turns clock 0 x.orders l k.end t (board_fair place entries ready turns ss x k))) in
    not_late x.board x.pins place entries x.orders k.end t tick first e y (omega (arith, soon, k.own_is.same (length y.before) (omega (arith, few, count))))
