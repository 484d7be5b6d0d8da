-- Units of a run in which axes home are timely for some turns.
use Rattle.std.proofs.Common.{◌≡◌, ℕ, Bool, true, false, ◌+◌, ◌*◌, ◌^◌, ◌<◌, ◌≤◌, List, [], ◌∷◌, ◌++◌, length, map, All, Option, ap, sym, ◌∙◌, subst, arith, length-append}
use Rattle.laws_board.proofs.Names.{All-head, All-tail, flat_map, turn_ns, Clocks, lines_tick, Cmd, plain, units_orders, StepUnit, batch_at, units_of, queued_in, Orders, BoardSection, base_of, of_stepper, section_steps}
use Rattle.msg_code.specs.declared.cmd.Cmd.TheVariants as cmd
use Rattle.laws_board.specs.sections.Events.{AreTicks}
use Rattle.laws_board.specs.sections.Homes.{AreInTurn, AreOrdersIn, IsControlIn, IsHomeRun, IsSectionBy, RunSection}
use Rattle.laws_board.specs.sections.Parts.{AreTracked}
use Rattle.laws_board.specs.sections.Runs.{AreSpilled, IsSpilled}
use Rattle.laws_board.specs.sections.Timely.{AreTimely, IsTimely}
use Rattle.laws_board.proofs.sections.Entering.{early_fits, begun_inside, all_inside}
use Rattle.laws_board.proofs.sections.Lasting.{Lasting, lasting_append, batch_lasts, units_timely}
use Rattle.laws_board.proofs.sections.Seeking.{begun_tell}
use Rattle.laws_board.proofs.sections.Soon.{timely_append}
use Rattle.laws_board.proofs.sections.Timing.{AreLasting}
use Rattle.laws_board.proofs.sections.Waiting.{Frame}

-- control commands
one_control : (clocks : Clocks) (ss : List RunSection) (turn t : ℕ) (c : Cmd) → IsControlIn clocks ss turn c → IsTimely t c []
one_control clocks ss turn t (cmd.QueueStep oid interval count add) k = absurd k
one_control clocks ss turn t _ k = tt

controls_last : (clocks : Clocks) (ss : List RunSection) (turn t : ℕ) (cs : List Cmd) → All (IsControlIn clocks ss turn) cs → AreTimely t (map plain cs)
controls_last clocks ss turn t [] a = tt
controls_last clocks ss turn t (c ∷ cs) a =
    let P : Cmd → Type 0 = IsControlIn clocks ss turn in
    (one_control clocks ss turn t c (All-head P c cs a), controls_last clocks ss turn t cs (All-tail P c cs a))

-- the units of a section
section_lasts : (own : ℕ → ℕ) (clocks : Clocks) (freq slots ready n m turns turn top : ℕ) (stops : ℕ → Option ℕ) (homes : Bool) (s : BoardSection) → AreTicks own → (tracked : AreTracked own clocks ready)
    → IsSectionBy homes clocks freq slots tracked.until stops s → ready + 260 ≤ s.start → s.start ≤ s.end → IsSpilled turns m s.releases → turn < turns → top ≤ turn + n → ((k : ℕ) → own (k + (n + m + 2)) < own k + 2 ^ 31)
    → Lasting (own (top + 1)) (batch_at turn s.releases)
section_lasts own clocks freq slots ready n m turns turn top stops true s ticks tracked i after order spilled before near far =
    let g : Frame = record { own = own; clocks = clocks; slots = slots; ready = ready; start = s.start; end = i.last; ticks = ticks; tracked = tracked; after = after; order = i.order; limit = i.limit } in
    let bound = lines_tick clocks ((i.last + 1) * turn_ns) in
    let inside = all_inside g s.releases (λ oid. begun_inside g true oid false (of_stepper oid (units_of s.releases)) (i.begun oid)
    (early_fits freq bound (base_of clocks s) (section_steps oid s) (s.plan oid) (i.fits oid) (i.within oid))) in
    batch_lasts g n m turns turn top s.releases inside spilled before (λ oid. begun_tell true clocks (base_of clocks s) (of_stepper oid (units_of s.releases)) (i.begun oid)) near far
section_lasts own clocks freq slots ready n m turns turn top stops false s ticks tracked i after order spilled before near far =
    let g : Frame = record { own = own; clocks = clocks; slots = slots; ready = ready; start = s.start; end = s.end; ticks = ticks; tracked = tracked; after = after; order = order; limit = i.limit } in
    let bound = lines_tick clocks ((s.end + 1) * turn_ns) in
    let inside = all_inside g s.releases (λ oid. begun_inside g false oid false (of_stepper oid (units_of s.releases)) (i.is.begun oid)
    (early_fits freq bound (base_of clocks s) (section_steps oid s) (s.plan oid) (i.is.fits oid) (i.is.within oid))) in
    batch_lasts g n m turns turn top s.releases inside spilled before (λ oid. begun_tell false clocks (base_of clocks s) (of_stepper oid (units_of s.releases)) (i.is.begun oid)) near far

sections_last : (own : ℕ → ℕ) (clocks : Clocks) (freq slots ready e n m turns turn top : ℕ) (stops : ℕ → Option ℕ) (ss : List RunSection) → AreTicks own → (tracked : AreTracked own clocks ready)
    → All (λ s. IsSectionBy s.homes clocks freq slots tracked.until stops s.section) ss → AreInTurn e ss → ready ≤ e → AreSpilled turns m (map (λ s. s.section) ss) → turn < turns → top ≤ turn + n
    → ((k : ℕ) → own (k + (n + m + 2)) < own k + 2 ^ 31) → Lasting (own (top + 1)) (flat_map (λ s. batch_at turn s.section.releases) ss)
sections_last own clocks freq slots ready e n m turns turn top stops [] ticks tracked i row low spilled before near far = tt
sections_last own clocks freq slots ready e n m turns turn top stops (s ∷ ss) ticks tracked i row low spilled before near far =
    let P : RunSection → Type 0 = λ x. IsSectionBy x.homes clocks freq slots tracked.until stops x.section in
    lasting_append (own (top + 1)) (batch_at turn s.section.releases) (flat_map (λ x. batch_at turn x.section.releases) ss)
    (section_lasts own clocks freq slots ready n m turns turn top stops s.homes s.section ticks tracked (All-head P s ss i) (omega (arith, low, row.0)) row.1 spilled.0 before near far)
    (sections_last own clocks freq slots ready s.section.end n m turns turn top stops ss ticks tracked (All-tail P s ss i) row.2 (omega (arith, low, row.0, row.1)) spilled.1 before near far)

-- what is queued in some turns
seg_lasts : (own : ℕ → ℕ) (clocks : Clocks) (freq slots ready n m turns top : ℕ) (stops : ℕ → Option ℕ) (ss : List RunSection) (all : List Orders) → AreTicks own → IsHomeRun own clocks freq slots ready stops ss all
    → AreSpilled turns m (map (λ s. s.section) ss) → ((k : ℕ) → own (k + (n + m + 2)) < own k + 2 ^ 31) → (k : ℕ) (xs : List Orders) → AreOrdersIn clocks ss k xs → k + length xs ≤ turns → top ≤ k + n → AreTimely (own (top + 1)) (flat_map queued_in xs)
seg_lasts own clocks freq slots ready n m turns top stops ss all ticks r spilled far k [] h low near = tt
seg_lasts own clocks freq slots ready n m turns top stops ss all ticks r spilled far k (o ∷ xs) h low near =
    let t = own (top + 1) in
    let At : List StepUnit → Type 0 = λ us. Lasting t us in
    let units = subst At (sym h.1) (sections_last own clocks freq slots ready ready n m turns k top stops ss ticks r.tracked r.sections r.row (omega arith) spilled (omega (arith, low)) near far) in
    timely_append t (queued_in o) (flat_map queued_in xs)
    (timely_append t (map plain o.control.commands) (units_orders o.batch.units) (controls_last clocks ss k t o.control.commands h.0) (units_timely t o.batch.units units))
    (seg_lasts own clocks freq slots ready n m turns top stops ss all ticks r spilled far (k + 1) xs h.2 (omega (arith, low)) (omega (arith, near)))

orders_behind : (clocks : Clocks) (ss : List RunSection) (k : ℕ) (xs ys : List Orders) → AreOrdersIn clocks ss k (xs ++ ys) → AreOrdersIn clocks ss (k + length xs) ys
orders_behind clocks ss k [] ys h = let e : k + 0 ≡ k = omega arith in rw e h
orders_behind clocks ss k (x ∷ xs) ys h = let e : k + length (x ∷ xs) ≡ k + 1 + length xs = omega arith in rw e (orders_behind clocks ss (k + 1) xs ys h.2)

orders_before : (clocks : Clocks) (ss : List RunSection) (k : ℕ) (xs ys : List Orders) → AreOrdersIn clocks ss k (xs ++ ys) → AreOrdersIn clocks ss k xs
orders_before clocks ss k [] ys h = tt
orders_before clocks ss k (x ∷ xs) ys h = (h.0, h.1, orders_before clocks ss (k + 1) xs ys h.2)

pub home_lasting : (own : ℕ → ℕ) (clocks : Clocks) (freq slots ready n m turns : ℕ) (stops : ℕ → Option ℕ) (ss : List RunSection) (all : List Orders) → AreTicks own → IsHomeRun own clocks freq slots ready stops ss all
    → AreSpilled turns m (map (λ s. s.section) ss) → length all ≤ turns → ((k : ℕ) → own (k + (n + m + 2)) < own k + 2 ^ 31) → AreLasting own n all
home_lasting own clocks freq slots ready n m turns stops ss all ticks r spilled few far xs seg os top joined near =
    let Ordered : List Orders → Type 0 = λ x. AreOrdersIn clocks ss 0 x in
    let placed = orders_before clocks ss (0 + length xs) seg os (orders_behind clocks ss 0 xs (seg ++ os) (subst Ordered joined r.orders)) in
    let long = ap length joined ∙ length-append xs (seg ++ os) in
    let more = length-append seg os in
    seg_lasts own clocks freq slots ready n m turns top stops ss all ticks r spilled far (0 + length xs) seg placed (omega (arith, few, long, more)) (omega (arith, near))
