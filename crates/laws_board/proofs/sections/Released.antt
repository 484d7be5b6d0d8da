-- By when all units of a section are released.
use Rattle.std.proofs.Common.{ℕ, ◌+◌, ◌*◌, ◌<◌, ◌≤◌, false, List, [], ◌∷◌, All, arith}
use Rattle.laws_board.proofs.Names.{All-head, All-tail, turn_ns, Clocks, lines_tick, Release, units_of, Orders, AreBefore, BoardSection, base_of, of_stepper, section_steps}
use Rattle.clock_line.proofs.Turns.{turn-below}
use Rattle.section_units.specs.Sections.{AreReleased, IsSection}
use Rattle.laws_board.specs.sections.Events.{AreTicks}
use Rattle.laws_board.specs.sections.Homes.{AreOut, AreOutBy, RunSection}
use Rattle.laws_board.specs.sections.Parts.{AreInARow, AreTracked, IsBoardRun}
use Rattle.laws_board.specs.sections.Runs.{AreSpilled, IsSpilled}
use Rattle.laws_board.proofs.sections.Entering.{all_inside, begun_inside, early_fits}
use Rattle.laws_board.proofs.sections.Waiting.{AreInside, Frame}

-- the units of a section
inside_before : (f : Frame) (n turns turn : ℕ) (rs : List Release) → AreInside f rs → IsSpilled turns n rs → turn ≤ turns → f.end + n < turn → AreBefore turn rs
inside_before f n turns turn [] i s low h = tt
inside_before f n turns turn (r ∷ rs) i s low h =
    let first : r.unit.first < lines_tick f.clocks ((f.end + 1) * turn_ns) = omega (arith, i.0.up, i.0.high) in
    let due = turn-below f.clocks r.unit.first f.end first in
    let late = s.0 (omega (arith, i.0.due, due, h, low)) in
    (omega (arith, late, i.0.due, due, h), inside_before f n turns turn rs i.1 s.1 low h)

-- where none is released more than so many turns behind its due one, all are by as many turns behind the end
pub released_by : (own : ℕ → ℕ) (clocks : Clocks) (freq slots ready e n turns turn : ℕ) (ss : List BoardSection) → AreTicks own → (tracked : AreTracked own clocks ready) → ready ≤ e → All (IsSection clocks freq slots) ss
    → AreInARow tracked.until e ss → AreSpilled turns n ss → turn ≤ turns → All (λ s. s.end + n < turn) ss → AreReleased turn ss
released_by own clocks freq slots ready e n turns turn [] ticks tracked low i row s within h = tt
released_by own clocks freq slots ready e n turns turn (x ∷ ss) ticks tracked low i row s within h =
    let P : BoardSection → Type 0 = λ y. IsSection clocks freq slots y in
    let By : BoardSection → Type 0 = λ y. y.end + n < turn in
    let first = All-head P x ss i in
    let f : Frame = record { own = own; clocks = clocks; slots = slots; ready = ready; start = x.start; end = x.end; ticks = ticks; tracked = tracked; after = omega (arith, low, row.0); order = row.1; limit = row.2 } in
    let inside = all_inside f x.releases (λ oid.
    begun_inside f false oid false (of_stepper oid (units_of x.releases)) (first.begun oid) (early_fits freq (lines_tick clocks ((x.end + 1) * turn_ns)) (base_of clocks x) (section_steps oid x) (x.plan oid) (first.fits oid) (first.within oid))) in
    (inside_before f n turns turn x.releases inside s.0 within (All-head By x ss h), released_by own clocks freq slots ready x.end n turns turn ss ticks tracked (omega (arith, low, row.0, row.1)) (All-tail P x ss i) row.3 s.1 within (All-tail By x ss h))

-- fewer units are due before an earlier turn
spilled_sooner : (few turns m : ℕ) (rs : List Release) → few ≤ turns → IsSpilled turns m rs → IsSpilled few m rs
spilled_sooner few turns m [] low s = tt
spilled_sooner few turns m (r ∷ rs) low s = ((λ due. s.0 (omega (arith, due, low))), spilled_sooner few turns m rs low s.1)

pub spilled_before : (few turns m : ℕ) (ss : List BoardSection) → few ≤ turns → AreSpilled turns m ss → AreSpilled few m ss
spilled_before few turns m [] low s = tt
spilled_before few turns m (x ∷ ss) low s = (spilled_sooner few turns m x.releases low s.0, spilled_before few turns m ss low s.1)

-- those of sections of moves, where the late ones are sent by their end
out_sooner : (few turns end : ℕ) (rs : List Release) → few ≤ turns → AreOutBy turns end rs → AreOutBy few end rs
out_sooner few turns end [] low s = tt
out_sooner few turns end (r ∷ rs) low s = (λ due. s.0 (omega (arith, due, low)), out_sooner few turns end rs low s.1)

pub out_before : (few turns : ℕ) (ss : List RunSection) → few ≤ turns → AreOut turns ss → AreOut few ss
out_before few turns [] low s = tt
out_before few turns (x ∷ ss) low s = (λ moves. out_sooner few turns x.section.end x.section.releases low (s.0 moves), out_before few turns ss low s.1)

-- of a run
pub run_released : (own : ℕ → ℕ) (clocks : Clocks) (freq slots ready n turns turn : ℕ) (ss : List BoardSection) (os : List Orders) → AreTicks own → IsBoardRun own clocks freq slots ready ss os → AreSpilled turns n ss → turn ≤ turns → All (λ s. s.end + n < turn) ss
    → AreReleased turn ss
run_released own clocks freq slots ready n turns turn ss os ticks r s within h = released_by own clocks freq slots ready ready n turns turn ss ticks r.tracked (omega arith) r.sections r.row s within h
