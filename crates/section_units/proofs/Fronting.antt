-- The first units of a section.
use Rattle.std.proofs.Common.{◌≡◌, ℕ, ◌+◌, ◌*◌, ◌<◌, Bool, false, List, [], ◌∷◌, ◌++◌, All, length, refl, ap, subst, ◌∙◌}
use Rattle.plan_types.specs.Clock.{turn_ns}
use Rattle.plan_types.specs.declared.plan.Planned.{Planned}
use Rattle.plan_types.specs.declared.plan.Pulse.{Pulse}
use Rattle.plan_types.specs.Lines.{Clocks, lines_tick}
use Rattle.plan_types.specs.Plan.{AreSpaced, Fits}
use Rattle.step_feed.specs.Pacing.{ArePaced, Release, units_of}
use Rattle.step_feed.specs.Units.{StepUnit}
use Rattle.section_units.specs.Fronts.{AreFirstOfBy, IsFrontBy}
use Rattle.section_units.specs.Packed.{ArePackedBy, dir_behind}
use Rattle.section_units.specs.Sections.{AreBegunBy, AreChained, BoardSection, IsWholeBy, of_stepper, section_steps, steps_said}
use Rattle.section_units.proofs.Merging.{of_append}
use Rattle.section_units.proofs.Packing.{said_join}

pub chain_front : (clocks : Clocks) (behind : ℕ) (us vs : List StepUnit) → AreChained clocks behind (us ++ vs) → AreChained clocks behind us
chain_front clocks behind [] vs chain = tt
chain_front clocks behind (u ∷ us) vs chain = (chain.0, chain.1, chain_front clocks u.last us vs chain.2)

begun_front : (homing : Bool) (clocks : Clocks) (base : ℕ) (us vs : List StepUnit) → AreBegunBy homing clocks base (us ++ vs) → AreBegunBy homing clocks base us
begun_front homing clocks base [] vs begun = tt
begun_front homing clocks base (u ∷ us) vs begun = (begun.0, begun.1, begun.2, chain_front clocks u.last us vs begun.3)

fits_front : (freq base : ℕ) (ps qs : List Pulse) (plan : List Planned) → Fits freq base (ps ++ qs) plan → Fits freq base ps plan
fits_front freq base [] qs plan fits = tt
fits_front freq base (p ∷ ps) qs [] fits = fits
fits_front freq base (p ∷ ps) qs (s ∷ plan) fits = (fits.0, fits_front freq s.tick ps qs plan fits.1)

fits_longer : (freq base : ℕ) (ps : List Pulse) (plan more : List Planned) → Fits freq base ps plan → Fits freq base ps (plan ++ more)
fits_longer freq base [] plan more fits = tt
fits_longer freq base (p ∷ ps) [] more fits = absurd fits
fits_longer freq base (p ∷ ps) (s ∷ plan) more fits = (fits.0, fits_longer freq s.tick ps plan more fits.1)

pub units_append : (rs qs : List Release) → units_of (rs ++ qs) ≡ units_of rs ++ units_of qs
units_append [] qs = refl
units_append (r ∷ rs) qs = ap (λ us. r.unit ∷ us) (units_append rs qs)

pub paced_front : (clocks : Clocks) (slots from : ℕ) (before rs qs : List Release) → ArePaced clocks slots from before (rs ++ qs) → ArePaced clocks slots from before rs
paced_front clocks slots from before [] qs paced = tt
paced_front clocks slots from before (r ∷ rs) qs paced = (paced.0, paced_front clocks slots r.turn (r ∷ before) rs qs paced.1)

-- of the first units of a stepper again the first ones
pub first_front : (homing : Bool) (clocks : Clocks) (freq oid base : ℕ) (plan : List Planned) (us vs : List StepUnit) → AreFirstOfBy homing clocks freq oid base plan (us ++ vs) → AreFirstOfBy homing clocks freq oid base plan us
first_front homing clocks freq oid base plan us vs h = record {
  begun = begun_front homing clocks base us vs h.begun;
  fits = fits_front freq base (steps_said oid false us) (steps_said oid (dir_behind false us) vs) plan (rw (said_join oid false us vs) at h.fits);
}

-- they are the first ones of a longer plan too
pub first_longer : (homing : Bool) (clocks : Clocks) (freq oid base : ℕ) (plan more : List Planned) (us : List StepUnit) → AreFirstOfBy homing clocks freq oid base plan us → AreFirstOfBy homing clocks freq oid base (plan ++ more) us
first_longer homing clocks freq oid base plan more us h = record { begun = h.begun; fits = fits_longer freq base (steps_said oid false us) plan more h.fits }

-- the units of a whole plan
pub first_packed : (homing : Bool) (clocks : Clocks) (freq oid base : ℕ) (plan : List Planned) (us : List StepUnit) → ArePackedBy homing clocks freq oid base plan us → AreFirstOfBy homing clocks freq oid base plan us
first_packed homing clocks freq oid base plan us h = record { begun = h.begun; fits = h.fits }

pub section_whole : (homing : Bool) (clocks : Clocks) (freq slots : ℕ) (s : BoardSection) → IsWholeBy homing clocks freq slots s → IsFrontBy homing clocks freq slots s
section_whole homing clocks freq slots s h = record { spaced = h.spaced; begun = h.begun; fits = h.fits; from = h.from; exact = h.exact; paced = h.paced }

pub of_front : (oid : ℕ) (rs qs : List Release) → of_stepper oid (units_of (rs ++ qs)) ≡ of_stepper oid (units_of rs) ++ of_stepper oid (units_of qs)
of_front oid rs qs = ap (of_stepper oid) (units_append rs qs) ∙ of_append oid (units_of rs) (units_of qs)

pub section_front : (homing : Bool) (clocks : Clocks) (freq slots start end : ℕ) (plan : ℕ → List Planned) (rs qs : List Release) → IsFrontBy homing clocks freq slots (record { start = start; end = end; plan = plan; releases = rs ++ qs })
    → IsFrontBy homing clocks freq slots (record { start = start; end = end; plan = plan; releases = rs })
section_front homing clocks freq slots start end plan rs qs h =
    let base = lines_tick clocks (start * turn_ns) in
    let First : ℕ → List StepUnit → Type 0 = λ oid us. AreFirstOfBy homing clocks freq oid base (plan oid) us in
    let each : (oid : ℕ) → AreFirstOfBy homing clocks freq oid base (plan oid) (of_stepper oid (units_of rs)) = λ oid. first_front homing clocks freq oid base (plan oid) (of_stepper oid (units_of rs)) (of_stepper oid (units_of qs)) (subst (First oid) (of_front oid rs qs) (record { begun = h.begun oid; fits = h.fits oid })) in
    record {
      spaced = h.spaced;
      begun = λ oid. (each oid).begun;
      fits = λ oid. (each oid).fits;
      from = h.from;
      exact = h.exact;
      paced = paced_front clocks slots h.from [] rs qs h.paced;
    }

pub section_longer : (homing : Bool) (clocks : Clocks) (freq slots start end later : ℕ) (plan more : ℕ → List Planned) (rs : List Release) → ((oid : ℕ) → AreSpaced (lines_tick clocks (start * turn_ns)) (plan oid ++ more oid))
    → IsFrontBy homing clocks freq slots (record { start = start; end = end; plan = plan; releases = rs }) → IsFrontBy homing clocks freq slots (record { start = start; end = later; plan = λ oid. plan oid ++ more oid; releases = rs })
section_longer homing clocks freq slots start end later plan more rs spaced h = record {
  spaced = spaced;
  begun = h.begun;
  fits = λ oid. fits_longer freq (lines_tick clocks (start * turn_ns)) (steps_said oid false (of_stepper oid (units_of rs))) (plan oid) (more oid) (h.fits oid);
  from = h.from;
  exact = h.exact;
  paced = h.paced;
}

pub section_ended : (homing : Bool) (clocks : Clocks) (freq slots : ℕ) (s : BoardSection) → IsFrontBy homing clocks freq slots s → ((oid : ℕ) → All (λ p. p.tick < lines_tick clocks ((s.end + 1) * turn_ns)) (s.plan oid)) → ((oid : ℕ) → length (section_steps oid s) ≡ length (s.plan oid)) → IsWholeBy homing clocks freq slots s
section_ended homing clocks freq slots s h within whole = record { spaced = h.spaced; within = within; begun = h.begun; fits = h.fits; whole = whole; from = h.from; exact = h.exact; paced = h.paced }
