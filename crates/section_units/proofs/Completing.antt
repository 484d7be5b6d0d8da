-- A front of a section becomes whole: a unit for each step that is left, stepper by stepper.
use Rattle.std.proofs.Common.{◌≡◌, ◌≢◌, ℕ, zero, suc, pos, ◌+◌, ◌-◌, ◌*◌, ◌<◌, ◌≤◌, Bool, false, Option, Some, None, List, [], ◌∷◌, ◌++◌, All, length, map, drop, length-append, arith, refl, ap, sym, ◌∙◌, subst, append_assoc, inl, inr}
use Rattle.std.specs.Prelude.{slice_index, ◌%◌, ◌/◌}
use Rattle.std.proofs.lemmas.Bool.Decides.{eqb_tells, leb_tells}
use Rattle.std.proofs.lemmas.List.{append-nil}
use Rattle.std.proofs.lemmas.List.Elements.{All-append, All-cons, All-head, All-nil, All-tail}
use Rattle.std.proofs.lemmas.Nat.{mod_below}
use Rattle.plan_types.specs.Board.{IsExpansion, TicksRise, last_of, steps_of}
use Rattle.plan_types.specs.Clock.{turn_ns}
use Rattle.plan_types.specs.declared.plan.Planned.{Planned}
use Rattle.plan_types.specs.declared.plan.Pulse.{Pulse}
use Rattle.plan_types.specs.declared.plan.Triple.{Triple}
use Rattle.plan_types.specs.Lines.{Clocks, lines_tick, lines_turn}
use Rattle.plan_types.specs.Packing.{ticks_of}
use Rattle.plan_types.specs.Plan.{AreSpaced, Fits, pulse_of}
use Rattle.step_feed.specs.Fed.{releases_behind, last_release}
use Rattle.step_feed.specs.Pacing.{Release, lead, units_of}
use Rattle.step_feed.specs.Units.{StepUnit}
use Rattle.section_units.specs.Completed.{IsCompletionBy, IsOpenFrontBy}
use Rattle.section_units.specs.Packed.{dir_behind, end_of_plan, end_of_units}
use Rattle.section_units.specs.Sections.{AreBegunBy, AreChained, IsUnit, dir_after, of_stepper, set_to, steps_said, ticks_meant}
use Rattle.section_units.proofs.Fronting.{units_append}
use Rattle.section_units.proofs.Merging.{of_append, of_one, of_other}
use Rattle.section_units.proofs.Packing.{chains_join, fits_join, plan_ends, said_join}
use Rattle.section_units.proofs.Paceable.{can-pace, none-sooner, paced-join}

-- the steps of a plan that some units mean, and those that are left
record IsSplit (b : ℕ) (plan : List Planned) (last count : ℕ) : Type 0 where
  pub done : List Planned
  pub left : List Planned
  pub split : plan ≡ done ++ left
  pub count_is : count ≡ length done
  pub within : last ≤ end_of_plan b done

record AreTicksDone (freq oid b : ℕ) (plan : List Planned) (last count : ℕ) (qs : List Pulse) : Type 0 where
  pub is : IsSplit b plan last count
  pub rest : Fits freq (end_of_plan b is.done) qs is.left

ticks-done : (freq oid b x : ℕ) (d : Bool) (ts : List ℕ) (qs : List Pulse) (plan : List Planned) → Fits freq b (map (pulse_of oid) (steps_of d ts) ++ qs) plan → x ≤ b → AreTicksDone freq oid b plan (last_of x ts) (length ts) qs
ticks-done freq oid b x d [] qs plan fits h = record { is = record { done = []; left = plan; split = refl; count_is = refl; within = h }; rest = fits }
ticks-done freq oid b x d (t ∷ ts) qs [] fits h = absurd fits
ticks-done freq oid b x d (t ∷ ts) qs (s ∷ plan) fits h =
    let r = ticks-done freq oid s.tick t d ts qs plan fits.1 fits.0.not_late in
    record {
      is = record { done = s ∷ r.is.done; left = r.is.left; split = ap (λ ps. s ∷ ps) r.is.split; count_is = ap (λ n. suc n) r.is.count_is; within = r.is.within };
      rest = r.rest;
    }

-- units that tell their last tick
AreTold : List StepUnit → Type 0
AreTold [] = Unit {0}
AreTold (u ∷ us) = (u.last ≡ last_of 0 (ticks_meant u)) × AreTold us

told-chain : (clocks : Clocks) (b : ℕ) (us : List StepUnit) → AreChained clocks b us → AreTold us
unfolding AreTold
told-chain clocks b [] h = tt
told-chain clocks b (u ∷ us) h = (h.1.last, told-chain clocks u.last us h.2)

told-begun : (homing : Bool) (clocks : Clocks) (b : ℕ) (us : List StepUnit) → AreBegunBy homing clocks b us → AreTold us
unfolding AreTold
told-begun homing clocks b [] h = tt
told-begun homing clocks b (u ∷ us) h = (h.2.last, told-chain clocks u.last us h.3)

steps-count : (oid : ℕ) (d : Bool) (ts : List ℕ) → length (map (pulse_of oid) (steps_of d ts)) ≡ length ts
steps-count oid d [] = refl
steps-count oid d (t ∷ ts) = ap (λ n. suc n) (steps-count oid d ts)

units-done : (freq oid behind b : ℕ) (up : Bool) (us : List StepUnit) (plan : List Planned) → AreTold us → Fits freq b (steps_said oid up us) plan → behind ≤ b → IsSplit b plan (end_of_units behind us) (length (steps_said oid up us))
unfolding AreTold
units-done freq oid behind b up [] plan told fits h = record { done = []; left = plan; split = refl; count_is = refl; within = h }
units-done freq oid behind b up (u ∷ us) plan told fits h =
    let d = dir_after up u.up in
    let ts = ticks_meant u in
    let r = ticks-done freq oid b 0 d ts (steps_said oid d us) plan fits (omega arith) in
    let end = r.is.within in
    let last = told.0 in
    let rest = units-done freq oid u.last (end_of_plan b r.is.done) d us r.is.left told.1 r.rest (omega arith) in
    let more = rest.within in
    let joined = plan_ends b r.is.done rest.done in
    let c = rest.count_is in
    let n = r.is.count_is in
    let l = steps-count oid d ts in
    record {
      done = r.is.done ++ rest.done;
      left = rest.left;
      split = r.is.split ∙ ap (λ ps. r.is.done ++ ps) rest.split ∙ sym (append_assoc r.is.done rest.done rest.left);
      count_is = length-append (map (pulse_of oid) (steps_of d ts)) (steps_said oid d us) ∙ omega (arith, length-append r.is.done rest.done);
      within = omega arith;
    }

-- the unit of a step behind a tick
step-unit : Clocks → ℕ → ℕ → Option ℕ → Planned → StepUnit
step-unit clocks oid b reset s = record {
  stepper = oid;
  first = s.tick;
  last = s.tick;
  due = lines_turn clocks s.tick;
  triple = record { interval = (s.tick - b) % 4_294_967_296; count = 1; add = pos 0 };
  up = Some s.up;
  reset = reset;
}

one-tick : (t interval : ℕ) → ticks_of t (record { interval = interval; count = 1; add = pos 0 }) ≡ t ∷ []
one-tick t interval = ap (λ x. x ∷ []) (omega arith)

turned : (t b : ℕ) → b < t → t % 4_294_967_296 ≡ (b + (t - b) % 4_294_967_296) % 4_294_967_296
turned t b h = omega arith

one-expands : (t b : ℕ) → b < t → IsExpansion b (record { interval = (t - b) % 4_294_967_296; count = 1; add = pos 0 }) (t ∷ [])
one-expands t b h = record {
  ticks_of = record {
    number = refl;
    some = omega arith;
    each = each;
    above = λ i l. absurd (omega arith);
    below = λ i l. absurd (omega arith);
  };
  behind = h;
  continues = turned t b h;
}
  where
    each : (i : ℕ) → i < 1 → slice_index (t ∷ []) i ≡ slice_index (t ∷ []) 0 + i * ((t - b) % 4_294_967_296) + 0 * (i * (i + 1) / 2)
    each zero l = omega arith
    each (suc i) l = absurd (omega arith)

step-meant : (clocks : Clocks) (oid b : ℕ) (reset : Option ℕ) (s : Planned) → ticks_meant (step-unit clocks oid b reset s) ≡ s.tick ∷ []
unfolding step-unit
step-meant clocks oid b reset s = one-tick s.tick ((s.tick - b) % 4_294_967_296)

step-is : (clocks : Clocks) (oid b : ℕ) (reset : Option ℕ) (s : Planned) → b < s.tick → IsUnit clocks b (step-unit clocks oid b reset s)
unfolding step-unit
step-is clocks oid b reset s h =
    let t = s.tick in
    let triple : Triple = record { interval = (t - b) % 4_294_967_296; count = 1; add = pos 0 } in
    let e = sym (one-tick t ((t - b) % 4_294_967_296)) in
    record {
      expands = subst (λ ts. IsExpansion b triple ts) e (one-expands t b h);
      rise = subst (λ (ts : List ℕ). TicksRise ts) e (λ i l. absurd (omega arith));
      small = mod_below (t - b) 4_294_967_296 (omega arith);
      first = subst (λ ts. t ≡ slice_index ts 0) e refl;
      last = subst (λ ts. t ≡ last_of 0 ts) e refl;
      due = refl;
    }

step-said : (clocks : Clocks) (oid b : ℕ) (reset : Option ℕ) (s : Planned) (up : Bool) (us : List StepUnit) → steps_said oid up (step-unit clocks oid b reset s ∷ us) ≡ record { tick = s.tick; stepper = oid; up = s.up } ∷ steps_said oid s.up us
unfolding step-unit
step-said clocks oid b reset s up us = ap (λ ts. map (pulse_of oid) (steps_of s.up ts) ++ steps_said oid s.up us) (one-tick s.tick ((s.tick - b) % 4_294_967_296))

-- the units of steps behind a tick, of which the first may set the clock
step-units : Clocks → ℕ → ℕ → Option ℕ → List Planned → List StepUnit
step-units clocks oid b reset [] = []
step-units clocks oid b reset (s ∷ steps) = step-unit clocks oid b reset s ∷ step-units clocks oid s.tick None steps

steps-fit : (clocks : Clocks) (freq oid b before : ℕ) (reset : Option ℕ) (up : Bool) (steps : List Planned) → Fits freq before (steps_said oid up (step-units clocks oid b reset steps)) steps
unfolding step-units
steps-fit clocks freq oid b before reset up [] = tt
steps-fit clocks freq oid b before reset up (s ∷ steps) =
    rw (step-said clocks oid b reset s up (step-units clocks oid s.tick None steps)) (record { direction = refl; not_early = omega arith; not_late = omega arith }, steps-fit clocks freq oid s.tick s.tick None s.up steps)

steps-many : (clocks : Clocks) (oid b : ℕ) (reset : Option ℕ) (up : Bool) (steps : List Planned) → length (steps_said oid up (step-units clocks oid b reset steps)) ≡ length steps
unfolding step-units
steps-many clocks oid b reset up [] = refl
steps-many clocks oid b reset up (s ∷ steps) =
    rw (step-said clocks oid b reset s up (step-units clocks oid s.tick None steps)) (ap (λ n. suc n) (steps-many clocks oid s.tick None s.up steps))

steps-chain : (clocks : Clocks) (oid b before : ℕ) (steps : List Planned) → b ≤ before → AreSpaced before steps → AreChained clocks b (step-units clocks oid b None steps)
unfolding step-units step-unit
steps-chain clocks oid b before [] h spaced = tt
steps-chain clocks oid b before (s ∷ steps) h spaced =
    let gap = spaced.0 in
    (refl, step-is clocks oid b None s (omega arith), steps-chain clocks oid s.tick s.tick steps (omega arith) spaced.1)

some-up : (up : Bool) → Some up ≢ None
some-up up = λ e. cc

steps-begin : (homing : Bool) (clocks : Clocks) (oid base : ℕ) (steps : List Planned) → AreSpaced base steps → AreBegunBy homing clocks base (step-units clocks oid base (set_to homing base) steps)
unfolding step-units step-unit
steps-begin homing clocks oid base [] spaced = tt
steps-begin homing clocks oid base (s ∷ steps) spaced =
    let gap = spaced.0 in
    (refl, some-up s.up, step-is clocks oid base (set_to homing base) s (omega arith), steps-chain clocks oid s.tick s.tick steps (omega arith) spaced.1)

steps-own : (clocks : Clocks) (oid b : ℕ) (reset : Option ℕ) (steps : List Planned) → All (λ u. u.stepper ≡ oid) (step-units clocks oid b reset steps)
unfolding step-units step-unit
steps-own clocks oid b reset [] = All-nil (λ (u : StepUnit). u.stepper ≡ oid)
steps-own clocks oid b reset (s ∷ steps) = All-cons (λ (u : StepUnit). u.stepper ≡ oid) (step-unit clocks oid b reset s) (step-units clocks oid s.tick None steps) refl (steps-own clocks oid s.tick None steps)

steps-due : (clocks : Clocks) (oid b from : ℕ) (reset : Option ℕ) (steps : List Planned) → All (λ s. from ≤ lines_turn clocks s.tick) steps → All (λ u. from ≤ u.due) (step-units clocks oid b reset steps)
unfolding step-units step-unit
steps-due clocks oid b from reset [] all = All-nil (λ (u : StepUnit). from ≤ u.due)
steps-due clocks oid b from reset (s ∷ steps) all =
    let P : Planned → Type 0 = λ q. from ≤ lines_turn clocks q.tick in
    All-cons (λ (u : StepUnit). from ≤ u.due) (step-unit clocks oid b reset s) (step-units clocks oid s.tick None steps) (All-head P s steps all) (steps-due clocks oid s.tick from None steps (All-tail P s steps all))

-- the units by which those of a stepper become whole
record IsStepperWhole (homing : Bool) (clocks : Clocks) (freq oid base from : ℕ) (plan : List Planned) (us : List StepUnit) : Type 0 where
  pub more : List StepUnit
  pub own : All (λ u. u.stepper ≡ oid) more
  pub due : All (λ u. from ≤ u.due) more
  pub begun : AreBegunBy homing clocks base (us ++ more)
  pub fits : Fits freq base (steps_said oid false (us ++ more)) plan
  pub whole : length (steps_said oid false (us ++ more)) ≡ length plan

spaced-behind : (b : ℕ) (xs ys : List Planned) → AreSpaced b (xs ++ ys) → AreSpaced (end_of_plan b xs) ys
spaced-behind b [] ys h = h
spaced-behind b (x ∷ xs) ys h = spaced-behind x.tick xs ys h.1

pub drop-done : (xs ys : List Planned) → drop (length xs) (xs ++ ys) ≡ ys
drop-done [] ys = refl
drop-done (x ∷ xs) ys = drop-done xs ys

fits-done : (freq b : ℕ) (ps : List Pulse) (xs ys : List Planned) → Fits freq b ps (xs ++ ys) → length ps ≡ length xs → Fits freq b ps xs
fits-done freq b [] xs ys h e = tt
fits-done freq b (p ∷ ps) [] ys h e = absurd (omega arith)
fits-done freq b (p ∷ ps) (x ∷ xs) ys h e = (h.0, fits-done freq x.tick ps xs ys h.1 (omega arith))

stepper-whole : (homing : Bool) (clocks : Clocks) (freq oid base from : ℕ) (plan : List Planned) (us : List StepUnit) → AreSpaced base plan → AreBegunBy homing clocks base us → Fits freq base (steps_said oid false us) plan → All (λ s. from ≤ lines_turn clocks s.tick) (drop (length (steps_said oid false us)) plan) → IsStepperWhole homing clocks freq oid base from plan us
stepper-whole homing clocks freq oid base from plan [] spaced begun fits later = record {
  more = step-units clocks oid base (set_to homing base) plan;
  own = steps-own clocks oid base (set_to homing base) plan;
  due = steps-due clocks oid base from (set_to homing base) plan later;
  begun = steps-begin homing clocks oid base plan spaced;
  fits = steps-fit clocks freq oid base base (set_to homing base) false plan;
  whole = steps-many clocks oid base (set_to homing base) false plan;
}
stepper-whole homing clocks freq oid base from plan (u ∷ us) spaced begun fits later =
    let all = u ∷ us in
    let said = steps_said oid false all in
    let s = units-done freq oid base base false all plan (told-begun homing clocks base all begun) fits (omega arith) in
    let b = end_of_units base all in
    let left = s.left in
    let more = step-units clocks oid b None left in
    let up = dir_behind false all in
    let joined = said_join oid false all more in
    let whole = s.split in
    let spaced' : AreSpaced base (s.done ++ left) = subst (AreSpaced base) whole spaced in
    let rest : drop (length said) plan ≡ left = ap (λ n. drop n plan) s.count_is ∙ ap (drop (length s.done)) whole ∙ drop-done s.done left in
    let done = fits-done freq base said s.done left (subst (Fits freq base said) whole fits) s.count_is in
    let fit : Fits freq base (said ++ steps_said oid up more) (s.done ++ left) = fits_join freq base said (steps_said oid up more) s.done left done s.count_is (steps-fit clocks freq oid b (end_of_plan base s.done) None up left) in
    let many = steps-many clocks oid b None up left in
    let c = s.count_is in
    record {
      more = more;
      own = steps-own clocks oid b None left;
      due = steps-due clocks oid b from None left (subst (All (λ (q : Planned). from ≤ lines_turn clocks q.tick)) rest later);
      begun = (begun.0, begun.1, begun.2, chains_join clocks u.last us more begun.3 (steps-chain clocks oid b (end_of_plan base s.done) left s.within (spaced-behind base s.done left spaced')));
      fits = rw joined (subst (Fits freq base (said ++ steps_said oid up more)) (sym whole) fit);
      whole = ap length joined ∙ length-append said (steps_said oid up more) ∙ omega (arith, length-append s.done left, ap length whole);
    }

-- those of the first so many steppers
record AreWholeTo (homing : Bool) (clocks : Clocks) (freq base from n : ℕ) (plan : ℕ → List Planned) (us : List StepUnit) : Type 0 where
  pub more : List StepUnit
  pub due : All (λ u. from ≤ u.due) more
  pub begun : (oid : ℕ) → oid < n → AreBegunBy homing clocks base (of_stepper oid us ++ of_stepper oid more)
  pub fits : (oid : ℕ) → oid < n → Fits freq base (steps_said oid false (of_stepper oid us ++ of_stepper oid more)) (plan oid)
  pub whole : (oid : ℕ) → oid < n → length (steps_said oid false (of_stepper oid us ++ of_stepper oid more)) ≡ length (plan oid)
  pub others : (oid : ℕ) → n ≤ oid → of_stepper oid more ≡ []

of-all : (oid : ℕ) (us : List StepUnit) → All (λ u. u.stepper ≡ oid) us → of_stepper oid us ≡ us
of-all oid [] own = refl
of-all oid (u ∷ us) own =
    let P : StepUnit → Type 0 = λ v. v.stepper ≡ oid in
    of_one oid u us (All-head P u us own) ∙ ap (λ vs. u ∷ vs) (of-all oid us (All-tail P u us own))

of-none : (n oid : ℕ) (us : List StepUnit) → All (λ u. u.stepper ≡ n) us → (n ≡ oid → ⊥) → of_stepper oid us ≡ []
of-none n oid [] own ne = refl
of-none n oid (u ∷ us) own ne =
    let P : StepUnit → Type 0 = λ v. v.stepper ≡ n in
    let is : u.stepper ≡ n = All-head P u us own in
    of_other oid u us (λ e. ne (sym is ∙ e)) ∙ of-none n oid us (All-tail P u us own) ne

one-whole : (homing : Bool) (clocks : Clocks) (freq base from n : ℕ) (plan : ℕ → List Planned) (us : List StepUnit) → AreWholeTo homing clocks freq base from n plan us → IsStepperWhole homing clocks freq n base from (plan n) (of_stepper n us) → AreWholeTo homing clocks freq base from (n + 1) plan us
one-whole homing clocks freq base from n plan us h one =
    let more = h.more ++ one.more in
    let here : of_stepper n more ≡ one.more = of_append n h.more one.more ∙ ap (λ vs. vs ++ of_stepper n one.more) (h.others n (omega arith)) ∙ of-all n one.more one.own in
    let there : (oid : ℕ) → (n ≡ oid → ⊥) → of_stepper oid more ≡ of_stepper oid h.more = λ oid ne. of_append oid h.more one.more ∙ ap (λ vs. of_stepper oid h.more ++ vs) (of-none n oid one.more one.own ne) ∙ append-nil (of_stepper oid h.more) in
    record {
      more = more;
      due = All-append (λ (u : StepUnit). from ≤ u.due) h.more one.more h.due one.due;
      begun = λ oid lt. by-number more one.more h.more (λ k vs. AreBegunBy homing clocks base (of_stepper k us ++ vs)) oid lt here there one.begun h.begun;
      fits = λ oid lt. by-number more one.more h.more (λ k vs. Fits freq base (steps_said k false (of_stepper k us ++ vs)) (plan k)) oid lt here there one.fits h.fits;
      whole = λ oid lt. by-number more one.more h.more (λ k vs. length (steps_said k false (of_stepper k us ++ vs)) ≡ length (plan k)) oid lt here there one.whole h.whole;
      others = λ oid le. there oid (λ e. omega (arith, e, le)) ∙ h.others oid (omega (arith, le));
    }
  where
    by-number : (all last before : List StepUnit) (P : ℕ → List StepUnit → Type 0) (oid : ℕ) → oid < n + 1 → of_stepper n all ≡ last → ((k : ℕ) → (n ≡ k → ⊥) → of_stepper k all ≡ of_stepper k before) → P n last → ((k : ℕ) → k < n → P k (of_stepper k before)) → P oid (of_stepper oid all)
    by-number all last before P oid lt here there now past = elim (eqb_tells n oid) as (λ _. P oid (of_stepper oid all)) [
      | inl p ↦ subst (λ k. P k (of_stepper k all)) p.1 (subst (P n) (sym here) now)
      | inr p ↦ let ne = p.1 in subst (P oid) (sym (there oid ne)) (past oid (omega (arith, lt, ne)))
    ]

all-whole : (homing : Bool) (clocks : Clocks) (freq base from n : ℕ) (plan : ℕ → List Planned) (us : List StepUnit) → ((oid : ℕ) → IsStepperWhole homing clocks freq oid base from (plan oid) (of_stepper oid us)) → AreWholeTo homing clocks freq base from n plan us
all-whole homing clocks freq base from zero plan us each = record {
  more = [];
  due = All-nil (λ (u : StepUnit). from ≤ u.due);
  begun = λ oid lt. absurd (omega (arith, lt));
  fits = λ oid lt. absurd (omega (arith, lt));
  whole = λ oid lt. absurd (omega (arith, lt));
  others = λ oid le. refl;
}
all-whole homing clocks freq base from (suc n) plan us each =
    let e : n + 1 ≡ suc n = omega arith in
    subst (λ k. AreWholeTo homing clocks freq base from k plan us) e (one-whole homing clocks freq base from n plan us (all-whole homing clocks freq base from n plan us each) (each n))

pub none-said : (freq b : ℕ) (ps : List Pulse) → Fits freq b ps [] → length ps ≡ 0
none-said freq b [] h = refl
none-said freq b (p ∷ ps) h = absurd h

-- the section that a front and these releases are
pub completed : (homing : Bool) (clocks : Clocks) (freq slots start end next count : ℕ) (plan : ℕ → List Planned) (rs : List Release) (waiting : List StepUnit) → IsOpenFrontBy homing clocks freq slots start end next count plan rs waiting → (more : List Release) × IsCompletionBy homing clocks freq slots start end next plan rs more
completed homing clocks freq slots start end next count plan rs waiting f =
    let base = lines_tick clocks (start * turn_ns) in
    let pushed = units_of rs ++ waiting in
    let w = all-whole homing clocks freq base (next + lead) count plan pushed (λ oid. stepper-whole homing clocks freq oid base (next + lead) (plan oid) (of_stepper oid pushed) (f.spaced oid) (f.begun oid) (f.fits oid) (f.later oid)) in
    let paced = can-pace clocks slots (last_release f.from rs) (releases_behind [] rs) (waiting ++ w.more) f.slots_some in
    let more = paced.releases in
    let units : units_of (rs ++ more) ≡ pushed ++ w.more = units_append rs more ∙ ap (λ us. units_of rs ++ us) paced.units ∙ sym (append_assoc (units_of rs) waiting w.more) in
    let of : (oid : ℕ) → of_stepper oid (units_of (rs ++ more)) ≡ of_stepper oid pushed ++ of_stepper oid w.more = λ oid. ap (of_stepper oid) units ∙ of_append oid pushed w.more in
    let none : (oid : ℕ) → count ≤ oid → of_stepper oid (units_of (rs ++ more)) ≡ of_stepper oid pushed = λ oid le. of oid ∙ ap (λ us. of_stepper oid pushed ++ us) (w.others oid le) ∙ append-nil (of_stepper oid pushed) in (
      more,
      record {
        whole = record {
          spaced = f.spaced;
          within = f.within;
          begun = λ oid. elim (leb_tells count oid) as (λ _. AreBegunBy homing clocks base (of_stepper oid (units_of (rs ++ more)))) [
            | inl p ↦ subst (AreBegunBy homing clocks base) (sym (none oid p.1)) (f.begun oid)
            | inr p ↦ let lt = p.1 in subst (AreBegunBy homing clocks base) (sym (of oid)) (w.begun oid (omega (arith, lt)))
          ];
          fits = λ oid. elim (leb_tells count oid) as (λ _. Fits freq base (steps_said oid false (of_stepper oid (units_of (rs ++ more)))) (plan oid)) [
            | inl p ↦ subst (λ us. Fits freq base (steps_said oid false us) (plan oid)) (sym (none oid p.1)) (f.fits oid)
            | inr p ↦ let lt = p.1 in subst (λ us. Fits freq base (steps_said oid false us) (plan oid)) (sym (of oid)) (w.fits oid (omega (arith, lt)))
          ];
          whole = λ oid. elim (leb_tells count oid) as (λ _. length (steps_said oid false (of_stepper oid (units_of (rs ++ more)))) ≡ length (plan oid)) [
            | inl p ↦ subst (λ us. length (steps_said oid false us) ≡ length (plan oid)) (sym (none oid p.1)) (none-said freq base _ (subst (Fits freq base _) (f.none oid p.1) (f.fits oid)) ∙ sym (ap (λ (ps : List Planned). length ps) (f.none oid p.1)))
            | inr p ↦ let lt = p.1 in subst (λ us. length (steps_said oid false us) ≡ length (plan oid)) (sym (of oid)) (w.whole oid (omega (arith, lt)))
          ];
          from = f.from;
          exact = f.exact;
          paced = paced-join clocks slots f.from [] rs more f.paced paced.paced;
        };
        later = none-sooner clocks slots (last_release f.from rs) next (releases_behind [] rs) more waiting w.more paced.paced paced.units f.no_room w.due;
      },
    )
