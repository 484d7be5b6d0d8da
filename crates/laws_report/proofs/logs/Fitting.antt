-- Pulses that fit, one by one.
use Rattle.std.proofs.Common.{◌≡◌, ◌∙◌, ℕ, zero, suc, ◌<◌, ◌≤◌, Bool, true, false, List, [], ◌∷◌, ◌++◌, length, ap, sym, refl, subst, arith, Option, Some, None, length-append, rules}
use Rattle.std.specs.Prelude.{nat_lt, if◌then◌else◌, slice_index_or}
use Rattle.laws_board.proofs.Names.{nat_tests, Planned, Pulse, Fits}
use Rattle.plan_types.specs.declared.cause.MisfitKind.{MisfitKind}
use Rattle.plan_types.specs.declared.cause.MisfitKind.TheVariants as misfit
use Rattle.plan_types.specs.Plan.{IsPulseOf, opposite, window, no_step}
use Rattle.log_check.specs.Pulses.{pulse_fault, step_fault, tick_before}
use Rattle.laws_report.specs.logs.Follows.{in_order}
use Rattle.laws_run.proofs.home_wholes.Counts.{fits_many}

pub length-in_order : {A : Type 0} (xs : List A) → length (in_order xs) ≡ length xs
length-in_order [] = refl
length-in_order (x ∷ xs) = (let long = length-append (in_order xs) (x ∷ []) in let rest = length-in_order xs in omega arith)

-- one pulse more
pub fits-more : (freq before : ℕ) (ps : List Pulse) (plan : List Planned) (i : ℕ) (p : Pulse) → Fits freq before ps plan → i ≡ length ps → i < length plan → IsPulseOf freq (tick_before before plan i) (slice_index_or plan i no_step) p
    → Fits freq before (ps ++ p ∷ []) plan
fits-more freq before ps [] i p fits at inside is = absurd (omega arith)
fits-more freq before [] (s ∷ plan) i p fits at inside is =
    let G : ℕ → Type 0 = λ n. IsPulseOf freq (tick_before before (s ∷ plan) n) (slice_index_or (s ∷ plan) n no_step) p in
    (subst G at is, tt)
fits-more freq before (q ∷ ps) (s ∷ plan) zero p fits at inside is = absurd (omega (arith, at))
fits-more freq before (q ∷ ps) (s ∷ plan) (suc i) p fits at inside is = (fits.0, fits-more freq s.tick ps plan i p fits.1 (omega (arith, at)) (omega (arith, inside)) (behind-first before s plan i is)) where
  behind-first : (before : ℕ) (s : Planned) (plan : List Planned) (i : ℕ) → IsPulseOf freq (tick_before before (s ∷ plan) (suc i)) (slice_index_or (s ∷ plan) (suc i) no_step) p → IsPulseOf freq (tick_before s.tick plan i) (slice_index_or plan i no_step) p
  behind-first before s plan zero h = h
  behind-first before s plan (suc i) h = h

-- where nothing is planned the clocks don't matter
pub fits-none : (f b f' b' : ℕ) (ps : List Pulse) → Fits f b ps [] → Fits f' b' ps []
fits-none f b f' b' [] fits = tt
fits-none f b f' b' (p ∷ ps) fits = fits

same-way : (a b : Bool) → opposite a b ≡ false → b ≡ a
same-way true true e = refl
same-way true false e = cc
same-way false true e = cc
same-way false false e = refl

by-tests : (a b c : Bool) → (if a then Some misfit.Direction else (if b then Some misfit.Early else (if c then Some misfit.Late else None))) ≡ None → (a ≡ false) × (b ≡ false) × (c ≡ false)
by-tests true b c e = cc
by-tests false true c e = cc
by-tests false false true e = cc
by-tests false false false e = (refl, refl, refl)

pub made-for : (freq before : ℕ) (step : Planned) (s tick : ℕ) (up : Bool) → step_fault freq before step tick up ≡ None → IsPulseOf freq before step (record { tick = tick; stepper = s; up = up })
made-for freq before step s tick up fits = search (rules, by-tests, nat_lt, same-way, nat_tests)

inside-by : (b : Bool) (x : Option MisfitKind) → (if b then x else Some misfit.Extra) ≡ None → (b ≡ true) × (x ≡ None)
inside-by true x e = (refl, e)
inside-by false x e = cc

-- what a pulse that fits shows
pub pulse-fits : (freq base : ℕ) (plan : List Planned) (i s tick : ℕ) (up : Bool) → pulse_fault freq base plan i tick up ≡ None → (i < length plan) × IsPulseOf freq (tick_before base plan i) (slice_index_or plan i no_step) (record { tick = tick; stepper = s; up = up })
pulse-fits freq base plan i s tick up fits = search (rules, inside-by, nat_lt, slice_index_or, nat_tests, made-for)

-- the last pulse of those that fit
pub fits-last : (freq before : ℕ) (ps : List Pulse) (plan : List Planned) (i : ℕ) (p : Pulse) → i ≡ length ps → Fits freq before (ps ++ p ∷ []) plan → (i < length plan) × IsPulseOf freq (tick_before before plan i) (slice_index_or plan i no_step) p
fits-last freq before [] [] i p at fits = absurd fits
fits-last freq before (q ∷ ps) [] i p at fits = absurd fits
fits-last freq before [] (s ∷ plan) i p at fits =
    let G : ℕ → Type 0 = λ n. IsPulseOf freq (tick_before before (s ∷ plan) n) (slice_index_or (s ∷ plan) n no_step) p in
    let none : i ≡ 0 = at in
    (omega (arith, at), subst G (sym none) fits.0)
fits-last freq before (q ∷ ps) (s ∷ plan) zero p at fits = absurd (omega (arith, at))
fits-last freq before (q ∷ ps) (s ∷ plan) (suc i) p at fits = later (fits-last freq s.tick ps plan i p (omega (arith, at)) fits.1) where
  later : (i < length plan) × IsPulseOf freq (tick_before s.tick plan i) (slice_index_or plan i no_step) p → (suc i < length (s ∷ plan)) × IsPulseOf freq (tick_before before (s ∷ plan) (suc i)) (slice_index_or (s ∷ plan) (suc i) no_step) p
  later h = (omega (arith, h.0), behind-first before s plan i h.1) where
    behind-first : (before : ℕ) (s : Planned) (plan : List Planned) (i : ℕ) → IsPulseOf freq (tick_before s.tick plan i) (slice_index_or plan i no_step) p → IsPulseOf freq (tick_before before (s ∷ plan) (suc i)) (slice_index_or (s ∷ plan) (suc i) no_step) p
    behind-first before s plan zero h = h
    behind-first before s plan (suc i) h = h

way-same : (a : Bool) → opposite a a ≡ false
way-same true = refl
way-same false = refl

from-tests : (a b c : Bool) → a ≡ false → b ≡ false → c ≡ false → (if a then Some misfit.Direction else (if b then Some misfit.Early else (if c then Some misfit.Late else None))) ≡ None
from-tests a b c e f g = rw (e, f, g) refl

pub none-wrong : (freq before : ℕ) (step : Planned) (p : Pulse) → IsPulseOf freq before step p → step_fault freq before step p.tick p.up ≡ None
none-wrong freq before step p is = search (rules, nat_lt, nat_tests, way-same, from-tests)

pub no-pulse-fault : (freq base : ℕ) (plan : List Planned) (i : ℕ) (p : Pulse) → i < length plan → IsPulseOf freq (tick_before base plan i) (slice_index_or plan i no_step) p → pulse_fault freq base plan i p.tick p.up ≡ None
no-pulse-fault freq base plan i p inside is = search (rules, nat_lt, nat_tests, none-wrong, slice_index_or)
