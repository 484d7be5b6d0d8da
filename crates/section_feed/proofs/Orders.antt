-- The units of one stepper among others, and the order of units.
use Rattle.std.proofs.Common.{◌≡◌, ℕ, zero, suc, ◌+◌, ◌<◌, ◌≤◌, Bool, true, false, cond, eqb, List, [], ◌∷◌, ◌++◌, All, length, get_or, take, append_assoc, arith, pos, None, subst, ap, sym, ◌∙◌, refl}
use Rattle.std.proofs.lemmas.Bool.{eq-eqb}
use Rattle.std.proofs.lemmas.List.{take_more}
use Rattle.std.proofs.lemmas.Bool.Decides.{nat_tests}
use Rattle.section_units.specs.Sections.{of_stepper}
use Rattle.plan_types.specs.Lines.{Clocks}
use Rattle.step_feed.specs.Units.{StepUnit}
use Rattle.step_feed.specs.Pacing.{Release}
use Rattle.step_feed.specs.Streams.{IsFedOf}
use Rattle.step_feed.specs.declared.stream.FeedStream.{FeedStream}
use Rattle.section_feed.specs.Ordering.{AreInOrderFrom, last_order, order_of}
use Rattle.section_units.proofs.Merging.{of_one, of_other, of_append}

pub ne-eqb : (a b : ℕ) → (a ≡ b → ⊥) → eqb a b ≡ false
ne-eqb a b h = grind (arith, nat_tests)

-- what holds of all elements and of one more behind them
pub at-added : {A : Type 0} (P : ℕ → A → Type 0) (xs : List A) (x : A) → ((k : ℕ) (d : A) → k < length xs → P k (get_or xs k d)) → P (length xs) x → (k : ℕ) (d : A) → k < length (xs ++ x ∷ []) → P k (get_or (xs ++ x ∷ []) k d)
at-added P [] x all here zero d h = here
at-added P [] x all here (suc k) d h = absurd (omega arith)
at-added P (y ∷ ys) x all here zero d h = all 0 d (omega arith)
at-added P (y ∷ ys) x all here (suc k) d h = at-added (λ n. P (suc n)) ys x (λ n e l. all (suc n) e (omega arith)) here k d (omega arith)

-- units behind others in their order
pub order-append : (before : ℕ) (xs ys : List StepUnit) → AreInOrderFrom before xs → AreInOrderFrom (last_order before xs) ys → AreInOrderFrom before (xs ++ ys)
order-append before [] ys h k = k
order-append before (x ∷ xs) ys h k = (h.0, order-append (order_of x) xs ys h.1 k)

pub last-order-append : (before : ℕ) (xs ys : List StepUnit) → last_order before (xs ++ ys) ≡ last_order (last_order before xs) ys
last-order-append before [] ys = refl
last-order-append before (x ∷ xs) ys = last-order-append (order_of x) xs ys

-- no unit is of a stepper that isn't there
pub of-none : (count place : ℕ) (us : List StepUnit) → All (λ u. u.stepper < count) us → count ≤ place → of_stepper place us ≡ []
of-none count place [] all h = refl
of-none count place (u ∷ us) all h =
    let here = all 0 u (omega arith) in
    of_other place u us (λ e. absurd (omega arith)) ∙ of-none count place us (λ k d l. all (suc k) d (omega arith)) h

abbrev pub no_unit : StepUnit
no_unit = record { stepper = 0; first = 0; last = 0; due = 0; triple = record { interval = 0; count = 0; add = pos 0 }; up = None; reset = None }

-- the place of one more unit
pub last-next : (before i : ℕ) (us : List StepUnit) → i < length us → order_of (get_or us i no_unit) ≡ last_order before (take (i + 1) us)
last-next before i us inside =
    let e : take (i + 1) us ≡ take i us ++ get_or us i no_unit ∷ [] = take_more us i no_unit inside in
    rw e (sym (last-order-append before (take i us) (get_or us i no_unit ∷ [])))

pub fed-next : (old now new : FeedStream) (i : ℕ) (us : List StepUnit) → i < length us
    → ((clocks : Clocks) (pushed : List StepUnit) (released : List Release) → IsFedOf old clocks pushed released → IsFedOf now clocks (pushed ++ take i us) released)
    → ((clocks : Clocks) (pushed : List StepUnit) (released : List Release) → IsFedOf now clocks pushed released → IsFedOf new clocks (pushed ++ get_or us i no_unit ∷ []) released)
    → (clocks : Clocks) (pushed : List StepUnit) (released : List Release) → IsFedOf old clocks pushed released → IsFedOf new clocks (pushed ++ take (i + 1) us) released
fed-next old now new i us inside first more clocks pushed released h =
    let u = get_or us i no_unit in
    let e : take (i + 1) us ≡ take i us ++ u ∷ [] = take_more us i no_unit inside in
    subst (λ xs. IsFedOf new clocks xs released) (append_assoc pushed (take i us) (u ∷ []) ∙ ap (λ xs. pushed ++ xs) (sym e)) (more clocks (pushed ++ take i us) released (first clocks pushed released h))
