-- A halt drops the steps that pend: of each stepper, what is kept is a prefix of what was, and all of it where the stepper
-- isn't halted.
use Rattle.std.proofs.Common.{◌≡◌, ◌≢◌, ℕ, zero, suc, ◌+◌, ◌<◌, ◌≤◌, Bool, true, false, List, [], ◌∷◌, ◌++◌, length, get_or, set, Option, Some, None, refl, ap, sym, ◌∙◌, subst, arith, append_assoc, append-nil, ◌||◌, ◌⊎◌, inl, inr}
use Rattle.std.specs.Prelude.{◌==◌, if◌then◌else◌}
use Rattle.std.proofs.lemmas.Bool.Decides.{eqb_tells}
use Rattle.std.proofs.lemmas.List.{get_or-set_same, get_or-set_other}
use Rattle.plan_types.specs.declared.plan.Pulse.{Pulse}
use Rattle.board_step.specs.Steps.{Pending}
use Rattle.board_sim.specs.Board.{Controller, stepper_at, emptied}
use Rattle.board_sim.specs.Rig.{halt, halts, with_steppers}
use Rattle.board_sim.specs.RigRuns.{has}
use Rattle.board_sim.specs.Fair.{only, pending_at, SlotRises, MakesMeant, IsCut}
use Rattle.board_sim.specs.Halted.{without, cut_at, cut_all, is_halted}
use Rattle.board_sim.proofs.Bound.{same_or_not}
use Rattle.board_sim.proofs.Steps.{only-append}
use Rattle.plan_types.proofs.Facts.{is_equal, second_of_neither, not_equal}

only_same_by : (b : Bool) (i : ℕ) (p : Pulse) (xs : List Pulse) → (p.stepper == i) ≡ b → only i xs ≡ only i (only i xs) → only i (p ∷ xs) ≡ only i (only i (p ∷ xs))
only_same_by true i p xs e h = rw (e, e) (ap (λ (ys : List Pulse). p ∷ ys) h)
only_same_by false i p xs e h = rw e h

only_same : (i : ℕ) (xs : List Pulse) → only i xs ≡ only i (only i xs)
only_same i [] = refl
only_same i (p ∷ xs) = only_same_by (p.stepper == i) i p xs refl (only_same i xs)

only_other_by : (b : Bool) (i j : ℕ) (p : Pulse) (xs : List Pulse) → i ≢ j → (p.stepper == i) ≡ b → only j (only i xs) ≡ [] → only j (only i (p ∷ xs)) ≡ []
only_other_by true i j p xs d e h =
    let is : p.stepper ≡ i = elim (eqb_tells p.stepper i) [ inl k ↦ k.1 | inr k ↦ (let bad : false ≡ true = sym k.0 ∙ e in absurd (cc)) ] in
    rw (e, not_equal p.stepper j (λ same. d (sym is ∙ same))) h
only_other_by false i j p xs d e h = rw e h

only_other : (i j : ℕ) (xs : List Pulse) → i ≢ j → only j (only i xs) ≡ []
only_other i j [] d = refl
only_other i j (p ∷ xs) d = only_other_by (p.stepper == i) i j p xs d refl (only_other i j xs d)

without_same_by : (b : Bool) (i : ℕ) (p : Pulse) (xs : List Pulse) → (p.stepper == i) ≡ b → only i (without i xs) ≡ [] → only i (without i (p ∷ xs)) ≡ []
without_same_by true i p xs e h = rw e h
without_same_by false i p xs e h = rw (e, e) h

without_same : (i : ℕ) (xs : List Pulse) → only i (without i xs) ≡ []
without_same i [] = refl
without_same i (p ∷ xs) = without_same_by (p.stepper == i) i p xs refl (without_same i xs)

cons_by : (b : Bool) (p : Pulse) (xs ys : List Pulse) → xs ≡ ys → (if b then p ∷ xs else xs) ≡ (if b then p ∷ ys else ys)
cons_by b p xs ys e = ap (λ (zs : List Pulse). if b then p ∷ zs else zs) e

without_other_by : (b : Bool) (i j : ℕ) (p : Pulse) (xs : List Pulse) → i ≢ j → (p.stepper == i) ≡ b → only j (without i xs) ≡ only j xs → only j (without i (p ∷ xs)) ≡ only j (p ∷ xs)
without_other_by true i j p xs d e h =
    let is : p.stepper ≡ i = elim (eqb_tells p.stepper i) [ inl k ↦ k.1 | inr k ↦ (let bad : false ≡ true = sym k.0 ∙ e in absurd (cc)) ] in
    rw (e, not_equal p.stepper j (λ same. d (sym is ∙ same))) h
without_other_by false i j p xs d e h = rw e (cons_by (p.stepper == j) p (only j (without i xs)) (only j xs) h)

without_other : (i j : ℕ) (xs : List Pulse) → i ≢ j → only j (without i xs) ≡ only j xs
without_other i j [] d = refl
without_other i j (p ∷ xs) d = without_other_by (p.stepper == i) i j p xs d refl (without_other i j xs d)

-- what is kept, by stepper
pub cut_same : (i : ℕ) (made kept : List Pulse) → only i (cut_at i made kept) ≡ only i made
cut_same i made kept = only-append i (only i made) (without i kept) ∙ ap (λ (ys : List Pulse). only i (only i made) ++ ys) (without_same i kept) ∙ append-nil (only i (only i made)) ∙ sym (only_same i made)

pub cut_other : (i j : ℕ) (made kept : List Pulse) → i ≢ j → only j (cut_at i made kept) ≡ only j kept
cut_other i j made kept d = only-append j (only i made) (without i kept) ∙ ap (λ (xs : List Pulse). xs ++ only j (without i kept)) (only_other i j made d) ∙ without_other i j kept d

none_pending : (oid : ℕ) (o : Option Pending) → pending_at oid (emptied o) ≡ []
none_pending oid None = refl
none_pending oid (Some q) = refl

none_rises : (now : ℕ) (o : Option Pending) → SlotRises now (emptied o)
none_rises now None = tt
none_rises now (Some q) = tt

pub at_halted : (xs : List (Option Pending)) (i : ℕ) → get_or (set xs i (emptied (get_or xs i None))) i None ≡ emptied (get_or xs i None)
at_halted [] i = refl
at_halted (x ∷ xs) zero = refl
at_halted (x ∷ xs) (suc i) = at_halted xs i

abbrev halt_one : ℕ → Controller → Controller
halt_one i b = with_steppers b (set b.steppers i (emptied (get_or b.steppers i None)))

one_same : (b : Controller) (i j : ℕ) (made meant : List Pulse) → MakesMeant b made meant → (i ≡ j) ⊎ (i ≢ j) → only j made ++ pending_at j (stepper_at (halt_one i b) j) ≡ only j (cut_at i made meant)
one_same b i j made meant w (inl e) =
    subst (λ (k : ℕ). only k made ++ pending_at k (stepper_at (halt_one i b) k) ≡ only k (cut_at i made meant)) e
    (ap (λ (o : Option Pending). only i made ++ pending_at i o) (at_halted b.steppers i) ∙ ap (λ (xs : List Pulse). only i made ++ xs) (none_pending i (get_or b.steppers i None)) ∙ append-nil (only i made) ∙ sym (cut_same i made meant))
one_same b i j made meant w (inr d) =
    ap (λ (o : Option Pending). only j made ++ pending_at j o) (get_or-set_other b.steppers i j (emptied (get_or b.steppers i None)) None (λ e. d (sym e))) ∙ w.same j ∙ sym (cut_other i j made meant d)

one_rises : (b : Controller) (i j : ℕ) (made meant : List Pulse) → MakesMeant b made meant → (i ≡ j) ⊎ (i ≢ j) → SlotRises b.tick (stepper_at (halt_one i b) j)
one_rises b i j made meant w (inl e) =
    subst (λ (k : ℕ). SlotRises b.tick (stepper_at (halt_one i b) k)) e (subst (λ (o : Option Pending). SlotRises b.tick o) (sym (at_halted b.steppers i)) (none_rises b.tick (get_or b.steppers i None)))
one_rises b i j made meant w (inr d) =
    subst (λ (o : Option Pending). SlotRises b.tick o) (sym (get_or-set_other b.steppers i j (emptied (get_or b.steppers i None)) None (λ e. d (sym e)))) (w.rises j)

one_whole : (b : Controller) (i : ℕ) (made meant : List Pulse) → MakesMeant b made meant → MakesMeant (halt_one i b) made (cut_at i made meant)
one_whole b i made meant w = record { same = λ j. one_same b i j made meant w (same_or_not i j); rises = λ j. one_rises b i j made meant w (same_or_not i j) }

pub halt_whole : (is : List ℕ) (b : Controller) (made meant : List Pulse) → MakesMeant b made meant → MakesMeant (with_steppers b (halt is b.steppers)) made (cut_all is made meant)
halt_whole [] b made meant w = w
halt_whole (i ∷ is) b made meant w = halt_whole is (halt_one i b) made (cut_at i made meant) (one_whole b i made meant w)

abbrev Prefix : List Pulse → List Pulse → Type 0
Prefix xs ys = (rest : List Pulse) × (xs ++ rest ≡ ys)

one_prefix : (b : Controller) (i j : ℕ) (made meant : List Pulse) → MakesMeant b made meant → (i ≡ j) ⊎ (i ≢ j) → Prefix (only j (cut_at i made meant)) (only j meant)
one_prefix b i j made meant w (inl e) =
    subst (λ (k : ℕ). Prefix (only k (cut_at i made meant)) (only k meant)) e
    (pending_at i (stepper_at b i), ap (λ (xs : List Pulse). xs ++ pending_at i (stepper_at b i)) (cut_same i made meant) ∙ w.same i)
one_prefix b i j made meant w (inr d) = ([], append-nil (only j (cut_at i made meant)) ∙ cut_other i j made meant d)

prefix_of : (xs ys zs : List Pulse) → Prefix xs ys → Prefix ys zs → Prefix xs zs
prefix_of xs ys zs p q = (p.0 ++ q.0, sym (append_assoc xs p.0 q.0) ∙ ap (λ (vs : List Pulse). vs ++ q.0) p.1 ∙ q.1)

pub halt_cuts : (is : List ℕ) (b : Controller) (made meant : List Pulse) → MakesMeant b made meant → IsCut (cut_all is made meant) meant
halt_cuts [] b made meant w oid = ([], append-nil (only oid meant))
halt_cuts (i ∷ is) b made meant w oid =
    prefix_of (only oid (cut_all is made (cut_at i made meant))) (only oid (cut_at i made meant)) (only oid meant) (halt_cuts is (halt_one i b) made (cut_at i made meant) (one_whole b i made meant w) oid)
    (one_prefix b i oid made meant w (same_or_not i oid))

first_of : (a b : Bool) → a ≡ true → (a || b) ≡ false → ⊥
first_of true b e f = let bad : true ≡ false = f in absurd (cc)
first_of false b e f = let bad : false ≡ true = e in absurd (cc)

pub not_first : (i j : ℕ) (is : List ℕ) → has j (i ∷ is) ≡ false → (i ≢ j) × (has j is ≡ false)
not_first i j is e = ((λ same. first_of (j == i) (has j is) (is_equal j i (sym same)) e), second_of_neither (j == i) (has j is) e)

pub halt_leaves : (is : List ℕ) (j : ℕ) (made meant : List Pulse) → has j is ≡ false → only j (cut_all is made meant) ≡ only j meant
halt_leaves [] j made meant e = refl
halt_leaves (i ∷ is) j made meant e = let d = not_first i j is e in halt_leaves is j made (cut_at i made meant) d.1 ∙ cut_other i j made meant d.0

-- a stepper that isn't halted behind a halt wasn't before, and loses nothing
gone : (o : Option Pending) → is_halted (emptied o) ≡ false → o ≡ None
gone None e = refl
gone (Some q) e = absurd (cc)

free_one : (xs : List (Option Pending)) (i j : ℕ) → (i ≡ j) ⊎ (i ≢ j) → is_halted (get_or (set xs i (emptied (get_or xs i None))) j None) ≡ false → is_halted (get_or xs j None) ≡ false
free_one xs i j (inl e) h =
    let here : is_halted (get_or (set xs i (emptied (get_or xs i None))) i None) ≡ false = subst (λ (k : ℕ). is_halted (get_or (set xs i (emptied (get_or xs i None))) k None) ≡ false) (sym e) h in
    let none : get_or xs i None ≡ None = gone (get_or xs i None) (ap is_halted (sym (at_halted xs i)) ∙ here) in
    ap (λ (k : ℕ). is_halted (get_or xs k None)) (sym e) ∙ ap is_halted none
free_one xs i j (inr d) h = ap is_halted (sym (get_or-set_other xs i j (emptied (get_or xs i None)) None (λ e. d (sym e)))) ∙ h

pub halt_free : (is : List ℕ) (xs : List (Option Pending)) (j : ℕ) → is_halted (get_or (halt is xs) j None) ≡ false → is_halted (get_or xs j None) ≡ false
halt_free [] xs j h = h
halt_free (i ∷ is) xs j h = free_one xs i j (same_or_not i j) (halt_free is (set xs i (emptied (get_or xs i None))) j h)

one_loses : (b : Controller) (i j : ℕ) (made meant : List Pulse) → MakesMeant b made meant → (i ≡ j) ⊎ (i ≢ j) → is_halted (stepper_at (halt_one i b) j) ≡ false → only j (cut_at i made meant) ≡ only j meant
one_loses b i j made meant w (inl e) h =
    let here : is_halted (stepper_at (halt_one i b) i) ≡ false = subst (λ (k : ℕ). is_halted (stepper_at (halt_one i b) k) ≡ false) (sym e) h in
    let none : get_or b.steppers i None ≡ None = gone (get_or b.steppers i None) (ap is_halted (sym (at_halted b.steppers i)) ∙ here) in
    subst (λ (k : ℕ). only k (cut_at i made meant) ≡ only k meant) e
    (cut_same i made meant ∙ sym (append-nil (only i made)) ∙ ap (λ (o : Option Pending). only i made ++ pending_at i o) (sym none) ∙ w.same i)
one_loses b i j made meant w (inr d) h = cut_other i j made meant d

pub halt_loses : (is : List ℕ) (b : Controller) (made meant : List Pulse) → MakesMeant b made meant → (j : ℕ) → is_halted (get_or (halt is b.steppers) j None) ≡ false → only j (cut_all is made meant) ≡ only j meant
halt_loses [] b made meant w j h = refl
halt_loses (i ∷ is) b made meant w j h =
    halt_loses is (halt_one i b) made (cut_at i made meant) (one_whole b i made meant w) j h
    ∙ one_loses b i j made meant w (same_or_not i j) (halt_free is (set b.steppers i (emptied (get_or b.steppers i None))) j h)
