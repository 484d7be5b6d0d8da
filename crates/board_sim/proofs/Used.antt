-- The places of triggers that are used.
use Rattle.std.proofs.Common.{◌≡◌, ℕ, zero, suc, ◌+◌, ◌-◌, ◌<◌, ◌≤◌, List, [], ◌∷◌, ◌++◌, length, map, max, set, get_or, take, drop, Option, Some, None, refl, ap, sym, ◌∙◌, arith, inl, inr}
use Rattle.std.proofs.lemmas.Bool.Decides.{leb_tells}
use Rattle.std.proofs.lemmas.List.{take-append-drop, map-append, length-set}
use Rattle.std.proofs.Math.Seq.{drop-nil}
use Rattle.board_sim.specs.Rig.{Rig, Slot, no_objects, rested, earliest_moment}
use Rattle.board_sim.specs.RigRuns.{AreRegular}
use Rattle.board_sim.specs.Places.{NoneBehind}
use Rattle.board_sim.proofs.Enough.{none_at}
use Rattle.board_sim.proofs.Parts.{drop_twice}
use Rattle.board_sim.proofs.RigParts.{default_out}

drop_get : (n i : ℕ) (xs : List (Option Slot)) (d : Option Slot) → get_or (drop n xs) i d ≡ get_or xs (n + i) d
drop_get zero i xs d = let e : zero + i ≡ i = omega arith in rw e refl
drop_get (suc n) i [] d = refl
drop_get (suc n) i (x ∷ xs) d = let e : suc n + i ≡ suc (n + i) = omega arith in rw e (drop_get n i xs d)

clash : (s : Slot) → None ≡ Some s → ⊥
clash s e = cc

-- where a trigger stands, the place is used
used_at : (used i : ℕ) (xs : List (Option Slot)) (s : Slot) → NoneBehind used xs → get_or xs i None ≡ Some s → i < used
used_at used i xs s u is =
    elim (leb_tells (suc i) used) [
      | inl p ↦ omega (arith, p.1)
      | inr p ↦
          let k = i - used in
          let here : used + k ≡ i = omega (arith, p.1) in
          let none : get_or xs (used + k) None ≡ None = sym (drop_get used k xs None) ∙ ap (λ (ys : List (Option Slot)). get_or ys k None) u.rest ∙ none_at (256 - used) k in
          let none_here : get_or xs i None ≡ None = rw here at none in
          absurd (clash s (sym none_here ∙ is))
    ]

drop_set_past : (n i : ℕ) (xs : List (Option Slot)) (v : Option Slot) → i < n → drop n (set xs i v) ≡ drop n xs
drop_set_past n i [] v h = refl
drop_set_past zero i (x ∷ xs) v h = absurd (omega (arith, h))
drop_set_past (suc n) zero (x ∷ xs) v h = refl
drop_set_past (suc n) (suc i) (x ∷ xs) v h = drop_set_past n i xs v (omega (arith, h))

-- a trigger is changed where one stands
pub changed_slots : (used i : ℕ) (xs : List (Option Slot)) (o : Option Slot) (s : Slot) (v : Option Slot) → NoneBehind used xs → length xs ≡ 256 → i < 256 → o ≡ get_or xs i o → o ≡ Some s → NoneBehind used (set xs i v)
changed_slots used i xs o s v u all h at is =
    let here : get_or xs i None ≡ Some s = default_out xs i None o (omega (arith, all, h)) ∙ sym at ∙ is in
    record { within = u.within; rest = drop_set_past used i xs v (used_at used i xs s u here) ∙ u.rest }

set_same : (xs : List (Option Slot)) (i : ℕ) (o : Option Slot) → set xs i (get_or xs i o) ≡ xs
set_same [] i o = refl
set_same (x ∷ xs) zero o = refl
set_same (x ∷ xs) (suc i) o = ap (λ ys. x ∷ ys) (set_same xs i o)

-- a place is written as it is
pub same_slots : (used i : ℕ) (xs : List (Option Slot)) (o : Option Slot) → NoneBehind used xs → o ≡ get_or xs i o → NoneBehind used (set xs i o)
same_slots used i xs o u at = let e : set xs i o ≡ xs = ap (λ v. set xs i v) at ∙ set_same xs i o in rw e u

abbrev Kept : ℕ → List (Option Slot) → List (Option ℕ) → Type 0
Kept used xs es = (length xs ≡ 256) × (length es ≡ 256) × NoneBehind used xs

pub changed_all : (used i : ℕ) (xs : List (Option Slot)) (es : List (Option ℕ)) (o : Option Slot) (s : Slot) (v : Option Slot) → Kept used xs es → i < 256 → o ≡ get_or xs i o → o ≡ Some s → Kept used (set xs i v) es
changed_all used i xs es o s v k h at is = (length-set xs i v ∙ k.0, k.1, changed_slots used i xs o s v k.2 k.0 h at is)

pub same_all : (used i : ℕ) (xs : List (Option Slot)) (es : List (Option ℕ)) (o : Option Slot) → Kept used xs es → o ≡ get_or xs i o → Kept used (set xs i o) es
same_all used i xs es o k at = (length-set xs i o ∙ k.0, k.1, same_slots used i xs o k.2 at)

drop_objects : (n k : ℕ) → drop k (no_objects {A = Slot} n) ≡ no_objects (n - k)
drop_objects zero k = let e : zero - k ≡ zero = omega arith in rw e (drop-nil k)
drop_objects (suc n) zero = let e : suc n - zero ≡ suc n = omega arith in rw e refl
drop_objects (suc n) (suc k) = let e : suc n - suc k ≡ n - k = omega arith in rw e (drop_objects n k)

more_slots : (used k : ℕ) (xs : List (Option Slot)) → NoneBehind used xs → used + k ≤ 256 → NoneBehind (used + k) xs
more_slots used k xs u h =
    let e : 256 - used - k ≡ 256 - (used + k) = omega arith in
    record { within = h; rest = sym (drop_twice used k xs) ∙ ap (λ ys. drop k ys) u.rest ∙ drop_objects (256 - used) k ∙ ap (λ n. no_objects {A = Slot} n) e }

-- a trigger is made
pub made_slots : (used i : ℕ) (xs : List (Option Slot)) (v : Option Slot) → NoneBehind used xs → i < 256 → NoneBehind (max used (i + 1)) (set xs i v)
made_slots used i xs v u h =
    let m = max used (i + 1) in
    let e : used + (m - used) ≡ m = omega arith in
    let more : NoneBehind m xs = rw e at (more_slots used (m - used) xs u (omega (arith, h, u.within))) in
    record { within = more.within; rest = drop_set_past m i xs v (omega arith) ∙ more.rest }

pub made_all : (used i : ℕ) (xs : List (Option Slot)) (es : List (Option ℕ)) (v : Option Slot) → Kept used xs es → i < 256 → Kept (max used (i + 1)) (set xs i v) es
made_all used i xs es v k h = (length-set xs i v ∙ k.0, k.1, made_slots used i xs v k.2 h)

pub none_used : NoneBehind 0 (no_objects 256)
none_used = record { within = omega arith; rest = refl }

-- all readings are done, where those of the triggers that are used are
map_objects : (f : Option Slot → Option Slot) (n : ℕ) → f None ≡ None → map f (no_objects n) ≡ no_objects n
map_objects f zero e = refl
map_objects f (suc n) e = rw e (ap (λ ys. None ∷ ys) (map_objects f n e))

pub whole_slots : (f : Option Slot → Option Slot) (used : ℕ) (xs : List (Option Slot)) → f None ≡ None → NoneBehind used xs → map f (take used xs) ++ drop used xs ≡ map f xs
whole_slots f used xs e u =
    ap (λ ys. map f (take used xs) ++ ys) (u.rest ∙ sym (map_objects f (256 - used) e) ∙ ap (λ ys. map f ys) (sym u.rest))
    ∙ sym (map-append f (take used xs) (drop used xs)) ∙ ap (λ ys. map f ys) (take-append-drop used xs)

drop_map : (f : Option Slot → Option Slot) (n : ℕ) (xs : List (Option Slot)) → drop n (map f xs) ≡ map f (drop n xs)
drop_map f zero xs = refl
drop_map f (suc n) [] = refl
drop_map f (suc n) (x ∷ xs) = drop_map f n xs

pub rested_slots : (f : Option Slot → Option Slot) (used : ℕ) (xs : List (Option Slot)) → f None ≡ None → NoneBehind used xs → NoneBehind used (map f xs)
rested_slots f used xs e u = record { within = u.within; rest = drop_map f used xs ∙ ap (λ ys. map f ys) u.rest ∙ map_objects f (256 - used) e }

-- nothing happens behind them
earliest_none : (n : ℕ) (r : Rig) (until oid : ℕ) → earliest_moment r until oid (no_objects n) ≡ None
earliest_none zero r until oid = refl
earliest_none (suc n) r until oid = earliest_none n r until (oid + 1)

pub none_earliest : (used : ℕ) (xs : List (Option Slot)) (r : Rig) (until : ℕ) → NoneBehind used xs → None ≡ earliest_moment r until used (drop used xs)
none_earliest used xs r until u = sym (ap (λ ys. earliest_moment r until used ys) u.rest ∙ earliest_none (256 - used) r until used)

none_regular : (n : ℕ) → AreRegular (no_objects n)
none_regular zero = tt
none_regular (suc n) = (tt, none_regular n)

pub rest_regular : (used : ℕ) (xs : List (Option Slot)) → NoneBehind used xs → AreRegular (drop used xs)
rest_regular used xs u = rw u.rest (none_regular (256 - used))
