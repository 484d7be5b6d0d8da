-- Where no section was begun a planner sends no units.
use Rattle.std.proofs.Common.{◌≡◌, ◌⊎◌, ℕ, zero, suc, ◌+◌, ◌<◌, List, [], ◌∷◌, ◌++◌, length, map, refl, ap, sym, ◌∙◌, subst, arith, inl, inr, append_assoc, rules}
use Rattle.laws_board.proofs.Names.{Machine, Control, Orders, Started, MotionTurn, gather, item}
use Rattle.msg_code.specs.declared.unit.Batch.{Batch}
use Rattle.motion_work.specs.Puts.{ArePut}
use Rattle.session_work.specs.Bares.{bare_batch}
use Rattle.session_work.specs.Rows.{copies}
use Rattle.laws_board.specs.plans.Given.{TookBatches}
use Rattle.laws_board.specs.plans.Planned.{AreBare, Plans, puts_of}
use Rattle.laws_board.proofs.plans.Giving.{units_given}
use Rattle.laws_run.proofs.clear_runs.Punctual.{NoUnits}

-- batches without units
abbrev AllEmpty : List Batch → Type 0
AllEmpty [] = Unit {0}
AllEmpty (x ∷ xs) = (x.units ≡ []) × AllEmpty xs

empty_both : (xs ys : List Batch) → AllEmpty xs → AllEmpty ys → AllEmpty (xs ++ ys)
empty_both [] ys a b = b
empty_both (x ∷ xs) ys a b = (a.0, empty_both xs ys a.1 b)

item_or : {A : Type 0} (b : ℕ) (xs : List A) → (item b xs ≡ []) ⊎ ((x : A) × (item b xs ≡ x ∷ []))
item_or b [] = inl refl
item_or zero (x ∷ xs) = inr (x, refl)
item_or (suc b) (x ∷ xs) = item_or b xs

made_empty : (m : Machine) (text : List ℕ) (b k : ℕ) (c : Control) (made : List MotionTurn) → b < length m.boards → ArePut m text [] k (puts_of made) → AllEmpty (gather (λ t. item b t.batches) made)
made_empty m text b k c [] low put = tt
made_empty m text b k c (t ∷ made) low put =
    empty_both (item b t.batches) (gather (λ (x : MotionTurn). item b x.batches) made) (elim (item_or b t.batches) [
      | inl e ↦ subst AllEmpty (sym e) tt
      | inr x ↦
          let units = (units_given m text [] b k (t ∷ []) [] (record { control = c; batch = x.0 } ∷ []) [] low (put.0, tt) (omega arith) (ap (λ (z : List Batch). z ++ []) (sym x.1))).0 in
          subst AllEmpty (sym x.1) (units, tt)
    ]) (made_empty m text b (k + 1) c made low put.1)

copies_empty : (n b : ℕ) (x : Batch) → x.units ≡ [] → AllEmpty (item b (copies n x))
copies_empty zero b x e = tt
copies_empty (suc n) zero x e = (e, tt)
copies_empty (suc n) (suc b) x e = copies_empty n b x e

bare_empty : (n b k : ℕ) (bare : List MotionTurn) → AreBare n k bare → AllEmpty (gather (λ t. item b t.batches) bare)
bare_empty n b k [] are = tt
bare_empty n b k (t ∷ bare) are =
    let Empty : List Batch → Type 0 = λ z. AllEmpty (item b z) in
    empty_both (item b t.batches) (gather (λ (x : MotionTurn). item b x.batches) bare) (subst Empty (sym are.0.2) (copies_empty n b (bare_batch k are.0.0) refl)) (bare_empty n b (k + 1) bare are.1)

orders_empty : (os : List Orders) (rest : List Batch) → AllEmpty (map (λ o. o.batch) os ++ rest) → NoUnits os
orders_empty [] rest a = tt
orders_empty (o ∷ os) rest a = (a.0, orders_empty os rest a.1)

pub gather_both : {T A : Type 0} (f : T → List A) (xs ys : List T) → gather f (xs ++ ys) ≡ gather f xs ++ gather f ys
gather_both f [] ys = refl
gather_both f (x ∷ xs) ys = ap (λ z. f x ++ z) (gather_both f xs ys) ∙ sym (append_assoc (f x) (gather f xs) (gather f ys))

pub unbegun : (m : Machine) (ts : List MotionTurn) (p : Plans m (length m.boards) ts) (b : ℕ) (os : List Orders) → b < length m.boards → p.seen.begun ≡ [] → TookBatches b ts os → NoUnits os
unbegun m ts p b os p5 p6 p7 = search (rules, item, gather, gather_both, orders_empty, empty_both, made_empty, bare_empty)
