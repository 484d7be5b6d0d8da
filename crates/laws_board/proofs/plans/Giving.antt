-- What the planner puts for a board is what its sections release.
use Rattle.std.proofs.Common.{◌≡◌, ℕ, zero, suc, false, ◌+◌, ◌<◌, ◌≤◌, List, [], ◌∷◌, ◌++◌, length, map, ap, ◌∙◌, subst, arith, rules}
use Rattle.std.specs.List.{range_with_len}
use Rattle.laws_board.proofs.Names.{Machine, Clocks, BoardSection, Release, Orders, parts_on, Started, MotionTurn, gather, item}
use Rattle.msg_code.specs.declared.unit.Batch.{Batch}
use Rattle.laws_board.specs.sections.Parts.{AreInARow, AreOrdersOf}
use Rattle.motion_work.specs.Boards.{AreSectionsApart}
use Rattle.motion_work.specs.Feeds.{batches_at, units_at}
use Rattle.motion_work.specs.Puts.{ArePut}
use Rattle.motion_work.proofs.Boardwise.{board_units}
use Rattle.laws_board.specs.plans.Given.{EndBefore, TookControls}
use Rattle.laws_board.specs.plans.Planned.{puts_of}

-- the batch of a board
abbrev batch_of : ℕ → List (List (List Release)) → ℕ → Batch
batch_of k sections b = record { turn = k; units = units_at b k sections; end = false }

pub item_at : (f : ℕ → Batch) (i n b : ℕ) → b < n → item b (map f (range_with_len i n)) ≡ f (i + b) ∷ []
item_at f i zero b h = absurd (omega (arith, h))
item_at f i (suc n) zero h = let e : i ≡ i + 0 = omega arith in ap (λ k. f k ∷ []) e
item_at f i (suc n) (suc b) h = let e : i + 1 + b ≡ i + suc b = omega arith in rw e at (item_at f (i + 1) n b (omega (arith, h)))

own_item : (m : Machine) (k b : ℕ) (begun : List Started) → b < length m.boards → item b (batches_at (length m.boards) k (map (λ s. s.boards) begun)) ≡ batch_of k (map (λ s. s.boards) begun) b ∷ []
own_item m k b begun h = search (rules, item, range_with_len, item_at)

pub first_same : (x y : Batch) (xs ys : List Batch) → x ∷ xs ≡ y ∷ ys → (x ≡ y) × (xs ≡ ys)
first_same x y xs ys e = (cc, cc)

-- orders that took these batches have the units of the sections
abbrev pub AreGiven : ℕ → ℕ → List (List (List Release)) → List Orders → Type 0
AreGiven b k sections [] = Unit {0}
AreGiven b k sections (o ∷ os) = (o.batch.units ≡ units_at b k sections) × AreGiven b (k + 1) sections os

pub units_given : (m : Machine) (text : List ℕ) (begun : List Started) (b k : ℕ) (made bare : List MotionTurn) (os : List Orders) (rest : List Batch) → b < length m.boards
    → ArePut m text begun k (puts_of made) → length os ≤ length made → map (λ o. o.batch) os ++ rest ≡ gather (λ t. item b t.batches) (made ++ bare) → AreGiven b k (map (λ s. s.boards) begun) os
units_given m text begun b k made bare [] rest small put long took = tt
units_given m text begun b k [] bare (o ∷ os) rest small put long took = absurd (omega (arith, long))
units_given m text begun b k (t ∷ made) bare (o ∷ os) rest small put long took =
    let own = ap (item b) put.0.batches_are ∙ own_item m k b begun small in
    let others = gather (λ (x : MotionTurn). item b x.batches) (made ++ bare) in
    let same = first_same o.batch (batch_of k (map (λ (s : Started). s.boards) begun) b) (map (λ (x : Orders). x.batch) os ++ rest) others (took ∙ ap (λ x. x ++ others) own) in
    (ap (λ (x : Batch). x.units) same.0, units_given m text begun b (k + 1) made bare os rest small put.1 (omega (arith, long)) same.1)

-- and are those of the sections
given_orders : (m : Machine) (clocks : List Clocks) (begun : List Started) (b k : ℕ) (os : List Orders) → AreGiven b k (map (λ s. s.boards) begun) os → TookControls os → AreOrdersOf (parts_on m clocks begun b) k os
given_orders m clocks begun b k [] g controls = tt
given_orders m clocks begun b k (o ∷ os) g controls = (controls.0, g.0 ∙ board_units m clocks begun b k, given_orders m clocks begun b (k + 1) os g.1 controls.1)

pub given : (m : Machine) (text : List ℕ) (clocks : List Clocks) (begun : List Started) (b k : ℕ) (made bare : List MotionTurn) (os : List Orders) (rest : List Batch) → b < length m.boards
    → ArePut m text begun k (puts_of made) → length os ≤ length made → map (λ o. o.batch) os ++ rest ≡ gather (λ t. item b t.batches) (made ++ bare) → TookControls os
    → AreOrdersOf (parts_on m clocks begun b) k os
given m text clocks begun b k made bare os rest small put long took controls =
    given_orders m clocks begun b k os (units_given m text begun b k made bare os rest small put long took) controls

-- sections that stand apart are in a row
pub in_a_row : (until ready from : ℕ) (ss : List BoardSection) → AreSectionsApart from ss → ready + 260 ≤ from → EndBefore until ss → AreInARow until ready ss
in_a_row until ready from [] a h e = tt
in_a_row until ready from (s ∷ ss) a h e = (omega (arith, h, a.0), a.1, e.0, in_a_row until s.end (s.end + 260) ss a.2 (omega arith) e.1)
