-- In a run in which axes home, few units are queued in each turn up to that of the first that comes too late.
use Rattle.std.proofs.Common.{◌≡◌, ℕ, ◌+◌, ◌≤◌, Bool, true, false, List, [], ◌∷◌, ◌++◌, All, length, Option, refl, ap, sym, ◌∙◌, subst, arith, inl, inr, append-nil}
use Rattle.laws_board.proofs.Names.{flat_map, eqb_tells, leb_tells, All-head, All-tail, Clocks, StepUnit, Release, batch_at, Orders, AreBefore, BoardSection}
use Rattle.step_feed.specs.Pacing.{ArePaced}
use Rattle.laws_board.specs.sections.Homes.{AreInTurn, AreOrdersIn, AreReleasedIn, AreSoon, AreSoonBy, IsHomeRun, IsSectionBy, RunSection}
use Rattle.laws_board.proofs.sections.Latest.{AreFew}
use Rattle.laws_board.proofs.sections.Limiting.{paced_few, sum_of}
use Rattle.laws_board.proofs.sections.Releasing.{from_down, none_at, paced_from}

-- how a section of a run is paced
record IsPacedIn (clocks : Clocks) (slots : ℕ) (s : BoardSection) : Type 0 where
  from : ℕ
  exact : from + 250 ≡ s.start
  paced : ArePaced clocks slots from [] s.releases

paced_by : (homes : Bool) (clocks : Clocks) (freq slots until : ℕ) (stops : ℕ → Option ℕ) (s : BoardSection) → IsSectionBy homes clocks freq slots until stops s → IsPacedIn clocks slots s
paced_by true clocks freq slots until stops s h = record { from = h.from; exact = h.exact; paced = h.paced }
paced_by false clocks freq slots until stops s h = record { from = h.is.from; exact = h.is.exact; paced = h.is.paced }

-- of a section that is over nothing is released
pub past_empty : (by end k : ℕ) (rs : List Release) → AreSoonBy by end rs → k ≤ by → end + 6 ≤ k → batch_at k rs ≡ []
past_empty by end k [] a l h = refl
past_empty by end k (r ∷ rs) a l h = elim (eqb_tells r.turn k) [
  | inl p ↦ absurd (omega (arith, p.1, a.0 (omega (arith, p.1, l)), h))
  | inr p ↦ rw p.0 (past_empty by end k rs a.1 l h)
]

-- where all units of moves are released by four turns behind the ends of their sections
before_soon : (until n end : ℕ) (rs : List Release) → n ≤ end + 5 → AreBefore n rs → AreSoonBy until end rs
before_soon until n end [] h b = tt
before_soon until n end (r ∷ rs) h b = (λ _. omega (arith, b.0, h), before_soon until n end rs h b.1)

pub released_by : (clocks : Clocks) (freq slots last until : ℕ) (stops : ℕ → Option ℕ) (homes : Bool) (s : BoardSection) → IsSectionBy homes clocks freq slots last stops s → (homes ≡ false → AreBefore (s.end + 5) s.releases) → AreSoonBy until s.end s.releases
released_by clocks freq slots last until stops true s i w = before_soon until s.end s.end s.releases (omega arith) i.released
released_by clocks freq slots last until stops false s i w = before_soon until (s.end + 5) s.end s.releases (omega arith) (w refl)

pub released_soon : (clocks : Clocks) (freq slots until n : ℕ) (stops : ℕ → Option ℕ) (ss : List RunSection) → All (λ s. IsSectionBy s.homes clocks freq slots until stops s.section) ss → AreReleasedIn ss → AreSoon n ss
released_soon clocks freq slots until n stops [] i w = tt
released_soon clocks freq slots until n stops (s ∷ ss) i w =
    let P : RunSection → Type 0 = λ x. IsSectionBy x.homes clocks freq slots until stops x.section in
    (released_by clocks freq slots until n stops s.homes s.section (All-head P s ss i) w.0, released_soon clocks freq slots until n stops ss (All-tail P s ss i) w.1)

module _ (clocks : Clocks) (freq slots until by k : ℕ) (low : k ≤ by) (stops : ℕ → Option ℕ) where
  abbrev Is : RunSection → Type 0
  Is s = IsSectionBy s.homes clocks freq slots until stops s.section

  abbrev Units : List RunSection → List StepUnit
  Units ss = flat_map (λ (s : RunSection). batch_at k s.section.releases) ss

  none_later : (e : ℕ) (ss : List RunSection) → All Is ss → AreInTurn e ss → k ≤ e + 5 → Units ss ≡ []
  none_later e [] i row late = refl
  none_later e (s ∷ ss) i row late =
      let first = paced_by s.homes clocks freq slots until stops s.section (All-head Is s ss i) in
      let far = row.0 in
      let order = row.1 in
      let soon = first.exact in
      let from = paced_from clocks slots first.from [] s.section.releases first.paced in
      let none = none_at k s.section.releases (from_down (k + 1) first.from s.section.releases (omega (arith, far, late, soon)) from) in
      ap (λ z. z ++ Units ss) none ∙ none_later s.section.end ss (All-tail Is s ss i) row.2 (omega (arith, late, far, order))

  units_few : (e : ℕ) (ss : List RunSection) → All Is ss → AreInTurn e ss → AreSoon by ss → sum_of (Units ss) ≤ 210
  units_few e [] i row w = omega arith
  units_few e (s ∷ ss) i row w =
      let first = paced_by s.homes clocks freq slots until stops s.section (All-head Is s ss i) in
      let own = batch_at k s.section.releases in
      elim (leb_tells (s.section.end + 6) k) [
        | inl p ↦
            let none = past_empty by s.section.end k s.section.releases w.0 low p.1 in
            let rest = units_few s.section.end ss (All-tail Is s ss i) row.2 w.1 in
            omega (arith, rest, ap (λ z. sum_of (z ++ Units ss)) none)
        | inr p ↦
            let none = none_later s.section.end ss (All-tail Is s ss i) row.2 (omega (arith, p.1)) in
            let few = paced_few clocks slots first.from k [] s.section.releases first.paced (omega arith) in
            omega (arith, few, ap sum_of (ap (λ z. own ++ z) none ∙ append-nil own))
      ]

-- so in some turns
few_in : (clocks : Clocks) (ss : List RunSection) (by k : ℕ) (os rest : List Orders) → ((j : ℕ) → j ≤ by → sum_of (flat_map (λ s. batch_at j s.section.releases) ss) ≤ 210) → k + length os ≤ by + 1
    → AreOrdersIn clocks ss k (os ++ rest) → AreFew os
few_in clocks ss by k [] rest f low a = tt
few_in clocks ss by k (o ∷ os) rest f low a =
    let Few : List StepUnit → Type 0 = λ us. sum_of us ≤ 210 in
    (subst Few (sym a.1) (f k (omega (arith, low))), few_in clocks ss by (k + 1) os rest f (omega (arith, low)) a.2)

pub home_few : (own : ℕ → ℕ) (clocks : Clocks) (freq slots ready by : ℕ) (stops : ℕ → Option ℕ) (ss : List RunSection) (os rest : List Orders) → IsHomeRun own clocks freq slots ready stops ss (os ++ rest) → AreSoon by ss → length os ≤ by + 1
    → AreFew os
home_few own clocks freq slots ready by stops ss os rest h w low = few_in clocks ss by 0 os rest (λ k l. units_few clocks freq slots h.tracked.until by k l stops ready ss h.sections h.row w) (omega (arith, low)) h.orders
