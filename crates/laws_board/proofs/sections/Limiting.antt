-- The units of a turn keep their limit.
use Rattle.std.proofs.Common.{◌≡◌, ◌⊎◌, ℕ, suc, ◌+◌, ◌<◌, ◌≤◌, List, [], ◌∷◌, ◌++◌, All, length, map, refl, ap, ◌∙◌, subst, arith, inl, inr, append-nil, length-append, rules}
use Rattle.laws_board.proofs.Names.{flat_map, eqb_tells, leb_tells, All-cons, All-head, All-nil, All-tail, Clocks, units_orders, StepUnit, Release, batch_at, AreBefore, BoardSection}
use Rattle.std.specs.Prelude.{if◌then◌else◌}
use Rattle.msg_code.specs.Units.{unit_text}
use Rattle.board_world.specs.World.{on_wire}
use Rattle.step_feed.specs.Units.{unit_bytes}
use Rattle.step_feed.specs.Pacing as pacing
use Rattle.step_feed.specs.Pacing.{ArePaced}
use Rattle.step_feed.proofs.Sent.{sent}
use Rattle.link_work.specs.Limits.{bytes_in}
use Rattle.link_work.proofs.Limits.{units_bytes}
use Rattle.section_units.specs.Sections.{IsSection}
use Rattle.laws_board.specs.sections.Events.{AreTicks}
use Rattle.laws_board.specs.sections.Parts.{AreInARow, AreTracked}
use Rattle.laws_board.specs.sections.Runs.{AreSpilled}
use Rattle.laws_board.proofs.sections.Released.{released_by}
use Rattle.laws_board.proofs.sections.Releasing.{from_down, none_at, paced_from}

-- the bytes of some units
abbrev pub sum_of : List StepUnit → ℕ
sum_of [] = 0
sum_of (u ∷ us) = unit_bytes u + sum_of us

pub text_sum : (us : List StepUnit) → length (flat_map unit_text us) ≡ sum_of us
text_sum [] = refl
text_sum (u ∷ us) = omega (arith, length-append (unit_text u) (flat_map unit_text us), sent u, text_sum us)

-- those that are released in a turn, behind others
pub paced_few : (clocks : Clocks) (slots from k : ℕ) (before rs : List Release) → ArePaced clocks slots from before rs → pacing.bytes_in k before ≤ 210 → pacing.bytes_in k before + sum_of (batch_at k rs) ≤ 210
paced_few clocks slots from k before [] p few = omega (arith, few)
paced_few clocks slots from k before (r ∷ rs) p few = elim (eqb_tells r.turn k) [
  | inl e ↦
      let At : ℕ → Type 0 = λ n. pacing.bytes_in n before + unit_bytes r.unit ≤ 210 in
      let room = subst At e.1 p.0.room.bytes in
      let own : pacing.bytes_in k (r ∷ before) ≡ unit_bytes r.unit + pacing.bytes_in k before = ap (λ b. (if b then unit_bytes r.unit else 0) + pacing.bytes_in k before) e.0 in
      let rest = paced_few clocks slots r.turn k (r ∷ before) rs p.1 (omega (arith, own, room)) in
      let here : batch_at k (r ∷ rs) ≡ r.unit ∷ batch_at k rs = ap (λ b. if b then r.unit ∷ batch_at k rs else batch_at k rs) e.0 in
      omega (arith, rest, own, ap sum_of here)
  | inr e ↦
      let own : pacing.bytes_in k (r ∷ before) ≡ 0 + pacing.bytes_in k before = ap (λ b. (if b then unit_bytes r.unit else 0) + pacing.bytes_in k before) e.0 in
      let rest = paced_few clocks slots r.turn k (r ∷ before) rs p.1 (omega (arith, own, few)) in
      let here : batch_at k (r ∷ rs) ≡ batch_at k rs = ap (λ b. if b then r.unit ∷ batch_at k rs else batch_at k rs) e.0 in
      omega (arith, rest, own, ap sum_of here)
]

-- a section gives units in a turn, or none
pub gives : (k : ℕ) (n : ℕ) (rs : List Release) → AreBefore n rs → (batch_at k rs ≡ []) ⊎ (k < n)
gives k n [] b = inl refl
gives k n (r ∷ rs) b = elim (eqb_tells r.turn k) [
  | inl e ↦ inr (omega (arith, e.1, b.0))
  | inr e ↦ elim (gives k n rs b.1) [ inl f ↦ inl (ap (λ t. if t then r.unit ∷ batch_at k rs else batch_at k rs) e.0 ∙ f) | inr l ↦ inr l ]
]

none_later : (clocks : Clocks) (freq slots until e k : ℕ) (ss : List BoardSection) → All (IsSection clocks freq slots) ss → AreInARow until e ss → k ≤ e → flat_map (λ s. batch_at k s.releases) ss ≡ []
none_later clocks freq slots until e k [] i row late = refl
none_later clocks freq slots until e k (s ∷ ss) i row late =
    let first = All-head (IsSection clocks freq slots) s ss i in
    let from = paced_from clocks slots first.from [] s.releases first.paced in
    let none = none_at k s.releases (from_down (k + 1) first.from s.releases (omega (arith, row.0, late, first.exact)) from) in
    ap (λ z. z ++ flat_map (λ (x : BoardSection). batch_at k x.releases) ss) none
    ∙ none_later clocks freq slots until s.end k ss (All-tail (IsSection clocks freq slots) s ss i) row.3 (omega (arith, late, row.0, row.1))

-- a section that is over gives none in a turn
over_or_on : (k end : ℕ) (rs : List Release) → (end < k → AreBefore k rs) → (batch_at k rs ≡ []) ⊎ (k ≤ end)
over_or_on k end rs b = search (rules, leb_tells, gives)

-- where none is released behind its due turn, no two sections give units in one turn
units_few : (clocks : Clocks) (freq slots until e k : ℕ) (ss : List BoardSection) → All (IsSection clocks freq slots) ss → AreInARow until e ss → All (λ s. s.end < k → AreBefore k s.releases) ss
    → sum_of (flat_map (λ s. batch_at k s.releases) ss) ≤ 210
units_few clocks freq slots until e k [] i row b = omega arith
units_few clocks freq slots until e k (s ∷ ss) i row b =
    let P : BoardSection → Type 0 = λ x. IsSection clocks freq slots x in
    let B : BoardSection → Type 0 = λ x. x.end < k → AreBefore k x.releases in
    let more = flat_map (λ (x : BoardSection). batch_at k x.releases) ss in
    elim (over_or_on k s.end s.releases (All-head B s ss b)) [
      | inl none ↦
          let rest = units_few clocks freq slots until s.end k ss (All-tail P s ss i) row.3 (All-tail B s ss b) in
          omega (arith, rest, ap (λ z. sum_of (z ++ more)) none)
      | inr now ↦
          let first = All-head P s ss i in
          let none = none_later clocks freq slots until s.end k ss (All-tail P s ss i) row.3 (omega (arith, now)) in
          let few = paced_few clocks slots first.from k [] s.releases first.paced (omega arith) in
          omega (arith, few, ap sum_of (ap (λ z. batch_at k s.releases ++ z) none ∙ append-nil (batch_at k s.releases)))
    ]

-- all units of a section that is over are released
each_before : (own : ℕ → ℕ) (clocks : Clocks) (freq slots ready e turns k : ℕ) (ss : List BoardSection) → AreTicks own → (tracked : AreTracked own clocks ready) → ready ≤ e → All (IsSection clocks freq slots) ss → AreInARow tracked.until e ss
    → AreSpilled turns 0 ss → k < turns → All (λ s. s.end < k → AreBefore k s.releases) ss
each_before own clocks freq slots ready e turns k [] ticks tracked low i row s within = All-nil (λ (x : BoardSection). x.end < k → AreBefore k x.releases)
each_before own clocks freq slots ready e turns k (x ∷ ss) ticks tracked low i row s within =
    let P : BoardSection → Type 0 = λ y. IsSection clocks freq slots y in
    let By : BoardSection → Type 0 = λ y. y.end + 0 < k in
    let one = λ (over : x.end < k). (released_by own clocks freq slots ready e 0 turns k (x ∷ []) ticks tracked low (All-cons P x [] (All-head P x ss i) (All-nil P)) (row.0, row.1, row.2, tt) (s.0, tt) (omega (arith, within)) (All-cons By x [] (omega (arith, over)) (All-nil By))).0 in
    All-cons (λ (y : BoardSection). y.end < k → AreBefore k y.releases) x ss one
    (each_before own clocks freq slots ready x.end turns k ss ticks tracked (omega (arith, low, row.0, row.1)) (All-tail P x ss i) row.3 s.1 within)

pub units_fit : (own : ℕ → ℕ) (clocks : Clocks) (freq slots ready turns : ℕ) (ss : List BoardSection) (k : ℕ) → AreTicks own → (tracked : AreTracked own clocks ready) → All (IsSection clocks freq slots) ss → AreInARow tracked.until ready ss → AreSpilled turns 0 ss → k < turns
    → bytes_in (map on_wire (units_orders (flat_map (λ s. batch_at k s.releases) ss))) ≤ 210
units_fit own clocks freq slots ready turns ss k ticks tracked i row s within =
    let us = flat_map (λ (x : BoardSection). batch_at k x.releases) ss in
    let few = units_few clocks freq slots tracked.until ready k ss i row (each_before own clocks freq slots ready ready turns k ss ticks tracked (omega arith) i row s within) in
    omega (arith, few, units_bytes us, text_sum us)
