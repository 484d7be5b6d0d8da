-- Units that are late come one by one: before one that is far behind its due turn, one is just so far behind.
use Rattle.std.proofs.Common.{◌≡◌, ℕ, ◌+◌, ◌*◌, ◌<◌, ◌≤◌, eqb, cond, List, [], ◌∷◌, ◌++◌, All, get_or, max, refl, sym, ◌∙◌, subst, arith, inl, inr}
use Rattle.std.proofs.lemmas.Bool.{cases_lt, le-ltb, ne_eqb}
use Rattle.std.proofs.lemmas.Bool.Decides.{eqb_tells}
use Rattle.std.proofs.lemmas.List.Elements.{All-cons, All-head, All-nil, All-tail}
use Rattle.clock_line.specs.Kept.{AreKept}
use Rattle.clock_line.proofs.Turns.{turn-mono}
use Rattle.plan_types.specs.Lines.{Clocks, lines_turn}
use Rattle.step_feed.specs.Pacing.{ArePaced, IsReleased, Release, bytes_in, pending, units_of}
use Rattle.step_feed.specs.Units.{StepUnit}
use Rattle.plan_types.specs.Clock.{turn_ns}
use Rattle.plan_types.specs.Lines.{lines_tick}
use Rattle.clock_line.proofs.Turns.{tick_over-mono, turn-after}
use Rattle.section_units.specs.Late.{LateOneByOne}
use Rattle.section_units.specs.Merged.{AreBehind, AreInOrder}
use Rattle.section_units.specs.Sections.{AreBegun, AreChained, BoardSection, IsSection, base_of, of_stepper}
use Rattle.section_units.specs.Sent.{AreSentTo}
use Rattle.section_units.proofs.Fronting.{of_front, paced_front}
use Rattle.section_units.proofs.Merging.{of_one, of_other}
use Rattle.section_units.proofs.Ordering.{spans, starts}

-- in a turn behind all of some releases they use no bytes
no_bytes : (k : ℕ) (rs : List Release) → All (λ (q : Release). q.turn < k) rs → bytes_in k rs ≡ 0
no_bytes k [] all = refl
no_bytes k (r ∷ rs) all =
    let P : Release → Type 0 = λ q. q.turn < k in
    let low = All-head P r rs all in
    let e = ne_eqb r.turn k (λ same. absurd (omega (arith, same, low))) in
    let rest = no_bytes k rs (All-tail P r rs all) in
    rw e (omega (arith, rest))

-- and where the steps of those of a stepper are over, none is pending
none_pending : (clocks : Clocks) (s k : ℕ) (rs : List Release) → All (λ (q : Release). q.unit.stepper ≡ s → lines_turn clocks q.unit.last + 5 ≤ k) rs → pending clocks s k rs ≡ 0
none_pending clocks s k [] all = refl
none_pending clocks s k (r ∷ rs) all =
    let P : Release → Type 0 = λ q. q.unit.stepper ≡ s → lines_turn clocks q.unit.last + 5 ≤ k in
    let rest = none_pending clocks s k rs (All-tail P r rs all) in
    elim (eqb_tells r.unit.stepper s) [
      | inl p ↦
          let over = le-ltb k (lines_turn clocks r.unit.last + 5) (All-head P r rs all p.1) in
          rw (p.0, over) (omega (arith, rest))
      | inr p ↦ rw p.0 (omega (arith, rest))
    ]

-- a unit is released in the turn behind that of the one before it, or five behind its due one, at the latest
pub soon_after : (clocks : Clocks) (slots from : ℕ) (before : List Release) (r : Release) → 1 ≤ slots → IsReleased clocks slots from before r → All (λ (q : Release). q.turn ≤ from) before
    → All (λ (q : Release). q.unit.stepper ≡ r.unit.stepper → lines_turn clocks q.unit.last ≤ r.unit.due) before → r.turn ≤ max (from + 1) (r.unit.due + 5)
soon_after clocks slots from before r some is past over =
    let k = max (from + 1) (r.unit.due + 5) in
    let none = no_bytes k before (λ i d l. (let a = past i d l in omega (arith, a))) in
    let made = none_pending clocks r.unit.stepper k before (λ i d l same. (let a = over i d l same in omega (arith, a))) in
    let fits = is.room.bytes in
    is.first k (omega arith) (record { due = omega arith; bytes = omega (arith, none, fits); steps = omega (arith, made, some) })

-- units of one stepper, one behind the other
Row : Clocks → ℕ → List StepUnit → Type 0
Row clocks x [] = Unit {0}
Row clocks x (u ∷ us) = (x < u.first) × (u.first ≤ u.last) × (u.due ≡ lines_turn clocks u.first) × Row clocks u.last us

chain_row : (clocks : Clocks) (x : ℕ) (us : List StepUnit) → AreChained clocks x us → Row clocks x us
unfolding Row
chain_row clocks x [] h = tt
chain_row clocks x (u ∷ us) h = (starts clocks x u h.1, spans clocks x u h.1, h.1.due, chain_row clocks u.last us h.2)

begun_row : (clocks : Clocks) (base : ℕ) (us : List StepUnit) → AreBegun clocks base us → Row clocks base us
unfolding Row
begun_row clocks base [] h = tt
begun_row clocks base (u ∷ us) h = (starts clocks base u h.2, spans clocks base u h.2, h.2.due, chain_row clocks u.last us h.3)

row_front : (clocks : Clocks) (x : ℕ) (us vs : List StepUnit) → Row clocks x (us ++ vs) → Row clocks x us
unfolding Row
row_front clocks x [] vs h = tt
row_front clocks x (u ∷ us) vs h = (h.0, h.1, h.2, row_front clocks u.last us vs h.3)

-- their first ticks rise, from one on
Rise : ℕ → List StepUnit → Type 0
Rise low [] = Unit {0}
Rise low (u ∷ us) = (low ≤ u.first) × Rise u.first us

order_rise : (low : ℕ) (us : List StepUnit) → ((u : StepUnit) (rest : List StepUnit) → us ≡ u ∷ rest → low ≤ u.first) → AreInOrder us → Rise low us
unfolding Rise
order_rise low [] first h = tt
order_rise low (u ∷ us) first h = (first u us refl, order_rise u.first us (next us h.0) h.1)
  where
    next : (vs : List StepUnit) → AreBehind u vs → (v : StepUnit) (rest : List StepUnit) → vs ≡ v ∷ rest → u.first ≤ v.first
    next [] b v rest e = absurd (clash e)
      where
        clash : [] ≡ v ∷ rest → ⊥
        clash p = cc
    next (x ∷ xs) b v rest e =
        let same : x ≡ v = cc in
        subst (λ (y : StepUnit). u.first ≤ y.first) same (elim b.0 [ inl less ↦ omega (arith, less) | inr q ↦ (let eq = q.0 in omega (arith, eq)) ])

-- the last tick of each stepper behind one more unit
lasts : (ℕ → ℕ) → StepUnit → ℕ → ℕ
lasts at u oid = cond (eqb u.stepper oid) u.last (at oid)

one_by_one : (clocks : Clocks) (slots : ℕ) → 1 ≤ slots → AreKept clocks → (from low : ℕ) (at : ℕ → ℕ) (before rs : List Release) → ArePaced clocks slots from before rs → All (λ (q : Release). q.turn ≤ from) before → ((oid : ℕ) → Row clocks (at oid) (of_stepper oid (units_of rs)))
    → ((oid : ℕ) → All (λ (q : Release). q.unit.stepper ≡ oid → q.unit.last ≤ at oid) before) → Rise low (units_of rs) → from ≤ lines_turn clocks low + 4 → LateOneByOne rs
unfolding Row Rise lasts
one_by_one clocks slots some kept from low at before [] paced past rows ends rise near = tt
one_by_one clocks slots some kept from low at before (r ∷ rs) paced past rows ends rise near =
    let u = r.unit in
    let oid = u.stepper in
    let row : Row clocks (at oid) (u ∷ of_stepper oid (units_of rs)) = subst (Row clocks (at oid)) (of_one oid u (units_of rs) refl) (rows oid) in
    let first = row.0 in
    let span = row.1 in
    let due = row.2 in
    let over : All (λ (q : Release). q.unit.stepper ≡ oid → lines_turn clocks q.unit.last ≤ u.due) before = λ i d l same. (
    let last = ends oid i d l same in
    let up = turn-mono clocks (get_or before i d).unit.last u.first kept (omega (arith, last, first)) in
    omega (arith, up, due)) in
    let here = soon_after clocks slots from before r some paced.0 past over in
    let up = turn-mono clocks low u.first kept rise.0 in
    let after = paced.0.after in
    let next : (o : ℕ) → Row clocks (lasts at u o) (of_stepper o (units_of rs)) = λ o. elim (eqb_tells oid o) [
      | inl p ↦ rw p.0 (subst (λ k. Row clocks u.last (of_stepper k (units_of rs))) p.1 row.3)
      | inr p ↦ rw p.0 (subst (Row clocks (at o)) (of_other o u (units_of rs) p.1) (rows o))
    ] in
    let Last : ℕ → Release → Type 0 = λ o q. q.unit.stepper ≡ o → q.unit.last ≤ lasts at u o in
    let ended : (o : ℕ) → All (Last o) (r ∷ before) = λ o. elim (eqb_tells oid o) as (λ _. All (Last o) (r ∷ before)) [
      | inl p ↦ All-cons (Last o) r before (λ e. rw p.0 (omega arith)) (λ i d l e. rw p.0 (let last = ends oid i d l (e ∙ sym p.1) in omega (arith, last, first, span)))
      | inr p ↦ All-cons (Last o) r before (λ e. absurd (p.1 e)) (λ i d l e. rw p.0 (ends o i d l e))
    ] in
    (omega (arith, here, near, up, due), λ early. one_by_one clocks slots some kept r.turn u.first (lasts at u) (r ∷ before) rs paced.1 (All-cons (λ (q : Release). q.turn ≤ r.turn) r before (omega arith) (λ i d l. (let a = past i d l in omega (arith, a, after)))) next ended rise.1 (omega (arith, early, due)))

-- a tick from a turn on is in it or a later one
pub turn_from : (clocks : Clocks) (turn t : ℕ) → AreKept clocks → lines_tick clocks (turn * turn_ns) ≤ t → turn ≤ lines_turn clocks t
turn_from clocks turn t kept h = elim (cases_lt (lines_turn clocks t) turn) as (λ _. turn ≤ lines_turn clocks t) [
  | inl less ↦ (
      let after = turn-after clocks t (lines_turn clocks t) kept (omega arith) in
      let up = tick_over-mono clocks.first 0 clocks.held ((lines_turn clocks t + 1) * turn_ns) (turn * turn_ns) (omega arith) in
      absurd (omega arith))
  | inr over ↦ over
]

pub late_one_by_one : (clocks : Clocks) (freq slots turn : ℕ) (s : BoardSection) → AreKept clocks → 1 ≤ slots → IsSection clocks freq slots s → (h : AreSentTo clocks freq turn s) → LateOneByOne h.sent
unfolding Row
late_one_by_one clocks freq slots turn s kept some i h =
    let base = base_of clocks s in
    let Paced : List Release → Type 0 = λ rs. ArePaced clocks slots i.from [] rs in
    let Begun : List Release → ℕ → Type 0 = λ rs oid. AreBegun clocks base (of_stepper oid (units_of rs)) in
    let rows : (oid : ℕ) → Row clocks base (of_stepper oid (units_of h.sent)) = λ oid.
    row_front clocks base (of_stepper oid (units_of h.sent)) (of_stepper oid (units_of h.later)) (subst (Row clocks base) (of_front oid h.sent h.later) (begun_row clocks base (of_stepper oid (units_of (h.sent ++ h.later))) (subst (λ rs. Begun rs oid) h.are (i.begun oid)))) in
    let first : (u : StepUnit) (rest : List StepUnit) → units_of h.sent ≡ u ∷ rest → base ≤ u.first = λ u rest e.
    (let row : Row clocks base (u ∷ of_stepper u.stepper rest) = subst (Row clocks base) (of_one u.stepper u rest refl) (subst (λ us. Row clocks base (of_stepper u.stepper us)) e (rows u.stepper)) in
    let low = row.0 in omega (arith, low)) in
    let exact = i.exact in
    let late = turn_from clocks s.start base kept (omega arith) in
    one_by_one clocks slots some kept i.from base (λ oid. base) [] h.sent (paced_front clocks slots i.from [] h.sent h.later (subst Paced h.are i.paced)) (All-nil (λ (q : Release). q.turn ≤ i.from)) rows
    (λ oid. All-nil (λ (q : Release). q.unit.stepper ≡ oid → q.unit.last ≤ base)) (order_rise base (units_of h.sent) first h.is.in_order) (omega (arith, exact, late))
