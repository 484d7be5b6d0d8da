-- The releases of a section, turn by turn.
use Rattle.std.proofs.Common.{◌≡◌, ◌≢◌, ℕ, ◌+◌, ◌<◌, ◌≤◌, ◌⊎◌, List, [], ◌∷◌, refl, ap, sym, ◌∙◌, subst, arith, inl, inr, rules}
use Rattle.laws_board.proofs.Names.{eqb_tells, Pulse, Clocks, unit_orders, units_orders, StepUnit, Release, batch_at, units_of, AreBefore, of_stepper}
use Rattle.std.specs.Prelude.{◌==◌, if◌then◌else◌}
use Rattle.step_feed.specs.Pacing.{ArePaced, pending}
use Rattle.step_feed.specs.Rings.{count_from}
use Rattle.laws_board.specs.sections.Known.{Sent, sent_at, Known, known_from, AreGoodFrom}
use Rattle.laws_board.proofs.sections.Lists.{sent_append, known_append}
use Rattle.laws_board.proofs.sections.Units.{behind_unit, own_known, others_known, good_unit, good_append}
use Rattle.laws_board.proofs.sections.Waiting.{Frame, AreInside, lasts, few_pend, Waits, unit_goes}

-- releases in turns from one on
abbrev pub AreFrom : ℕ → List Release → Type 0
AreFrom k [] = Unit {0}
AreFrom k (r ∷ rs) = (k ≤ r.turn) × AreFrom k rs

-- what is left behind a turn, and what was released by then, the last one first
abbrev pub after_turn : ℕ → List Release → List Release
after_turn k [] = []
after_turn k (r ∷ rs) = if r.turn == k then after_turn k rs else r ∷ rs

abbrev pub pushed : ℕ → List Release → List Release → List Release
pushed k before [] = before
pushed k before (r ∷ rs) = if r.turn == k then pushed k (r ∷ before) rs else before

pub from_down : (j k : ℕ) (rs : List Release) → j ≤ k → AreFrom k rs → AreFrom j rs
from_down j k [] h a = tt
from_down j k (r ∷ rs) h a = (omega (arith, a.0, h), from_down j k rs h a.1)

pub paced_from : (clocks : Clocks) (slots from : ℕ) (before rs : List Release) → ArePaced clocks slots from before rs → AreFrom from rs
paced_from clocks slots from before [] p = tt
paced_from clocks slots from before (r ∷ rs) p = (p.0.after, from_down from r.turn rs p.0.after (paced_from clocks slots r.turn (r ∷ before) rs p.1))

pub none_at : (k : ℕ) (rs : List Release) → AreFrom (k + 1) rs → batch_at k rs ≡ []
none_at k [] a = refl
none_at k (r ∷ rs) a = elim (eqb_tells r.turn k) [ inl p ↦ absurd (omega (arith, p.1, a.0)) | inr p ↦ rw p.0 (none_at k rs a.1) ]

-- what is left is later
pub after_from : (clocks : Clocks) (slots from k : ℕ) (before rs : List Release) → ArePaced clocks slots from before rs → AreFrom k rs → AreFrom (k + 1) (after_turn k rs)
after_from clocks slots from k before [] p a = tt
after_from clocks slots from k before (r ∷ rs) p a =
    elim (eqb_tells r.turn k) [
      | inl e ↦ rw e.0 (after_from clocks slots r.turn k (r ∷ before) rs p.1 a.1)
      | inr e ↦
          let later : k + 1 ≤ r.turn = omega (arith, e.1, a.0) in
          rw e.0 (later, from_down (k + 1) r.turn rs later (paced_from clocks slots r.turn (r ∷ before) rs p.1))
    ]

pub before_up : (k : ℕ) (rs : List Release) → AreBefore k rs → AreBefore (k + 1) rs
before_up k [] a = tt
before_up k (r ∷ rs) a = (omega (arith, a.0), before_up k rs a.1)

pub pushed_before : (k : ℕ) (before rs : List Release) → AreBefore (k + 1) before → AreBefore (k + 1) (pushed k before rs)
pushed_before k before [] a = a
pushed_before k before (r ∷ rs) a =
    elim (eqb_tells r.turn k) [ inl e ↦ rw e.0 (pushed_before k (r ∷ before) rs (omega (arith, e.1), a)) | inr e ↦ rw e.0 a ]

-- the pacing goes on
pub paced_on : (clocks : Clocks) (slots from k : ℕ) (before rs : List Release) → ArePaced clocks slots from before rs
    → (next : ℕ) × ArePaced clocks slots next (pushed k before rs) (after_turn k rs) × ((next ≡ from) ⊎ ((next ≡ k) × (from ≤ k)))
paced_on clocks slots from k before [] p = (from, p, inl refl)
paced_on clocks slots from k before (r ∷ rs) p =
    elim (eqb_tells r.turn k) [
      | inl e ↦
          let rest = paced_on clocks slots r.turn k (r ∷ before) rs p.1 in
          let here : from ≤ k = omega (arith, p.0.after, e.1) in
          rw e.0 (rest.0, rest.1, elim rest.2 [ inl x ↦ inr (x ∙ e.1, here) | inr x ↦ inr (x.0, here) ])
      | inr e ↦ rw e.0 (from, p, inl refl)
    ]

pub inside_on : (f : Frame) (k : ℕ) (before rs : List Release) → AreInside f before → AreInside f rs → AreInside f (pushed k before rs) × AreInside f (after_turn k rs)
inside_on f k before [] b i = (b, tt)
inside_on f k before (r ∷ rs) b i = elim (eqb_tells r.turn k) [ inl e ↦ rw e.0 (inside_on f k (r ∷ before) rs (i.0, b) i.1) | inr e ↦ rw e.0 (b, i) ]

-- at other turns what is left has the same units
pub same_batch : (j k : ℕ) (rs : List Release) → j ≢ k → batch_at j rs ≡ batch_at j (after_turn k rs)
same_batch j k [] ne = refl
same_batch j k (r ∷ rs) ne =
    elim (eqb_tells r.turn k) [
      | inl e ↦ rw e.0 (elim (eqb_tells r.turn j) [ inl x ↦ absurd (ne (sym x.1 ∙ e.1)) | inr x ↦ rw x.0 (same_batch j k rs ne) ])
      | inr e ↦ rw e.0 refl
    ]

-- the units of a turn are good for a stepper, and those that are left wait
abbrev TurnGoes : Frame → ℕ → List Pulse → ℕ → Known → List Release → List Release → Type 0
TurnGoes f oid total turn k before rs =
    let sent = sent_at turn (units_orders (batch_at turn rs)) in
    AreGoodFrom f.own f.slots oid k sent × Waits f oid total (known_from oid k sent) (lasts oid (pushed turn before rs)) (of_stepper oid (units_of (after_turn turn rs)))

-- one unit ahead of others that are sent in a turn
unit_ahead : (f : Frame) (turn oid : ℕ) (k next : Known) (u : StepUnit) (us : List StepUnit) → AreGoodFrom f.own f.slots oid k (sent_at turn (unit_orders u))
    → known_from oid k (sent_at turn (unit_orders u)) ≡ next → AreGoodFrom f.own f.slots oid next (sent_at turn (units_orders us))
    → AreGoodFrom f.own f.slots oid k (sent_at turn (units_orders (u ∷ us))) × (known_from oid k (sent_at turn (units_orders (u ∷ us))) ≡ known_from oid next (sent_at turn (units_orders us)))
unit_ahead f turn oid k next u us good is rest = search (rules, unit_orders, units_orders, sent_append, good_append, known_append)

-- one release of the turn, and those behind it
one_and_more : (f : Frame) (oid : ℕ) (total : List Pulse) (turn : ℕ) (k next : Known) (r : Release) (before rs : List Release)
    → AreGoodFrom f.own f.slots oid k (sent_at turn (unit_orders r.unit)) → known_from oid k (sent_at turn (unit_orders r.unit)) ≡ next → TurnGoes f oid total turn next (r ∷ before) rs
    → AreGoodFrom f.own f.slots oid k (sent_at turn (units_orders (r.unit ∷ batch_at turn rs)))
    × Waits f oid total (known_from oid k (sent_at turn (units_orders (r.unit ∷ batch_at turn rs)))) (lasts oid (pushed turn (r ∷ before) rs)) (of_stepper oid (units_of (after_turn turn rs)))
one_and_more f oid total turn k next r before rs good is rest = search (rules, unit_ahead, batch_at, of_stepper, units_of)

pub turn_goes : (f : Frame) (oid : ℕ) (total : List Pulse) (turn from : ℕ) (k : Known) (before rs : List Release) → f.start ≤ from + 250 → Waits f oid total k (lasts oid before) (of_stepper oid (units_of rs))
    → ArePaced f.clocks f.slots from before rs → AreInside f before → AreInside f rs → AreFrom turn rs → TurnGoes f oid total turn k before rs
turn_goes f oid total turn from k before [] soon w p b i a = (tt, w)
turn_goes f oid total turn from k before (r ∷ rs) soon w p b i a =
    elim (eqb_tells r.turn turn) [
      | inl e ↦
          let later : f.start ≤ r.turn + 250 = omega (arith, soon, p.0.after) in
          let here : f.start ≤ turn + 250 = omega (arith, later, e.1) in
          rw e.0 (elim (eqb_tells r.unit.stepper oid) [
            | inl s ↦
                let At : ℕ → Type 0 = λ x. known_from x k (sent_at turn (unit_orders r.unit)) ≡ behind_unit x k r.unit in
                let few : count_from (f.own turn) (lasts oid before) < f.slots = omega (arith, few_pend f turn oid before b, ap (λ x. pending f.clocks x turn before) s.1, ap (λ x. pending f.clocks r.unit.stepper x before) e.1, p.0.room.steps) in
                let ug = unit_goes f oid total turn k (lasts oid before) r.unit (of_stepper oid (units_of rs)) (rw s.0 at w) i.0 here (omega (arith, p.0.room.due, e.1)) few in
                let own : lasts oid (r ∷ before) ≡ r.unit.last ∷ lasts oid before = rw s.0 refl in
                let On : List ℕ → Type 0 = λ x. Waits f oid total (behind_unit oid k r.unit) x (of_stepper oid (units_of rs)) in
                one_and_more f oid total turn k (behind_unit oid k r.unit) r before rs (good_unit f.own f.slots turn oid k r.unit (λ _. ug.0)) (subst At s.1 (own_known turn k r.unit))
                (turn_goes f oid total turn r.turn (behind_unit oid k r.unit) (r ∷ before) rs later (subst On (sym own) ug.1) p.1 (i.0, b) i.1 a.1)
            | inr s ↦
                let own : lasts oid (r ∷ before) ≡ lasts oid before = rw s.0 refl in
                let On : List ℕ → Type 0 = λ x. Waits f oid total k x (of_stepper oid (units_of rs)) in
                one_and_more f oid total turn k k r before rs (good_unit f.own f.slots turn oid k r.unit (λ x. absurd (s.1 x))) (others_known turn oid k r.unit s.1)
                (turn_goes f oid total turn r.turn k (r ∷ before) rs later (subst On (sym own) (rw s.0 at w)) p.1 (i.0, b) i.1 a.1)
          ])
      | inr e ↦
          let later : turn + 1 ≤ r.turn = omega (arith, e.1, a.0) in
          let none = none_at turn rs (from_down (turn + 1) r.turn rs later (paced_from f.clocks f.slots r.turn (r ∷ before) rs p.1)) in
          rw (e.0, none) (tt, w)
    ]
