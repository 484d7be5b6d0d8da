-- A run from its first turn on: until the boards are ready only control commands are queued.
use Rattle.std.proofs.Common.{◌≡◌, ◌≢◌, ℕ, zero, suc, true, ◌+◌, ◌≤◌, ◌⊎◌, List, [], ◌∷◌, ◌++◌, length, map, take, All, refl, ap, sym, ◌∙◌, subst, arith, inl, inr, append-nil}
use Rattle.laws_board.proofs.Names.{All-head, All-tail, Clocks, plain, units_orders, units_of, Orders, BoardSection, of_stepper}
use Rattle.laws_board.specs.sections.Events.{AreTicks}
use Rattle.laws_board.specs.sections.Known.{Sent, sent_at, sent_in, Known, unknown, known_from, AreBelow}
use Rattle.section_units.specs.Sections.{IsSection, all_steps, AreReleased}
use Rattle.laws_board.specs.sections.Parts.{AreTracked, IsControl, MakesIn, IsBoardRun, AreOrdersOf, AreInARow}
use Rattle.laws_board.proofs.sections.Controlling.{stays_made, controls_good, controls_known, controls_make}
use Rattle.laws_board.proofs.sections.Sectioning.{AreLater, none_later, nothing_sent, row_later, none_done, Splits, prepend, Needs}
use Rattle.laws_board.proofs.sections.Spreading.{total_same, some_sections}
use Rattle.laws_board.proofs.sections.Entering.{sections_run, head_in_row}

-- a turn in which no units are queued
controls_ahead : (own : ℕ → ℕ) (slots turn : ℕ) (o : Orders) (os : List Orders) (ks : ℕ → Known) (ss : List BoardSection) → All IsControl o.control.commands → o.batch.units ≡ []
    → Splits own slots (turn + 1 + length os) (sent_in (turn + 1) os) (λ oid. known_from oid (ks oid) (sent_at turn (map plain o.control.commands)))
    (λ oid. (known_from oid (ks oid) (sent_at turn (map plain o.control.commands))).steps) [] ss
    → Splits own slots (turn + length (o ∷ os)) (sent_in turn (o ∷ os)) ks (λ oid. (ks oid).steps) [] ss
controls_ahead own slots turn o os ks ss c none x =
    let cs = sent_at turn (map plain o.control.commands) in
    let ls : ℕ → Known = λ oid. known_from oid (ks oid) cs in
    let e : (oid : ℕ) → (ls oid).steps ≡ (ks oid).steps = λ oid. (let k = controls_known oid turn (ks oid) o.control.commands c in ap (λ (y : Known). y.steps) k.1) in
    let n : turn + 1 + length os ≡ turn + length (o ∷ os) = omega arith in
    let sent : cs ++ sent_in (turn + 1) os ≡ sent_in turn (o ∷ os) =
    ap (λ y. sent_at turn y ++ sent_in (turn + 1) os) (sym (append-nil (map plain o.control.commands)) ∙ ap (λ us. map plain o.control.commands ++ units_orders us) (sym none)) in
    let At : ℕ → Type 0 = λ y. Splits own slots y (sent_in turn (o ∷ os)) ks (λ oid. (ks oid).steps) [] ss in
    let On : List Sent → Type 0 = λ y. Splits own slots (turn + 1 + length os) y ks (λ oid. (ks oid).steps) [] ss in
    subst At n (subst On sent
    (prepend own slots (turn + 1 + length os) cs (sent_in (turn + 1) os) ks ls (λ oid. (ks oid).steps) [] [] ss (λ oid. controls_good own slots oid turn (ks oid) o.control.commands c) (λ oid. refl) (λ oid. ([], append-nil (ls oid).steps ∙ e oid)) (λ b. b)
    (total_same own slots (turn + 1 + length os) (sent_in (turn + 1) os) ls (λ oid. (ls oid).steps) (λ oid. (ks oid).steps) [] ss e x)))

nothing_more : (own : ℕ → ℕ) (clocks : Clocks) (freq slots turn : ℕ) (ks : ℕ → Known) (ss : List BoardSection) → All (IsSection clocks freq slots) ss → AreLater turn ss
    → Splits own slots (turn + 0) [] ks (λ oid. (ks oid).steps) [] ss
nothing_more own clocks freq slots turn ks ss i later = record {
  front = [];
  tail = [];
  is = refl;
  good = λ oid. tt;
  lost = tt;
  steps = λ oid. (all_steps oid ss, refl);
  whole = λ _ first others cut _ released oid.
      let same : turn + 0 ≡ turn = omega arith in
      let Released : ℕ → Type 0 = λ n. AreReleased n first in
      ([], append-nil ((ks oid).steps ++ all_steps oid first) ∙ ap (λ x. (ks oid).steps ++ x) (nothing_sent clocks freq slots turn oid first others ss i later cut (subst Released same released)) ∙ append-nil (ks oid).steps);
  cut = λ done more same first others parts. inr (λ oid. none_done oid (ks oid) done more ((ks oid).steps ++ all_steps oid first) same (all_steps oid first, refl));
}

-- without sections
controls_run : (own : ℕ → ℕ) (clocks : Clocks) (freq slots : ℕ) (os : List Orders) (turn : ℕ) (ks : ℕ → Known) → All (IsSection clocks freq slots) [] → AreOrdersOf [] turn os
    → Splits own slots (turn + length os) (sent_in turn os) ks (λ oid. (ks oid).steps) [] []
controls_run own clocks freq slots [] turn ks i h = nothing_more own clocks freq slots turn ks [] i tt
controls_run own clocks freq slots (o ∷ os) turn ks i h =
    controls_ahead own slots turn o os ks [] h.0 h.1 (controls_run own clocks freq slots os (turn + 1) (λ oid. known_from oid (ks oid) (sent_at turn (map plain o.control.commands))) i h.2)

-- the boards are ready
from_ready : (own : ℕ → ℕ) (clocks : Clocks) (freq slots ready : ℕ) → AreTicks own → (tracked : AreTracked own clocks ready) → (ss : List BoardSection) (os : List Orders) (ks : ℕ → Known)
    → All (IsSection clocks freq slots) ss → AreInARow tracked.until ready ss → ((oid : ℕ) → (ks oid).ends ≡ []) → ((oid : ℕ) → Needs oid ss → (ks oid).made ≡ true) → AreOrdersOf ss ready os
    → Splits own slots (ready + length os) (sent_in ready os) ks (λ oid. (ks oid).steps) [] ss
from_ready own clocks freq slots ready ticks tracked [] os ks i row none made h = controls_run own clocks freq slots os ready ks i h
from_ready own clocks freq slots ready ticks tracked (s ∷ ss) os ks i row none made h =
    sections_run own clocks freq slots ready ticks tracked (s ∷ ss) ready (omega arith) i row (some_sections s ss) os ready ks (omega arith) (head_in_row tracked.until ready ready (s ∷ ss) row (omega arith))
    (λ oid n le. let At : List ℕ → Type 0 = λ x. AreBelow (own n) x in subst At (sym (none oid)) tt) made h

-- some stepper is made by now, or will be
abbrev MadeBy : ℕ → Known → ℕ → List Orders → Type 0
MadeBy oid k m os = (k.made ≡ true) ⊎ MakesIn oid (take m os)

made_next : (oid turn m : ℕ) (k : Known) (o : Orders) (os : List Orders) → All IsControl o.control.commands → MadeBy oid k (suc m) (o ∷ os)
    → MadeBy oid (known_from oid k (sent_at turn (map plain o.control.commands))) m os
made_next oid turn m k o os c (inl e) = inl (stays_made oid k (sent_at turn (map plain o.control.commands)) e)
made_next oid turn m k o os c (inr (inl e)) = inl (controls_make oid turn k o.control.commands c e)
made_next oid turn m k o os c (inr (inr e)) = inr e

made_now : (oid : ℕ) (k : Known) (os : List Orders) → MadeBy oid k 0 os → k.made ≡ true
made_now oid k os (inl e) = e
made_now oid k os (inr e) = absurd e

until_ready : (own : ℕ → ℕ) (clocks : Clocks) (freq slots ready : ℕ) → AreTicks own → (tracked : AreTracked own clocks ready) → (ss : List BoardSection) → All (IsSection clocks freq slots) ss → AreInARow tracked.until ready ss
    → (m : ℕ) (os : List Orders) (turn : ℕ) (ks : ℕ → Known) → turn + m ≡ ready → ((oid : ℕ) → (ks oid).ends ≡ []) → (m ≤ length os → (oid : ℕ) → Needs oid ss → MadeBy oid (ks oid) m os) → AreOrdersOf ss turn os
    → Splits own slots (turn + length os) (sent_in turn os) ks (λ oid. (ks oid).steps) [] ss
until_ready own clocks freq slots ready ticks tracked ss i row m [] turn ks at none made h =
    nothing_more own clocks freq slots turn ks ss i (row_later tracked.until ready turn ss row (omega (arith, at)))
until_ready own clocks freq slots ready ticks tracked ss i row zero (o ∷ os) turn ks at none made h =
    let now : ready ≡ turn = omega (arith, at) in
    let At : ℕ → Type 0 = λ x. Splits own slots (x + length (o ∷ os)) (sent_in x (o ∷ os)) ks (λ oid. (ks oid).steps) [] ss in
    let On : ℕ → Type 0 = λ x. AreOrdersOf ss x (o ∷ os) in
    subst At now (from_ready own clocks freq slots ready ticks tracked ss (o ∷ os) ks i row none (λ oid needs. made_now oid (ks oid) (o ∷ os) (made (omega arith) oid needs)) (subst On (sym now) h))
until_ready own clocks freq slots ready ticks tracked ss i row (suc m) (o ∷ os) turn ks at none made h =
    let cs = sent_at turn (map plain o.control.commands) in
    let later = row_later tracked.until ready (turn + 1) ss row (omega (arith, at)) in
    let nothing = h.1 ∙ none_later clocks freq slots turn ss i later in
    controls_ahead own slots turn o os ks ss h.0 nothing
    (until_ready own clocks freq slots ready ticks tracked ss i row m os (turn + 1) (λ oid. known_from oid (ks oid) cs) (omega (arith, at))
    (λ oid. let k = controls_known oid turn (ks oid) o.control.commands h.0 in ap (λ (y : Known). y.ends) k.1 ∙ none oid)
    (λ long oid needs. made_next oid turn m (ks oid) o os h.0 (made (omega (arith, long)) oid needs)) h.2)

needs_made : (oid : ℕ) (all : List Orders) (ss : List BoardSection) → All (λ s. of_stepper oid (units_of s.releases) ≢ [] → MakesIn oid all) ss → Needs oid ss → MakesIn oid all
needs_made oid all [] a n = absurd n
needs_made oid all (s ∷ ss) a (inl n) = All-head (λ x. of_stepper oid (units_of x.releases) ≢ [] → MakesIn oid all) s ss a n
needs_made oid all (s ∷ ss) a (inr n) = needs_made oid all ss (All-tail (λ x. of_stepper oid (units_of x.releases) ≢ [] → MakesIn oid all) s ss a) n

-- a whole run
pub run_splits : (own : ℕ → ℕ) (clocks : Clocks) (freq slots ready : ℕ) (ss : List BoardSection) (os : List Orders) → AreTicks own → IsBoardRun own clocks freq slots ready ss os
    → Splits own slots (0 + length os) (sent_in 0 os) (λ oid. unknown) (λ oid. []) [] ss
run_splits own clocks freq slots ready ss os ticks r =
    until_ready own clocks freq slots ready ticks r.tracked ss r.sections r.row ready os 0 (λ oid. unknown) (omega arith) (λ oid. refl)
    (λ long oid needs. inr (needs_made oid (take ready os) ss (r.made long oid) needs)) r.orders
