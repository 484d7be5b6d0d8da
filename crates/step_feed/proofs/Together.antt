-- The units of a turn stand together.
use Rattle.std.proofs.Common.{◌≡◌, ◌≢◌, ℕ, zero, suc, ◌-◌, ◌<◌, ◌≤◌, List, [], ◌∷◌, length, take, drop, get_or, arith, ap, ◌∙◌, refl, inl, inr}
use Rattle.std.proofs.lemmas.Bool.{cases_lt, eq-eqb, ne_eqb}
use Rattle.plan_types.specs.Lines.{Clocks}
use Rattle.step_feed.specs.Units.{StepUnit}
use Rattle.step_feed.specs.Pacing.{ArePaced, Release, batch_at, releases}
use Rattle.step_feed.specs.Rings.{IsUp}
use Rattle.step_feed.proofs.Rings.{AreUp, downs, ups}

-- turns of units that are paced do not fall
paced-rise : (clocks : Clocks) (slots from : ℕ) (before : List Release) (us : List StepUnit) (turns : List ℕ) → length us ≡ length turns → ArePaced clocks slots from before (releases us turns) → AreUp from turns
paced-rise clocks slots from before [] [] same paced = tt
paced-rise clocks slots from before [] (k ∷ turns) same paced = absurd (omega arith)
paced-rise clocks slots from before (u ∷ us) [] same paced = absurd (omega arith)
paced-rise clocks slots from before (u ∷ us) (k ∷ turns) same paced =
    (paced.0.after, paced-rise clocks slots k (record { unit = u; turn = k } ∷ before) us turns (omega arith) paced.1)

pub paced-up : (clocks : Clocks) (slots from : ℕ) (us : List StepUnit) (turns : List ℕ) → length us ≡ length turns → ArePaced clocks slots from [] (releases us turns) → IsUp turns
paced-up clocks slots from us turns same paced = downs from turns (paced-rise clocks slots from [] us turns same paced)

skipped : (k turn : ℕ) (u : StepUnit) (rs : List Release) → turn ≢ k → batch_at k (record { unit = u; turn = turn } ∷ rs) ≡ batch_at k rs
skipped k turn u rs other = let e = ne_eqb turn k other in rw e refl

taken : (k turn : ℕ) (u : StepUnit) (rs : List Release) → turn ≡ k → batch_at k (record { unit = u; turn = turn } ∷ rs) ≡ u ∷ batch_at k rs
taken k turn u rs same = let e = eq-eqb turn k same in rw e refl

-- behind turns that are above a turn none is it
none-above : (k from : ℕ) (us : List StepUnit) (turns : List ℕ) → AreUp from turns → k < from → batch_at k (releases us turns) ≡ []
none-above k from [] turns up above = refl
none-above k from (u ∷ us) [] up above = refl
none-above k from (u ∷ us) (t ∷ turns) up above =
    let f = up.0 in
    skipped k t u (releases us turns) (λ e. absurd (omega arith)) ∙ none-above k t us turns up.1 (omega arith)

above : (k t : ℕ) → k ≤ t → t ≢ k → k < t
above k t low other = elim (cases_lt k t) [ inl less ↦ less | inr more ↦ absurd (other (omega arith)) ]

batch-here : (k from to : ℕ) (us : List StepUnit) (turns : List ℕ) → length us ≡ length turns → AreUp from turns → to ≤ length turns → ((j : ℕ) → j < to → get_or turns j 0 ≡ k) → (to < length turns → get_or turns to 0 ≢ k) → k ≤ from → batch_at k (releases us turns) ≡ take to us
batch-here k from zero [] turns same up within here other low = refl
batch-here k from (suc to) [] turns same up within here other low = absurd (omega arith)
batch-here k from to (u ∷ us) [] same up within here other low = absurd (omega arith)
batch-here k from zero (u ∷ us) (t ∷ turns) same up within here other low =
    let f = up.0 in
    let o = other (omega arith) in
    skipped k t u (releases us turns) o ∙ none-above k t us turns up.1 (above k t (omega arith) o)
batch-here k from (suc to) (u ∷ us) (t ∷ turns) same up within here other low =
    let first : t ≡ k = here 0 (omega arith) in
    taken k t u (releases us turns) first ∙ ap (λ vs. u ∷ vs) (batch-here k t to us turns (omega arith) up.1 (omega arith) (λ j l. here (suc j) (omega arith)) (λ l. other (omega arith)) (omega arith))

low-up : (k low : ℕ) (turns : List ℕ) → AreUp low turns → (0 < length turns → k ≤ get_or turns 0 0) → AreUp k turns
low-up k low [] up after = tt
low-up k low (t ∷ turns) up after = (after (omega arith), up.1)

batch-first : (k to : ℕ) (us : List StepUnit) (turns : List ℕ) → length us ≡ length turns → AreUp k turns → to ≤ length turns → ((j : ℕ) → j < to → get_or turns j 0 ≡ k) → (to < length turns → get_or turns to 0 ≢ k) → batch_at k (releases us turns) ≡ take (to - 0) (drop 0 us)
batch-first k to us turns same up within here other =
    batch-here k k to us turns same up within here other (omega arith) ∙ ap (λ n. take n us) (let e : to ≡ to - 0 = omega arith in e)

batch-from : (k low from to : ℕ) (us : List StepUnit) (turns : List ℕ) → length us ≡ length turns → AreUp low turns → from ≤ to → to ≤ length turns → ((j : ℕ) → j < from → get_or turns j 0 < k) → ((j : ℕ) → from ≤ j → j < length turns → k ≤ get_or turns j 0) → ((j : ℕ) → from ≤ j → j < to → get_or turns j 0 ≡ k) → (to < length turns → get_or turns to 0 ≢ k) → batch_at k (releases us turns) ≡ take (to - from) (drop from us)
batch-from k low zero to us turns same up order within before after here other =
    batch-first k to us turns same (low-up k low turns up (λ l. after 0 (omega arith) l)) within (λ j l. here j (omega arith) l) other
batch-from k low (suc from) zero us turns same up order within before after here other = absurd (omega arith)
batch-from k low (suc from) (suc to) [] turns same up order within before after here other = absurd (omega arith)
batch-from k low (suc from) (suc to) (u ∷ us) [] same up order within before after here other = absurd (omega arith)
batch-from k low (suc from) (suc to) (u ∷ us) (t ∷ turns) same up order within before after here other =
    let b = before 0 (omega arith) in
    skipped k t u (releases us turns) (λ e. absurd (omega arith))
    ∙ batch-from k t from to us turns (omega arith) up.1 (omega arith) (omega arith) (λ j l. before (suc j) (omega arith)) (λ j l m. after (suc j) (omega arith) (omega arith)) (λ j l m. here (suc j) (omega arith) (omega arith)) (λ l. other (omega arith))
    ∙ ap (λ n. take n (drop from us)) (let e : to - from ≡ suc to - suc from = omega arith in e)

pub batch-is : (k from to : ℕ) (us : List StepUnit) (turns : List ℕ) → length us ≡ length turns → IsUp turns → from ≤ to → to ≤ length turns → ((j : ℕ) → j < from → get_or turns j 0 < k) → ((j : ℕ) → from ≤ j → j < length turns → k ≤ get_or turns j 0) → ((j : ℕ) → from ≤ j → j < to → get_or turns j 0 ≡ k) → (to < length turns → get_or turns to 0 ≢ k) → batch_at k (releases us turns) ≡ take (to - from) (drop from us)
batch-is k from to us turns same up order within before after here other = batch-from k 0 from to us turns same (ups 0 turns (λ l. omega arith) up) order within before after here other
