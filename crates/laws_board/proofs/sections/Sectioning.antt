-- Sections one behind the other, and what is queued of them turn by turn.
use Rattle.std.proofs.Common.{◌≡◌, ◌≢◌, ℕ, Bool, true, false, ◌+◌, ◌<◌, ◌≤◌, ◌⊎◌, List, [], ◌∷◌, ◌++◌, All, refl, ap, sym, ◌∙◌, subst, arith, inl, inr, append_assoc, append-nil}
use Rattle.laws_board.proofs.Names.{eqb_tells, All-head, All-tail, flat_map, Pulse, Clocks, StepUnit, Release, batch_at, units_of, Orders, BoardSection, of_stepper, AreBefore}
use Rattle.step_feed.specs.Pacing.{ArePaced}
use Rattle.laws_board.specs.sections.Known.{Sent, Known, known_from, AreGoodFrom, BeginLost}
use Rattle.section_units.specs.Sections.{IsSection, steps_said, all_steps, AreReleased}
use Rattle.laws_board.specs.sections.Parts.{AreOrdersOf, AreInARow}
use Rattle.laws_board.proofs.sections.Taking.{IsFront, front_front, all_grow}
use Rattle.laws_board.proofs.sections.Lists.{cuts, nil_cons, known_append, lost_known}
use Rattle.laws_board.proofs.sections.Units.{good_append}
use Rattle.laws_board.proofs.sections.Waiting.{Frame, AreInside, lasts, Waits}
use Rattle.laws_board.proofs.sections.Releasing.{AreFrom, after_turn, from_down, paced_from, none_at}

-- the units of a turn
abbrev pub units_at : ℕ → List BoardSection → List StepUnit
units_at turn ss = flat_map (λ s. batch_at turn s.releases) ss

-- the releases that are left of a section, as a section
abbrev pub cur : List Release → BoardSection
cur rs = record { start = 0; end = 0; plan = λ _. []; releases = rs }

pub orders_as : (ss ts : List BoardSection) (turn : ℕ) (os : List Orders) → ((k : ℕ) → turn ≤ k → units_at k ss ≡ units_at k ts) → AreOrdersOf ss turn os → AreOrdersOf ts turn os
orders_as ss ts turn [] e h = tt
orders_as ss ts turn (o ∷ os) e h = (h.0, h.1 ∙ e turn (omega arith), orders_as ss ts (turn + 1) os (λ k le. e k (omega (arith, le))) h.2)

-- sections that start 250 turns after a turn or later
abbrev pub AreLater : ℕ → List BoardSection → Type 0
AreLater n [] = Unit {0}
AreLater n (s ∷ ss) = (n + 250 ≤ s.start) × AreLater n ss

abbrev pub HeadLater : ℕ → List BoardSection → Type 0
HeadLater n [] = Unit {0}
HeadLater n (s ∷ ss) = n + 250 ≤ s.start

pub row_later : (until e n : ℕ) (ss : List BoardSection) → AreInARow until e ss → n ≤ e + 10 → AreLater n ss
row_later until e n [] r h = tt
row_later until e n (s ∷ ss) r h = (omega (arith, r.0, h), row_later until s.end n ss r.3 (omega (arith, r.0, r.1, h)))

pub head_later : (until e n : ℕ) (ss : List BoardSection) → AreInARow until e ss → HeadLater n ss → AreLater n ss
head_later until e n [] r h = tt
head_later until e n (s ∷ ss) r h = (h, row_later until s.end n ss r.3 (omega (arith, r.1, h)))

pub section_from : (clocks : Clocks) (freq slots n : ℕ) (s : BoardSection) → IsSection clocks freq slots s → n + 250 ≤ s.start → AreFrom n s.releases
section_from clocks freq slots n s i h = from_down n i.from s.releases (omega (arith, i.exact, h)) (paced_from clocks slots i.from [] s.releases i.paced)

pub none_later : (clocks : Clocks) (freq slots n : ℕ) (ss : List BoardSection) → All (IsSection clocks freq slots) ss → AreLater (n + 1) ss → units_at n ss ≡ []
none_later clocks freq slots n [] i h = refl
none_later clocks freq slots n (s ∷ ss) i h =
    let P : BoardSection → Type 0 = λ x. IsSection clocks freq slots x in
    let first = none_at n s.releases (section_from clocks freq slots (n + 1) s (All-head P s ss i) h.0) in
    ap (λ x. x ++ units_at n ss) first ∙ none_later clocks freq slots n ss (All-tail P s ss i) h.1

-- where commands end, either all steppers have all their steps of some sections, or none has more
abbrev pub AtCut : (ℕ → Known) → (ℕ → List Pulse) → List Sent → List BoardSection → Type 0
AtCut ks total done first =
    ((oid : ℕ) → IsFront (total oid ++ all_steps oid first) (known_from oid (ks oid) done).steps)
    ⊎ ((oid : ℕ) → IsFront (known_from oid (ks oid) done).steps (total oid ++ all_steps oid first))

-- what is queued is good commands, and perhaps others behind them of which the first is lost; and the steps of the good ones
pub record Splits (own : ℕ → ℕ) (slots n : ℕ) (sent : List Sent) (ks : ℕ → Known) (total : ℕ → List Pulse) (rs : List Release) (ss : List BoardSection) : Type 0 where
  pub front : List Sent
  pub tail : List Sent
  pub is : sent ≡ front ++ tail
  pub good : (oid : ℕ) → AreGoodFrom own slots oid (ks oid) front
  pub lost : BeginLost own slots (λ oid. known_from oid (ks oid) front) tail
  pub steps : (oid : ℕ) → IsFront (known_from oid (ks oid) front).steps (total oid ++ all_steps oid ss)
  pub whole : tail ≡ [] → (first others : List BoardSection) → ss ≡ first ++ others → AreBefore n rs → AreReleased n first → (oid : ℕ)
      → IsFront (total oid ++ all_steps oid first) (known_from oid (ks oid) front).steps
  pub cut : (done more : List Sent) → front ≡ done ++ more → (first others : List BoardSection) → ss ≡ first ++ others → AtCut ks total done first

-- good commands ahead
pub prepend : (own : ℕ → ℕ) (slots n : ℕ) (ahead sent : List Sent) (ks ls : ℕ → Known) (total : ℕ → List Pulse) (rs left : List Release) (ss : List BoardSection)
    → ((oid : ℕ) → AreGoodFrom own slots oid (ks oid) ahead) → ((oid : ℕ) → known_from oid (ks oid) ahead ≡ ls oid) → ((oid : ℕ) → IsFront (ls oid).steps (total oid)) → (AreBefore n rs → AreBefore n left)
    → Splits own slots n sent ls total left ss → Splits own slots n (ahead ++ sent) ks total rs ss
prepend own slots n ahead sent ks ls total rs left ss good is low down x =
    let e : (oid : ℕ) → known_from oid (ls oid) x.front ≡ known_from oid (ks oid) (ahead ++ x.front) =
    λ oid. ap (λ k. known_from oid k x.front) (sym (is oid)) ∙ sym (known_append oid (ks oid) ahead x.front) in
    record {
      front = ahead ++ x.front;
      tail = x.tail;
      is = ap (λ t. ahead ++ t) x.is ∙ sym (append_assoc ahead x.front x.tail);
      good = λ oid. good_append own slots oid (ks oid) ahead x.front (good oid) (rw (is oid) (x.good oid));
      lost = lost_known own slots x.tail (λ oid. known_from oid (ls oid) x.front) (λ oid. known_from oid (ks oid) (ahead ++ x.front)) e x.lost;
      steps = λ oid. rw (← (e oid)) (x.steps oid);
      whole = λ none first others cut before released oid. rw (← (e oid)) (x.whole none first others cut (down before) released oid);
      cut = λ done more same first others parts. elim (cuts done more ahead x.front (sym same)) [
        | inl c ↦
            inr (λ oid.
            let k = known_from oid (ks oid) done in
            let last : ls oid ≡ known_from oid k c.0 = sym (is oid) ∙ ap (known_from oid (ks oid)) c.1 ∙ known_append oid (ks oid) done c.0 in
            front_front k.steps (total oid) (total oid ++ all_steps oid first)
            (front_front k.steps (ls oid).steps (total oid) (rw last (all_grow oid k c.0)) (low oid)) (all_steps oid first, refl))
        | inr c ↦
            let f = c.0 ∷ c.1 in
            let was : (oid : ℕ) → known_from oid (ls oid) f ≡ known_from oid (ks oid) done =
            λ oid. ap (λ k. known_from oid k f) (sym (is oid)) ∙ sym (known_append oid (ks oid) ahead f) ∙ ap (known_from oid (ks oid)) (sym c.2) in
            elim (x.cut f more c.3 first others parts) [
              | inl a ↦ inl (λ oid. rw (← (was oid)) (a oid))
              | inr a ↦ inr (λ oid. rw (← (was oid)) (a oid))
            ]
      ];
    }

pub before_down : (n k : ℕ) (rs : List Release) → AreBefore n rs → AreBefore n (after_turn k rs)
before_down n k [] a = tt
before_down n k (r ∷ rs) a = elim (eqb_tells r.turn k) [ inl p ↦ rw p.0 (before_down n k rs a.1) | inr p ↦ rw p.0 a ]

pub before_back : (n k : ℕ) (rs : List Release) → k < n → AreBefore n (after_turn k rs) → AreBefore n rs
before_back n k [] l a = tt
before_back n k (r ∷ rs) l a = elim (eqb_tells r.turn k) [
  | inl p ↦ let e = p.1 in (omega (arith, e, l), before_back n k rs l (rw p.0 at a))
  | inr p ↦ rw p.0 at a
]

pub nothing_left : (n : ℕ) (rs : List Release) → AreBefore n rs → AreFrom n rs → rs ≡ []
nothing_left n [] b a = refl
nothing_left n (r ∷ rs) b a = absurd (omega (arith, b.0, a.0))

-- of sections that start later nothing is released
pub nothing_sent : (clocks : Clocks) (freq slots n oid : ℕ) (first others ss : List BoardSection) → All (IsSection clocks freq slots) ss → AreLater n ss → ss ≡ first ++ others → AreReleased n first
    → all_steps oid first ≡ []
nothing_sent clocks freq slots n oid [] others ss i l e r = refl
nothing_sent clocks freq slots n oid (s ∷ first) others [] i l e r = absurd (nil_cons s (first ++ others) e)
nothing_sent clocks freq slots n oid (s ∷ first) others (t ∷ ss) i l e r =
    let P : BoardSection → Type 0 = λ x. IsSection clocks freq slots x in
    let (same, rest) = heads t s ss (first ++ others) e in
    let From : BoardSection → Type 0 = λ x. AreFrom n x.releases in
    let none = nothing_left n s.releases r.0 (subst From same (section_from clocks freq slots n t (All-head P t ss i) l.0)) in
    ap (λ x. steps_said oid false (of_stepper oid (units_of x)) ++ all_steps oid first) none
    ∙ nothing_sent clocks freq slots n oid first others ss (All-tail P t ss i) l.1 rest r.1
  where
    heads : (x y : BoardSection) (xs ys : List BoardSection) → x ∷ xs ≡ y ∷ ys → (x ≡ y) × (xs ≡ ys)
    heads x y xs ys e = (cc, cc)

-- where a section stands in a turn
pub record Stands (f : Frame) (turn from : ℕ) (total : ℕ → List Pulse) (ks : ℕ → Known) (before rs : List Release) : Type 0 where
  pub soon : f.start ≤ from + 250
  pub early : (from ≤ f.end) ⊎ (from < turn)
  pub paced : ArePaced f.clocks f.slots from before rs
  pub behind : AreInside f before
  pub inside : AreInside f rs
  pub waits : (oid : ℕ) → Waits f oid (total oid) (ks oid) (lasts oid before) (of_stepper oid (units_of rs))
  pub later : AreFrom turn rs
  pub earlier : AreBefore turn before

-- some sections have units of a stepper
abbrev pub Needs : ℕ → List BoardSection → Type 0
Needs oid [] = ⊥
Needs oid (s ∷ ss) = (of_stepper oid (units_of s.releases) ≢ []) ⊎ Needs oid ss

-- control commands change nothing for what waits
pub waits_made : (f : Frame) (oid : ℕ) (total : List Pulse) (k : Known) (m : Bool) (ls : List ℕ) (us : List StepUnit) → (k.made ≡ true → m ≡ true) → Waits f oid total k ls us
    → Waits f oid total (record k { made = m }) ls us
waits_made f oid total k m ls us keeps w =
    record { made = λ some. keeps (w.made some); chain = w.chain; old = w.old; ends = w.ends; below = w.below; said = w.said }

-- of no commands some are none
nothing_done : (done more : List Sent) → [] ≡ done ++ more → done ≡ []
nothing_done [] more e = refl
nothing_done (d ∷ done) more e = absurd (nil_cons d (done ++ more) e)

pub none_done : (oid : ℕ) (k : Known) (done more : List Sent) (all : List Pulse) → [] ≡ done ++ more → IsFront k.steps all → IsFront (known_from oid k done).steps all
none_done oid k done more all e f = rw (nothing_done done more e) f

-- nothing is queued any more
pub ends_here : (f : Frame) (freq turn from : ℕ) (total : ℕ → List Pulse) (ks : ℕ → Known) (before rs : List Release) (ss : List BoardSection) → Stands f turn from total ks before rs
    → All (IsSection f.clocks freq f.slots) ss → AreLater turn ss → Splits f.own f.slots (turn + 0) [] ks total rs ss
ends_here f freq turn from total ks before rs ss s i later = record {
  front = [];
  tail = [];
  is = refl;
  good = λ oid. tt;
  lost = tt;
  steps = λ oid.
      let said = steps_said oid (ks oid).up (of_stepper oid (units_of rs)) in
      (said ++ all_steps oid ss, sym (append_assoc (ks oid).steps said (all_steps oid ss)) ∙ ap (λ x. x ++ all_steps oid ss) ((s.waits oid).said));
  whole = λ _ first others cut sent released oid.
      let same : turn + 0 ≡ turn = omega arith in
      let Before : ℕ → Type 0 = λ n. AreBefore n rs in
      let Released : ℕ → Type 0 = λ n. AreReleased n first in
      let none : rs ≡ [] = nothing_left turn rs (subst Before same sent) s.later in
      let nothing = nothing_sent f.clocks freq f.slots turn oid first others ss i later cut (subst Released same released) in
      let all : (ks oid).steps ≡ total oid = sym (append-nil (ks oid).steps) ∙ ap (λ x. (ks oid).steps ++ steps_said oid (ks oid).up (of_stepper oid (units_of x))) (sym none) ∙ (s.waits oid).said in
      ([], append-nil (total oid ++ all_steps oid first) ∙ ap (λ x. total oid ++ x) nothing ∙ append-nil (total oid) ∙ sym all);
  cut = λ done more same first others parts. inr (λ oid.
      let said = steps_said oid (ks oid).up (of_stepper oid (units_of rs)) in
      none_done oid (ks oid) done more (total oid ++ all_steps oid first) same
      (said ++ all_steps oid first, sym (append_assoc (ks oid).steps said (all_steps oid first)) ∙ ap (λ x. x ++ all_steps oid first) ((s.waits oid).said)));
}
