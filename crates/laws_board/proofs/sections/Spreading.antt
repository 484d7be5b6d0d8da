-- What is queued of sections splits into good commands and those behind a lost one.
use Rattle.std.proofs.Common.{◌≡◌, ◌≢◌, ℕ, suc, true, ◌+◌, ◌*◌, ◌<◌, ◌≤◌, ◌⊎◌, List, [], ◌∷◌, ◌++◌, length, map, All, refl, ap, sym, ◌∙◌, subst, arith, inl, inr, append_assoc, append-nil, rules}
use Rattle.laws_board.proofs.Names.{leb_tells, eqb_tells, Pulse, turn_ns, lines_tick, plain, unit_orders, units_orders, StepUnit, Release, batch_at, units_of, Orders, queued_in, AreBefore, BoardSection, of_stepper}
use Rattle.std.specs.Prelude.{slice_index}
use Rattle.clock_line.proofs.Turns.{turn-below}
use Rattle.step_feed.specs.Pacing.{HasRoom, bytes_in, pending, over_turn, ArePaced}
use Rattle.step_feed.specs.Rings.{count_from}
use Rattle.laws_board.specs.sections.Known.{Sent, sent_at, sent_in, Known, known_from, AreBelow, AreGoodFrom}
use Rattle.section_units.specs.Sections.{IsSection, all_steps, steps_said, ticks_meant}
use Rattle.laws_board.specs.sections.Parts.{IsControl, AreOrdersOf, AreInARow}
use Rattle.laws_board.proofs.sections.Taking.{IsFront, front_front, all_grow}
use Rattle.laws_board.proofs.sections.Lists.{nil_cons, sent_append, known_append}
use Rattle.laws_board.proofs.sections.Clocks.{bound_made}
use Rattle.laws_board.proofs.sections.Units.{good_append, good_ahead, good_step, unit_is, ahead_known, ahead_others, ahead_of_step, step_sent, IsGoodUnit}
use Rattle.laws_board.proofs.sections.Controlling.{stays_made, controls_good, controls_known}
use Rattle.laws_board.proofs.sections.Waiting.{Frame, IsInside, AreInside, lasts, few_pend, Waits, unit_goes}
use Rattle.laws_board.proofs.sections.Releasing.{after_turn, pushed, after_from, pushed_before, before_up, paced_on, inside_on, same_batch, turn_goes}
use Rattle.laws_board.proofs.sections.Sectioning.{units_at, cur, orders_as, HeadLater, head_later, none_later, Splits, prepend, before_down, Stands, Needs, waits_made, ends_here}
use Rattle.section_units.proofs.Merging.{of_one}

-- the control commands of a turn
abbrev controls_of : ℕ → Orders → List Sent
controls_of turn o = sent_at turn (map plain o.control.commands)

-- behind them the section stands as before
controls_stand : (f : Frame) (turn from : ℕ) (total : ℕ → List Pulse) (ks : ℕ → Known) (before rs : List Release) (o : Orders) → All IsControl o.control.commands
    → Stands f turn from total ks before rs → Stands f turn from total (λ oid. known_from oid (ks oid) (controls_of turn o)) before rs
controls_stand f turn from total ks before rs o c s = record {
  soon = s.soon;
  early = s.early;
  paced = s.paced;
  behind = s.behind;
  inside = s.inside;
  waits = λ oid.
      let (m, is, keeps) = controls_known oid turn (ks oid) o.control.commands c in
      let At : Known → Type 0 = λ x. Waits f oid (total oid) x (lasts oid before) (of_stepper oid (units_of rs)) in
      subst At (sym is) (waits_made f oid (total oid) (ks oid) m (lasts oid before) (of_stepper oid (units_of rs)) keeps (s.waits oid));
  later = s.later;
  earlier = s.earlier;
}

-- the units of a turn, and the section behind them
units_stand : (f : Frame) (turn from : ℕ) (total : ℕ → List Pulse) (ks : ℕ → Known) (before rs : List Release) → Stands f turn from total ks before rs
    → ((oid : ℕ) → AreGoodFrom f.own f.slots oid (ks oid) (sent_at turn (units_orders (batch_at turn rs))))
    × ((next : ℕ) × Stands f (turn + 1) next total (λ oid. known_from oid (ks oid) (sent_at turn (units_orders (batch_at turn rs)))) (pushed turn before rs) (after_turn turn rs))
units_stand f turn from total ks before rs s =
    let went = λ (oid : ℕ). turn_goes f oid (total oid) turn from (ks oid) before rs s.soon (s.waits oid) s.paced s.behind s.inside s.later in
    let on = paced_on f.clocks f.slots from turn before rs s.paced in
    let within = inside_on f turn before rs s.behind s.inside in (
      λ oid. (went oid).0,
      (
        on.0,
        record {
          soon = elim on.2 [ inl e ↦ omega (arith, s.soon, e) | inr e ↦ omega (arith, s.soon, e.0, e.1) ];
          early = elim on.2 [
            | inl e ↦ elim s.early [ inl x ↦ inl (omega (arith, x, e)) | inr x ↦ inr (omega (arith, x, e)) ]
            | inr e ↦ inr (omega (arith, e.0))
          ];
          paced = on.1;
          behind = within.0;
          inside = within.1;
          waits = λ oid. (went oid).1;
          later = after_from f.clocks f.slots from turn before rs s.paced s.later;
          earlier = pushed_before turn before rs (before_up turn before s.earlier);
        },
      ),
    )

-- what is known so far is a front of the section's steps
so_far : (f : Frame) (turn from : ℕ) (total : ℕ → List Pulse) (ks : ℕ → Known) (before rs : List Release) → Stands f turn from total ks before rs → (oid : ℕ) → IsFront (ks oid).steps (total oid)
so_far f turn from total ks before rs s oid = (steps_said oid (ks oid).up (of_stepper oid (units_of rs)), (s.waits oid).said)

-- Late units: those that are left where the next section's units begin.
-- steps of a section are over, and its units due, by then
none_pending : (f : Frame) (turn oid : ℕ) (before : List Release) → AreInside f before → f.end + 5 ≤ turn → pending f.clocks oid turn before ≡ 0
none_pending f turn oid [] i h = refl
none_pending f turn oid (r ∷ before) i h =
    let by = turn-below f.clocks r.unit.last f.end i.0.high in
    let rest = none_pending f turn oid before i.1 h in
    elim (leb_tells (suc turn) (over_turn f.clocks r.unit.last)) [
      | inl p ↦ absurd (omega (arith, p.1, by, h))
      | inr p ↦ elim (eqb_tells r.unit.stepper oid) [ inl e ↦ rw (e.0, p.0) (omega (arith, rest)) | inr e ↦ rw e.0 (omega (arith, rest)) ]
    ]

no_bytes : (turn : ℕ) (before : List Release) → AreBefore turn before → bytes_in turn before ≡ 0
no_bytes turn [] a = refl
no_bytes turn (r ∷ before) a = elim (eqb_tells r.turn turn) [ inl e ↦ absurd (omega (arith, e.1, a.0)) | inr e ↦ rw e.0 (omega (arith, no_bytes turn before a.1)) ]

-- the first unit that is left is released in the very turn
pub late_released : (f : Frame) (turn from : ℕ) (before : List Release) (r : Release) (rs : List Release) → ArePaced f.clocks f.slots from before (r ∷ rs) → AreInside f before → IsInside f r.unit → AreBefore turn before
    → (from ≤ f.end) ⊎ (from < turn) → turn ≤ r.turn → f.end + 5 ≤ turn → r.turn ≡ turn
late_released f turn from before r rs paced behind i earlier early later h = search (rules, turn-below, no_bytes, none_pending)

late_turn : (f : Frame) (turn from : ℕ) (total : ℕ → List Pulse) (ks : ℕ → Known) (before : List Release) (r : Release) (rs : List Release)
    → Stands f turn from total ks before (r ∷ rs) → f.end + 10 ≤ turn → r.turn ≡ turn
late_turn f turn from total ks before r rs s h =
    late_released f turn from before r rs s.paced s.behind s.inside.0 s.earlier s.early s.later.0 (omega (arith, h))

pub lasts_below : (f : Frame) (turn oid : ℕ) (before : List Release) → AreInside f before → f.end + 5 ≤ turn → AreBelow (f.own turn) (lasts oid before)
lasts_below f turn oid [] i h = tt
lasts_below f turn oid (r ∷ before) i h =
    let rest = lasts_below f turn oid before i.1 h in
    let one = bound_made f.own f.clocks f.ready f.end turn r.unit.last f.ticks f.tracked (omega (arith, f.after, f.order)) f.limit i.0.high (omega (arith, h)) in
    elim (eqb_tells r.unit.stepper oid) [ inl e ↦ rw e.0 (one, rest) | inr e ↦ rw e.0 rest ]

below_append : (x : ℕ) (ls es : List ℕ) → AreBelow x ls → AreBelow x es → AreBelow x (ls ++ es)
below_append x [] es a b = b
below_append x (l ∷ ls) es a b = (a.0, below_append x ls es a.1 b)

-- all steps of a section are made ten turns behind its end
all_below : (f : Frame) (turn from oid n : ℕ) (total : ℕ → List Pulse) (ks : ℕ → Known) (before rs : List Release) → Stands f turn from total ks before rs → f.end + 10 ≤ n
    → AreBelow (f.own n) (ks oid).ends
all_below f turn from oid n total ks before rs s h =
    let w = s.waits oid in
    let At : List ℕ → Type 0 = λ x. AreBelow (f.own n) x in
    subst At (sym w.ends) (below_append (f.own n) (lasts oid before) w.old (lasts_below f n oid before s.behind (omega (arith, h))) (w.below n (omega (arith, h, f.order))))

first_below : (f : Frame) (oid turn : ℕ) (total : List Pulse) (k : Known) (ls : List ℕ) (u : StepUnit) (us : List StepUnit) → Waits f oid total k ls (u ∷ us) → IsInside f u → f.end + 5 ≤ turn
    → slice_index (ticks_meant u) 0 < f.own turn
first_below f oid turn total k ls u us w i h =
    let same : u.first ≡ slice_index (ticks_meant u) 0 = elim w.chain [ inl c ↦ c.0.2.first | inr c ↦ c.1.first ] in
    let low : u.first < lines_tick f.clocks ((f.end + 1) * turn_ns) = omega (arith, i.up, i.high) in
    rw (← same) (bound_made f.own f.clocks f.ready f.end turn u.first f.ticks f.tracked (omega (arith, f.after, f.order)) f.limit low (omega (arith, h)))

-- the clock and the direction that are told ahead of a triple mean no steps
steps_kept : (turn oid : ℕ) (k : Known) (u : StepUnit) → (known_from oid k (ahead_of_step turn u)).steps ≡ k.steps
steps_kept turn oid k u = search (rules, eqb_tells, ahead_known, ahead_others)

-- the first unit that is left is good, and lost
late_splits : (f : Frame) (turn from n : ℕ) (total : ℕ → List Pulse) (ks : ℕ → Known) (before : List Release) (r : Release) (rs : List Release) (ss : List BoardSection) (sent : List Sent)
    → Stands f turn from total ks before (r ∷ rs) → f.end + 10 ≤ turn → Splits f.own f.slots n (sent_at turn (unit_orders r.unit) ++ sent) ks total (r ∷ rs) ss
late_splits f turn from n total ks before r rs ss sent s h =
    let u = r.unit in
    let oid = u.stepper in
    let now = late_turn f turn from total ks before r rs s h in
    let i = s.inside.0 in
    let own : of_stepper oid (units_of (r ∷ rs)) ≡ u ∷ of_stepper oid (units_of rs) = of_one oid u (units_of rs) refl in
    let At : List StepUnit → Type 0 = λ x. Waits f oid (total oid) (ks oid) (lasts oid before) x in
    let At_turn : ℕ → Type 0 = λ x. pending f.clocks oid x before < f.slots in
    let few : count_from (f.own turn) (lasts oid before) < f.slots = omega (arith, few_pend f turn oid before s.behind, subst At_turn now s.paced.0.room.steps) in
    let good = (unit_goes f oid (total oid) turn (ks oid) (lasts oid before) u (of_stepper oid (units_of rs)) (subst At own (s.waits oid)) i (omega (arith, h, f.order)) (omega (arith, s.paced.0.room.due, now)) few).0 in
    let below = all_below f turn from oid turn total ks before (r ∷ rs) s h in
    let front = ahead_of_step turn u in
    let to = λ (k : ℕ) (e : oid ≡ k). e in
    let ok = λ (k : ℕ) (e : oid ≡ k). (let P : ℕ → Type 0 = λ x. IsGoodUnit f.own f.slots turn (ks x) u in subst P e good) in
    let same_steps = λ (k : ℕ). steps_kept turn k (ks k) u in
    record {
      front = front;
      tail = step_sent turn u ∷ sent;
      is = ap (λ x. x ++ sent) (unit_is turn u) ∙ append_assoc front (step_sent turn u ∷ []) sent;
      good = λ k. good_ahead f.own f.slots turn k (ks k) u (λ e. (ok k e).made) (λ e. (ok k e).clock);
      lost = (
        λ k. good_step f.own f.slots turn k (ks k) u (ok k),
        (
          first_below f oid turn (total oid) (ks oid) (lasts oid before) u (of_stepper oid (units_of rs)) (subst At own (s.waits oid)) i (omega (arith, h)),
          rw (ap (λ (x : Known). x.ends) (ahead_known turn (ks oid) u)) below,
        ),
      );
      steps = λ k.
          let said = steps_said k (ks k).up (of_stepper k (units_of (r ∷ rs))) in
          rw (same_steps k) (said ++ all_steps k ss, sym (append_assoc (ks k).steps said (all_steps k ss)) ∙ ap (λ x. x ++ all_steps k ss) ((s.waits k).said));
      whole = λ none first others cut before_n released k. absurd (nil_cons (step_sent turn u) sent (sym none));
      cut = λ done more same first others parts. inr (λ k.
          let said = steps_said k (ks k).up (of_stepper k (units_of (r ∷ rs))) in
          let mid = known_from k (ks k) done in
          let last : known_from k (ks k) front ≡ known_from k mid more = ap (known_from k (ks k)) same ∙ known_append k (ks k) done more in
          let grown = all_grow k mid more in
          front_front mid.steps (ks k).steps (total k ++ all_steps k first) (grown.0, grown.1 ∙ ap (λ (x : Known). x.steps) (sym last) ∙ same_steps k)
          (said ++ all_steps k first, sym (append_assoc (ks k).steps said (all_steps k first)) ∙ ap (λ x. x ++ all_steps k first) ((s.waits k).said)));
    }

limit_or : (turn : ℕ) (ss : List BoardSection) → HeadLater turn ss → HeadLater (turn + 1) ss ⊎ ((s : BoardSection) × (rest : List BoardSection) × (ss ≡ s ∷ rest) × (turn + 250 ≡ s.start))
limit_or turn [] h = inl tt
limit_or turn (s ∷ ss) h = elim (leb_tells (turn + 1 + 250) s.start) [ inl p ↦ inl p.1 | inr p ↦ inr (s, ss, refl, omega (arith, p.1, h)) ]

-- what later sections make of what is queued behind a section
abbrev pub GoesOn : (ℕ → ℕ) → ℕ → ℕ → ℕ → List BoardSection → Type 0
GoesOn own slots ready end ss =
    ss ≢ [] → (os : List Orders) (turn : ℕ) (ks : ℕ → Known) → ready ≤ turn → HeadLater turn ss → ((oid n : ℕ) → end + 10 ≤ n → AreBelow (own n) (ks oid).ends)
    → ((oid : ℕ) → Needs oid ss → (ks oid).made ≡ true) → AreOrdersOf ss turn os → Splits own slots (turn + length os) (sent_in turn os) ks (λ oid. (ks oid).steps) [] ss

-- a section of which nothing is left
pub total_same : (own : ℕ → ℕ) (slots n : ℕ) (sent : List Sent) (ks : ℕ → Known) (one two : ℕ → List Pulse) (rs : List Release) (ss : List BoardSection) → ((oid : ℕ) → one oid ≡ two oid)
    → Splits own slots n sent ks one rs ss → Splits own slots n sent ks two rs ss
total_same own slots n sent ks one two rs ss e x = record {
  front = x.front;
  tail = x.tail;
  is = x.is;
  good = x.good;
  lost = x.lost;
  steps = λ oid. rw (← (e oid)) (x.steps oid);
  whole = λ none first others cut before released oid. rw (← (e oid)) (x.whole none first others cut before released oid);
  cut = λ done more same first others parts. elim (x.cut done more same first others parts) [
    | inl a ↦ inl (λ oid. rw (← (e oid)) (a oid))
    | inr a ↦ inr (λ oid. rw (← (e oid)) (a oid))
  ];
}

pub some_sections : (s : BoardSection) (ss : List BoardSection) → s ∷ ss ≢ []
some_sections s ss e = cc

not_none : (ss : List BoardSection) (s : BoardSection) (rest : List BoardSection) → ss ≡ s ∷ rest → ss ≢ []
not_none ss s rest e f = some_sections s rest (sym e ∙ f)

-- what is queued in a turn, in parts
pub parts_sent : (turn : ℕ) (o : Orders) (us : List StepUnit) (later : List Sent) → o.batch.units ≡ us
    → sent_at turn (queued_in o) ++ later ≡ (controls_of turn o ++ sent_at turn (units_orders us)) ++ later
parts_sent turn o us later e =
    ap (λ x. sent_at turn (map plain o.control.commands ++ units_orders x) ++ later) e ∙ ap (λ x. x ++ later) (sent_append turn (map plain o.control.commands) (units_orders us))

pub first_part : (turn : ℕ) (o : Orders) (u : StepUnit) (more : List StepUnit) (later : List Sent) → o.batch.units ≡ u ∷ more
    → sent_at turn (queued_in o) ++ later ≡ controls_of turn o ++ (sent_at turn (unit_orders u) ++ (sent_at turn (units_orders more) ++ later))
first_part turn o u more later e = search (rules, unit_orders, units_orders, parts_sent, append_assoc, sent_append)

first_batch : (turn : ℕ) (r : Release) (rs : List Release) → r.turn ≡ turn → batch_at turn (r ∷ rs) ≡ r.unit ∷ batch_at turn rs
first_batch turn r rs e = elim (eqb_tells r.turn turn) [ inl p ↦ rw p.0 refl | inr p ↦ absurd (p.1 e) ]

-- where the next section's units begin: this one's are all released, or the first one that is left is lost
at_limit : (f : Frame) (ss : List BoardSection) (o : Orders) (os : List Orders) (turn from : ℕ) (total : ℕ → List Pulse) (ks : ℕ → Known) (before rs : List Release) → GoesOn f.own f.slots f.ready f.end ss → ss ≢ []
    → Stands f turn from total ks before rs → f.end + 10 ≤ turn → f.ready ≤ turn → HeadLater turn ss → ((oid : ℕ) → Needs oid ss → (ks oid).made ≡ true) → AreOrdersOf (cur rs ∷ ss) turn (o ∷ os)
    → Splits f.own f.slots (turn + length (o ∷ os)) (sent_in turn (o ∷ os)) ks total rs ss
at_limit f ss o os turn from total ks before [] next some s end ready head made orders =
    let here = next some (o ∷ os) turn ks ready head (λ oid n h. all_below f turn from oid n total ks before [] s h) made (orders_as (cur [] ∷ ss) ss turn (o ∷ os) (λ k le. refl) orders) in
    total_same f.own f.slots (turn + length (o ∷ os)) (sent_in turn (o ∷ os)) ks (λ oid. (ks oid).steps) total [] ss (λ oid. sym (append-nil (ks oid).steps) ∙ (s.waits oid).said) here
at_limit f ss o os turn from total ks before (r ∷ rs) next some s end ready head made orders =
    let n = turn + length (o ∷ os) in
    let now = late_turn f turn from total ks before r rs s end in
    let ls : ℕ → Known = λ oid. known_from oid (ks oid) (controls_of turn o) in
    let stands = controls_stand f turn from total ks before (r ∷ rs) o orders.0 s in
    let more = batch_at turn rs ++ units_at turn ss in
    let units : o.batch.units ≡ r.unit ∷ more = orders.1 ∙ ap (λ x. x ++ units_at turn ss) (first_batch turn r rs now) in
    let later = sent_at turn (units_orders more) ++ sent_in (turn + 1) os in
    let At : List Sent → Type 0 = λ x. Splits f.own f.slots n x ks total (r ∷ rs) ss in
    subst At (sym (first_part turn o r.unit more (sent_in (turn + 1) os) units))
    (prepend f.own f.slots n (controls_of turn o) (sent_at turn (unit_orders r.unit) ++ later) ks ls total (r ∷ rs) (r ∷ rs) ss
    (λ oid. controls_good f.own f.slots oid turn (ks oid) o.control.commands orders.0) (λ oid. refl) (λ oid. so_far f turn from total ls before (r ∷ rs) stands oid) (λ b. b)
    (late_splits f turn from n total ls before r rs ss later stands end))

-- a section, turn by turn
pub section_run : (f : Frame) (freq : ℕ) (ss : List BoardSection) (os : List Orders) (turn from : ℕ) (total : ℕ → List Pulse) (ks : ℕ → Known) (before rs : List Release) → GoesOn f.own f.slots f.ready f.end ss
    → All (IsSection f.clocks freq f.slots) ss → AreInARow f.tracked.until f.end ss → Stands f turn from total ks before rs → f.ready ≤ turn → HeadLater turn ss → ((oid : ℕ) → Needs oid ss → (ks oid).made ≡ true)
    → AreOrdersOf (cur rs ∷ ss) turn os → Splits f.own f.slots (turn + length os) (sent_in turn os) ks total rs ss
section_run f freq ss [] turn from total ks before rs next i row s ready head made orders = ends_here f freq turn from total ks before rs ss s i (head_later f.tracked.until f.end turn ss row head)
section_run f freq ss (o ∷ os) turn from total ks before rs next i row s ready head made orders =
    elim (limit_or turn ss head) [
      | inr p ↦
          let At : List BoardSection → Type 0 = λ x. AreInARow f.tracked.until f.end x in
          let is_row = subst At p.2 row in
          at_limit f ss o os turn from total ks before rs next (not_none ss p.0 p.1 p.2) s (omega (arith, is_row.0, p.3)) ready head made orders
      | inl p ↦
          let none = none_later f.clocks freq f.slots turn ss i (head_later f.tracked.until f.end (turn + 1) ss row p) in
          let us = batch_at turn rs in
          let units : o.batch.units ≡ us = orders.1 ∙ ap (λ x. us ++ x) none ∙ append-nil us in
          let c = controls_of turn o in
          let u = sent_at turn (units_orders us) in
          let ls : ℕ → Known = λ oid. known_from oid (ks oid) c in
          let ms : ℕ → Known = λ oid. known_from oid (ls oid) u in
          let stands = controls_stand f turn from total ks before rs o orders.0 s in
          let (good, later) = units_stand f turn from total ls before rs stands in
          let left = after_turn turn rs in
          let others = orders_as (cur rs ∷ ss) (cur left ∷ ss) (turn + 1) os (λ k le. ap (λ x. x ++ units_at k ss) (same_batch k turn rs (λ e. absurd (omega (arith, e, le))))) orders.2 in
          let rest = section_run f freq ss os (turn + 1) later.0 total ms (pushed turn before rs) left next i row later.1 (omega (arith, ready)) p
          (λ oid need. stays_made oid (ls oid) u (stays_made oid (ks oid) c (made oid need))) others in
          let n : turn + 1 + length os ≡ turn + length (o ∷ os) = omega arith in
          let At : ℕ → Type 0 = λ x. Splits f.own f.slots x ((c ++ u) ++ sent_in (turn + 1) os) ks total rs ss in
          let On : List Sent → Type 0 = λ x. Splits f.own f.slots (turn + length (o ∷ os)) x ks total rs ss in
          subst On (sym (parts_sent turn o us (sent_in (turn + 1) os) units)) (subst At n
          (prepend f.own f.slots (turn + 1 + length os) (c ++ u) (sent_in (turn + 1) os) ks ms total rs left ss
          (λ oid. good_append f.own f.slots oid (ks oid) c u (controls_good f.own f.slots oid turn (ks oid) o.control.commands orders.0) (good oid))
          (λ oid. known_append oid (ks oid) c u) (λ oid. so_far f (turn + 1) later.0 total ms (pushed turn before rs) left later.1 oid) (before_down (turn + 1 + length os) turn rs) rest))
    ]
