-- What the turns of a section of moves make of a stepper: one part of its steps, those of the section.
use Rattle.std.proofs.Common.{◌≡◌, ◌≢◌, ℕ, Bool, true, false, ◌+◌, ◌-◌, ◌%◌, ◌^◌, ◌≤◌, ◌⊎◌, List, [], ◌∷◌, ◌++◌, All, length, map, Option, Some, None, refl, ap, sym, ◌∙◌, subst, arith, inl, inr, append_assoc, append-nil}
use Rattle.laws_board.proofs.Names.{eqb_tells, All-head, All-tail, flat_map, Pulse, Clocks, Cmd, plain, unit_orders, units_orders, StepUnit, Release, batch_at, units_of, AreBefore, BoardSection, of_stepper, Orders}
use Rattle.plan_types.specs.Board.{steps_of}
use Rattle.msg_code.specs.declared.cmd.Cmd.TheVariants as cmd
use Rattle.plan_types.specs.Plan.{pulse_of}
use Rattle.step_feed.specs.Pacing.{ArePaced}
use Rattle.section_units.specs.Sections.{AreBegun, AreChained, steps_said, ticks_meant}
use Rattle.laws_board.specs.sections.Known.{Known, Sent, known_from, knows_of, sent_at, sent_in}
use Rattle.laws_board.specs.sections.Courses.{Course, IsSince, course_behind, course_from, course_of, next_part}
use Rattle.laws_board.specs.sections.Homes.{AreInTurn, AreOrdersIn, IsControlIn, IsSectionBy, RunSection, SetsClock, AreReleasedIn}
use Rattle.laws_board.proofs.sections.Entering.{dir_told, told_by}
use Rattle.laws_board.proofs.sections.HomeControls.{none_sets}
use Rattle.laws_board.proofs.sections.HomeUnits.{ArePlain, IsPlain, clock_ahead, other_unit, set_at, unclocked, unit_plain}
use Rattle.laws_board.proofs.sections.Lists.{sent_append}
use Rattle.laws_board.proofs.sections.Releasing.{AreFrom, after_from, after_turn, from_down, none_at, paced_from, paced_on, pushed, same_batch}
use Rattle.laws_board.proofs.sections.Sectioning.{before_down, nothing_left}
use Rattle.laws_board.proofs.sections.Spreading.{parts_sent}
use Rattle.laws_board.proofs.sections.Stepping.{course_append}
use Rattle.laws_board.proofs.sections.Units.{at_own, behind_unit, own_known}

-- units that set no clock
abbrev pub Unset : List StepUnit → Type 0
Unset [] = Unit {0}
Unset (u ∷ us) = (u.reset ≡ None) × Unset us

chained_unset : (clocks : Clocks) (behind : ℕ) (us : List StepUnit) → AreChained clocks behind us → Unset us
chained_unset clocks behind [] c = tt
chained_unset clocks behind (u ∷ us) c = (c.0, chained_unset clocks u.last us c.2)

-- a stepper's steps in a section, some of whose units are still to come: its part was begun, or will be by the first unit
abbrev pub Means : (low : ℕ) (clocks : Clocks) (base oid : ℕ) (total : List Pulse) → Course → List StepUnit → Type 0
Means low clocks base oid total c us =
    (AreBegun clocks base us × (steps_said oid false us ≡ total)) ⊎ (IsSince low c.since × (c.known.steps ++ steps_said oid c.known.up us ≡ total) × Unset us)

-- commands that set no clock
one_plain : (oid turn : ℕ) (c : Course) (m : Cmd) (ticks : List ℕ) → IsPlain m → course_of oid turn c m ticks ≡ record c { known = knows_of oid c.known m ticks }
one_plain oid turn c (cmd.ResetStepClock other clock) ticks p = absurd p
one_plain oid turn c m ticks p = refl

plain_course : (oid : ℕ) (c : Course) (ss : List Sent) → ArePlain ss → course_from oid c ss ≡ record c { known = known_from oid c.known ss }
plain_course oid c [] p = refl
plain_course oid c (s ∷ ss) p =
    let next : Course = record c { known = knows_of oid c.known s.order.command s.order.ticks } in
    ap (λ x. course_from oid x ss) (one_plain oid s.turn c s.order.command s.order.ticks p.0) ∙ plain_course oid next ss p.1

-- a unit of the stepper
own_unit : (turn : ℕ) (c : Course) (u : StepUnit) → u.reset ≡ None → course_from u.stepper c (sent_at turn (unit_orders u)) ≡ record c { known = behind_unit u.stepper c.known u }
own_unit turn c u e = plain_course u.stepper c (sent_at turn (unit_orders u)) (unit_plain turn u e) ∙ ap (λ (k : Known). record c { known = k }) (own_known turn c.known u)

first_own : (turn tick : ℕ) (c : Course) (u : StepUnit) → u.reset ≡ Some tick
    → course_from u.stepper c (sent_at turn (unit_orders u)) ≡ record (next_part turn (tick % 2 ^ 32) c) { known = behind_unit u.stepper (next_part turn (tick % 2 ^ 32) c).known (unclocked u) }
first_own turn tick c u e =
    let b = tick % 2 ^ 32 in
    let d = next_part turn b c in
    let first : course_behind u.stepper c (set_at turn u.stepper b) ≡ d = at_own u.stepper d c in
    ap (course_from u.stepper c) (clock_ahead turn u tick e) ∙ ap (λ x. course_from u.stepper x (sent_at turn (unit_orders (unclocked u)))) first ∙ own_unit turn d (unclocked u) refl

unit_means : (low : ℕ) (clocks : Clocks) (base oid turn : ℕ) (total : List Pulse) (c : Course) (u : StepUnit) (us : List StepUnit) → low ≤ turn → u.stepper ≡ oid → Means low clocks base oid total c (u ∷ us)
    → Means low clocks base oid total (course_from oid c (sent_at turn (unit_orders u))) us
unit_means low clocks base oid turn total c u us soon own (inl (begun, said)) =
    let (reset, told, unit, chain) = begun in
    let At : ℕ → Type 0 = λ n. course_from n c (sent_at turn (unit_orders u)) ≡ record (next_part turn (base % 2 ^ 32) c) { known = behind_unit n (next_part turn (base % 2 ^ 32) c).known (unclocked u) } in
    let is = subst At own (first_own turn base c u reset) in
    let To : Course → Type 0 = λ x. Means low clocks base oid total x us in
    subst To (sym is) (inr (soon, told_by oid c.known.up false u us told ∙ said, chained_unset clocks u.last us chain))
unit_means low clocks base oid turn total c u us soon own (inr (since, said, unset)) =
    let At : ℕ → Type 0 = λ n. course_from n c (sent_at turn (unit_orders u)) ≡ record c { known = behind_unit n c.known u } in
    let is = subst At own (own_unit turn c u unset.0) in
    let To : Course → Type 0 = λ x. Means low clocks base oid total x us in
    let d = behind_unit oid c.known u in
    subst To (sym is) (inr (since, append_assoc c.known.steps (map (pulse_of oid) (steps_of d.up (ticks_meant u))) (steps_said oid d.up us) ∙ said, unset.1))

-- the units of a turn
units_split : (oid turn : ℕ) (c : Course) (u : StepUnit) (us : List StepUnit)
    → course_from oid c (sent_at turn (units_orders (u ∷ us))) ≡ course_from oid (course_from oid c (sent_at turn (unit_orders u))) (sent_at turn (units_orders us))
units_split oid turn c u us =
    ap (course_from oid c) (sent_append turn (unit_orders u) (units_orders us)) ∙ course_append oid c (sent_at turn (unit_orders u)) (sent_at turn (units_orders us))

turn_means : (low : ℕ) (clocks : Clocks) (slots base oid turn from : ℕ) (total : List Pulse) (c : Course) (before rs : List Release) → low ≤ turn → Means low clocks base oid total c (of_stepper oid (units_of rs)) → ArePaced clocks slots from before rs
    → AreFrom turn rs → Means low clocks base oid total (course_from oid c (sent_at turn (units_orders (batch_at turn rs)))) (of_stepper oid (units_of (after_turn turn rs)))
turn_means low clocks slots base oid turn from total c before [] soon m p a = m
turn_means low clocks slots base oid turn from total c before (r ∷ rs) soon m p a =
    let To : Course → Type 0 = λ x. Means low clocks base oid total x (of_stepper oid (units_of (after_turn turn rs))) in
    elim (eqb_tells r.turn turn) [
      | inl e ↦ rw e.0 (elim (eqb_tells r.unit.stepper oid) [
        | inl x ↦
            let one = unit_means low clocks base oid turn total c r.unit (of_stepper oid (units_of rs)) soon x.1 (rw x.0 at m) in
            subst To (sym (units_split oid turn c r.unit (batch_at turn rs)))
            (turn_means low clocks slots base oid turn r.turn total (course_from oid c (sent_at turn (unit_orders r.unit))) (r ∷ before) rs soon one p.1 a.1)
        | inr x ↦
            let same = (other_unit (λ k. k) (λ k. None) slots turn oid c r.unit x.1).1 in
            let rest = turn_means low clocks slots base oid turn r.turn total c (r ∷ before) rs soon (rw x.0 at m) p.1 a.1 in
            subst To (sym (units_split oid turn c r.unit (batch_at turn rs) ∙ ap (λ y. course_from oid y (sent_at turn (units_orders (batch_at turn rs)))) same)) rest
      ])
      | inr e ↦
          let later : turn + 1 ≤ r.turn = omega (arith, e.1, a.0) in
          let none = none_at turn rs (from_down (turn + 1) r.turn rs later (paced_from clocks slots r.turn (r ∷ before) rs p.1)) in
          rw (e.0, none) m
    ]

-- control commands that set no clock
abbrev pub SetsNone : Clocks → List RunSection → ℕ → Type 0
SetsNone clocks ss turn = (clock : ℕ) → SetsClock clocks ss turn clock → ⊥

one_control : (low : ℕ) (clocks : Clocks) (base oid turn : ℕ) (total : List Pulse) (ss : List RunSection) (us : List StepUnit) (c : Course) (m : Cmd) → IsControlIn clocks ss turn m → SetsNone clocks ss turn → Means low clocks base oid total c us
    → Means low clocks base oid total (course_of oid turn c m []) us
one_control low clocks base oid turn total ss us c (cmd.QueueStep other interval count add) i none k = absurd i
one_control low clocks base oid turn total ss us c (cmd.SetNextStepDir other dir) i none k = absurd i
one_control low clocks base oid turn total ss us c (cmd.ResetStepClock other clock) i none k = absurd (none clock i)
one_control low clocks base oid turn total ss us c (cmd.ConfigStepper other step dir invert width) i none k = elim (eqb_tells other oid) [ inl p ↦ rw p.0 k | inr p ↦ rw p.0 k ]
one_control low clocks base oid turn total ss us c m i none k = k

controls_mean : (low : ℕ) (clocks : Clocks) (base oid turn : ℕ) (total : List Pulse) (ss : List RunSection) (us : List StepUnit) (cs : List Cmd) (c : Course) → All (IsControlIn clocks ss turn) cs → SetsNone clocks ss turn
    → Means low clocks base oid total c us → Means low clocks base oid total (course_from oid c (sent_at turn (map plain cs))) us
controls_mean low clocks base oid turn total ss us [] c i none k = k
controls_mean low clocks base oid turn total ss us (m ∷ cs) c i none k =
    let P : Cmd → Type 0 = λ x. IsControlIn clocks ss turn x in
    controls_mean low clocks base oid turn total ss us cs (course_of oid turn c m []) (All-tail P m cs i) none (one_control low clocks base oid turn total ss us c m (All-head P m cs i) none k)

-- turns that bring the units of some releases, and set no clock besides
abbrev pub Brings : Clocks → List RunSection → ℕ → List Release → List Orders → Type 0
Brings clocks ss turn rs [] = Unit {0}
Brings clocks ss turn rs (o ∷ os) = All (IsControlIn clocks ss turn) o.control.commands × SetsNone clocks ss turn × (o.batch.units ≡ batch_at turn rs) × Brings clocks ss (turn + 1) rs os

brings_left : (clocks : Clocks) (ss : List RunSection) (turn k : ℕ) (rs : List Release) (os : List Orders) → k + 1 ≤ turn → Brings clocks ss turn rs os → Brings clocks ss turn (after_turn k rs) os
brings_left clocks ss turn k rs [] h b = tt
brings_left clocks ss turn k rs (o ∷ os) h b =
    (b.0, b.1, b.2 ∙ same_batch turn k rs (λ e. absurd (omega (arith, e, h))), brings_left clocks ss (turn + 1) k rs os (omega (arith, h)) b.3)

-- what is left of releases behind some turns, and what the stepper has made of the others
pub record Left (low : ℕ) (clocks : Clocks) (base oid next : ℕ) (total : List Pulse) (rs : List Release) (c : Course) : Type 0 where
  pub left : List Release
  pub later : AreFrom next left
  pub before : (n : ℕ) → AreBefore n rs → AreBefore n left
  pub means : Means low clocks base oid total c (of_stepper oid (units_of left))

pub turns_mean : (low : ℕ) (clocks : Clocks) (slots base oid : ℕ) (total : List Pulse) (ss : List RunSection) (os : List Orders) (turn from : ℕ) (c : Course) (before rs : List Release) → low ≤ turn → Means low clocks base oid total c (of_stepper oid (units_of rs))
    → ArePaced clocks slots from before rs → AreFrom turn rs → Brings clocks ss turn rs os → Left low clocks base oid (turn + length os) total rs (course_from oid c (sent_in turn os))
turns_mean low clocks slots base oid total ss [] turn from c before rs soon m p a b =
    let e : turn + 0 ≡ turn = omega arith in
    record { left = rs; later = subst (λ (n : ℕ). AreFrom n rs) (sym e) a; before = λ n x. x; means = m }
turns_mean low clocks slots base oid total ss (o ∷ os) turn from c before rs soon m p a b =
    let cs = sent_at turn (map plain o.control.commands) in
    let us = sent_at turn (units_orders (batch_at turn rs)) in
    let rest = sent_in (turn + 1) os in
    let d = course_from oid c cs in
    let one = controls_mean low clocks base oid turn total ss (of_stepper oid (units_of rs)) o.control.commands c b.0 b.1 m in
    let two = turn_means low clocks slots base oid turn from total d before rs soon one p a in
    let on = paced_on clocks slots from turn before rs p in
    let more = turns_mean low clocks slots base oid total ss os (turn + 1) on.0 (course_from oid d us) (pushed turn before rs) (after_turn turn rs) (omega (arith, soon)) two on.1 (after_from clocks slots from turn before rs p a)
    (brings_left clocks ss (turn + 1) turn rs os (omega arith) b.3) in
    let is : course_from oid c (sent_in turn (o ∷ os)) ≡ course_from oid (course_from oid d us) rest =
    ap (course_from oid c) (parts_sent turn o (batch_at turn rs) rest b.2) ∙ course_append oid c (cs ++ us) rest ∙ ap (λ x. course_from oid x rest) (course_append oid c cs us) in
    let e : turn + 1 + length os ≡ turn + length (o ∷ os) = omega arith in
    let later = more.later in
    let means = more.means in
    let left = more.left in
    record {
      left = left;
      later = subst (λ (n : ℕ). AreFrom n left) e later;
      before = λ n x. more.before n (before_down n turn rs x);
      means = subst (λ (x : Course). Means low clocks base oid total x (of_stepper oid (units_of left))) (sym is) means;
    }

-- once all units are released
pub all_mean : (low : ℕ) (clocks : Clocks) (base oid next : ℕ) (total : List Pulse) (rs : List Release) (c : Course) → AreBefore next rs → Left low clocks base oid next total rs c → (total ≡ []) ⊎ (IsSince low c.since × (c.known.steps ≡ total))
all_mean low clocks base oid next total rs c released l =
    let none : l.left ≡ [] = nothing_left next l.left (l.before next released) l.later in
    let At : List Release → Type 0 = λ x. Means low clocks base oid total c (of_stepper oid (units_of x)) in
    elim (subst At none l.means) [
      | inl x ↦ inl (sym x.1)
      | inr x ↦ inr (x.0, sym (append-nil c.known.steps) ∙ x.1)
    ]

-- the turns of a section of moves bring its units alone
none_before : (turn k : ℕ) (rs : List Release) → AreBefore k rs → k ≤ turn → batch_at turn rs ≡ []
none_before turn k [] a h = refl
none_before turn k (r ∷ rs) a h = elim (eqb_tells r.turn turn) [ inl p ↦ absurd (omega (arith, p.1, a.0, h)) | inr p ↦ rw p.0 (none_before turn k rs a.1 h) ]

section_over : (clocks : Clocks) (freq slots until turn : ℕ) (stops : ℕ → Option ℕ) (homes : Bool) (s : BoardSection) → IsSectionBy homes clocks freq slots until stops s → (homes ≡ false → AreBefore (s.end + 5) s.releases)
    → s.end + 6 ≤ turn → batch_at turn s.releases ≡ []
section_over clocks freq slots until turn stops true s i soon h = none_before turn s.end s.releases i.released (omega (arith, h))
section_over clocks freq slots until turn stops false s i soon h = none_before turn (s.end + 5) s.releases (soon refl) (omega (arith, h))

from_start : (f : ℕ) (s : BoardSection) → f + 250 ≡ s.start → AreFrom f s.releases → AreFrom (s.start - 250) s.releases
from_start f s h a = from_down (s.start - 250) f s.releases (omega (arith, h)) a

pub section_from : (clocks : Clocks) (freq slots until : ℕ) (stops : ℕ → Option ℕ) (homes : Bool) (s : BoardSection) → IsSectionBy homes clocks freq slots until stops s → AreFrom (s.start - 250) s.releases
section_from clocks freq slots until stops true s i = from_start i.from s i.exact (paced_from clocks slots i.from [] s.releases i.paced)
section_from clocks freq slots until stops false s i = from_start i.is.from s i.is.exact (paced_from clocks slots i.is.from [] s.releases i.is.paced)

abbrev pub units_at : ℕ → List RunSection → List StepUnit
units_at turn ss = flat_map (λ (x : RunSection). batch_at turn x.section.releases) ss

pub later_none : (clocks : Clocks) (freq slots until turn end : ℕ) (stops : ℕ → Option ℕ) (ss : List RunSection) → All (λ (x : RunSection). IsSectionBy x.homes clocks freq slots until stops x.section) ss → AreInTurn end ss → turn ≤ end + 5
    → units_at turn ss ≡ []
later_none clocks freq slots until turn end stops [] i row h = refl
later_none clocks freq slots until turn end stops (s ∷ ss) i row h =
    let P : RunSection → Type 0 = λ (x : RunSection). IsSectionBy x.homes clocks freq slots until stops x.section in
    let from = section_from clocks freq slots until stops s.homes s.section (All-head P s ss i) in
    let first = none_at turn s.section.releases (from_down (turn + 1) (s.section.start - 250) s.section.releases (omega (arith, row.0, h)) from) in
    ap (λ x. x ++ units_at turn ss) first ∙ later_none clocks freq slots until turn s.section.end stops ss (All-tail P s ss i) row.2 (omega (arith, row.0, row.1, h))

sets_over : (clocks : Clocks) (s : RunSection) (turn clock : ℕ) (later : List RunSection) → s.homes ≡ false → AreInTurn s.section.end later → turn ≤ s.section.end + 5 → SetsClock clocks (s ∷ later) turn clock → ⊥
sets_over clocks s turn clock later moves row h (inl x) = let e : true ≡ false = sym x.0 ∙ moves in cc
sets_over clocks s turn clock later moves row h (inr x) = none_sets clocks s.section.end turn clock later row h x

one_window : (clocks : Clocks) (freq slots until turn e : ℕ) (stops : ℕ → Option ℕ) (past : List RunSection) (s : RunSection) (later : List RunSection) → All (λ (x : RunSection). IsSectionBy x.homes clocks freq slots until stops x.section) (past ++ s ∷ later)
    → AreInTurn e (past ++ s ∷ later) → AreReleasedIn past → s.homes ≡ false → s.section.start ≤ turn + 250 → turn ≤ s.section.end + 5
    → SetsNone clocks (past ++ s ∷ later) turn × (units_at turn (past ++ s ∷ later) ≡ batch_at turn s.section.releases) × (e + 260 ≤ s.section.start)
one_window clocks freq slots until turn e stops [] s later i row out moves soon h =
    let P : RunSection → Type 0 = λ (x : RunSection). IsSectionBy x.homes clocks freq slots until stops x.section in (
      λ clock x. sets_over clocks s turn clock later moves row.2 h x,
      ap (λ x. batch_at turn s.section.releases ++ x) (later_none clocks freq slots until turn s.section.end stops later (All-tail P s later i) row.2 h) ∙ append-nil (batch_at turn s.section.releases),
      row.0,
    )
one_window clocks freq slots until turn e stops (t ∷ past) s later i row out moves soon h =
    let P : RunSection → Type 0 = λ (x : RunSection). IsSectionBy x.homes clocks freq slots until stops x.section in
    let rest = one_window clocks freq slots until turn t.section.end stops past s later (All-tail P t (past ++ s ∷ later) i) row.2 out.1 moves soon h in
    let over = section_over clocks freq slots until turn stops t.homes t.section (All-head P t (past ++ s ∷ later) i) out.0 (omega (arith, rest.2, soon)) in (
      λ clock x. elim x [ inl y ↦ absurd (omega (arith, y.1, y.2, rest.2, soon, row.1)) | inr y ↦ rest.0 clock y ],
      ap (λ x. x ++ units_at turn (past ++ s ∷ later)) over ∙ rest.1,
      omega (arith, rest.2, row.0, row.1),
    )

pub window_brings : (clocks : Clocks) (freq slots until e : ℕ) (stops : ℕ → Option ℕ) (past : List RunSection) (s : RunSection) (later : List RunSection) (os : List Orders) (turn : ℕ)
    → All (λ (x : RunSection). IsSectionBy x.homes clocks freq slots until stops x.section) (past ++ s ∷ later) → AreInTurn e (past ++ s ∷ later) → AreReleasedIn past → s.homes ≡ false → s.section.start ≤ turn + 250 → turn + length os ≤ s.section.end + 6
    → AreOrdersIn clocks (past ++ s ∷ later) turn os → Brings clocks (past ++ s ∷ later) turn s.section.releases os
window_brings clocks freq slots until e stops past s later [] turn i row out moves soon h os = tt
window_brings clocks freq slots until e stops past s later (o ∷ rest) turn i row out moves soon h os =
    let one = one_window clocks freq slots until turn e stops past s later i row out moves soon (omega (arith, h)) in
    (os.0, one.0, os.1 ∙ one.1, window_brings clocks freq slots until e stops past s later rest (turn + 1) i row out moves (omega (arith, soon)) (omega (arith, h)) os.2)

pub orders_behind : (clocks : Clocks) (ss : List RunSection) (turn : ℕ) (xs ys : List Orders) → AreOrdersIn clocks ss turn (xs ++ ys) → AreOrdersIn clocks ss (turn + length xs) ys
orders_behind clocks ss turn [] ys h = let e : turn ≡ turn + 0 = omega arith in subst (λ (n : ℕ). AreOrdersIn clocks ss n ys) e h
orders_behind clocks ss turn (x ∷ xs) ys h =
    let e : turn + 1 + length xs ≡ turn + length (x ∷ xs) = omega arith in
    subst (λ (n : ℕ). AreOrdersIn clocks ss n ys) e (orders_behind clocks ss (turn + 1) xs ys h.2)
