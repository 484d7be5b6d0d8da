-- The sections of a run, of moves or homing, one behind the other: what is queued for a stepper is good, and its parts are those of the sections.
use Rattle.std.proofs.Common.{◌≡◌, ◌≢◌, ℕ, zero, suc, Bool, true, false, ◌+◌, ◌-◌, ◌≤◌, ◌⊎◌, List, [], ◌∷◌, ◌++◌, All, length, map, Option, Some, refl, ap, sym, ◌∙◌, subst, arith, inl, inr, append_assoc, append-nil, ◌<◌, drop, rules}
use Rattle.laws_board.proofs.Names.{eqb_tells, All-nil, All-cons, All-head, All-tail, flat_map, Pulse, Clocks, Cmd, StepUnit, Release, batch_at, AreBefore, BoardSection, section_steps, Orders, plain, units_orders, queued_in}
use Rattle.msg_code.specs.declared.cmd.Cmd.TheVariants as cmd
use Rattle.section_units.specs.Sections.{steps_said}
use Rattle.laws_board.specs.sections.Known.{Sent, sent_in, AreBelow, sent_at}
use Rattle.laws_board.specs.sections.Runs.{Begins}
use Rattle.laws_board.specs.sections.Courses.{Part, Course, course_parts, course_from, IsSince, IsStopped, AreBeforeStop, AreMadeFor, IsGoodOn, AreGoodOn}
use Rattle.laws_board.specs.sections.Courses as course
use Rattle.laws_board.specs.sections.Homes.{RunSection, AreInTurn, IsControlIn, AreOrdersIn, SetsIn, AreSet, SetsAny, HasUnits, AreFrontsIn, AreReleasedIn, AreBeforeFirst}
use Rattle.laws_board.proofs.sections.Stepping.{course_append}
use Rattle.laws_board.proofs.sections.Waiting.{Frame}
use Rattle.laws_board.proofs.sections.Releasing.{AreFrom, pushed, from_down, none_at, after_turn}
use Rattle.laws_board.proofs.sections.HomeUnits.{good_on_append}
use Rattle.laws_board.proofs.sections.HomeTurns.{StageWith, stop_of}
use Rattle.std.specs.Prelude.{nat_lt, slice_index, if◌then◌else◌}
use Rattle.laws_board.proofs.sections.Units.{ahead_of_step, step_sent}

-- what is queued, in two parts: the first unit that comes too late, and those ahead of it
pub record Split : Type 0 where
  pub front : List Sent
  pub tail : List Sent

abbrev pub all_of : List Sent → Split
all_of sent = record { front = sent; tail = [] }

abbrev pub ahead : List Sent → Split → Split
ahead first x = record { front = first ++ x.front; tail = x.tail }

-- a triple comes too late for a stepper
abbrev pub IsLostOf : (ℕ → ℕ) → ℕ → ℕ → Course → Cmd → List ℕ → Type 0
IsLostOf own oid turn c (cmd.QueueStep other interval count add) ticks = other ≡ oid → (slice_index ticks 0 < own turn) × AreBelow (own turn) c.known.ends
IsLostOf own oid turn c _ ticks = ⊥

abbrev pub LostOn : (ℕ → ℕ) → (ℕ → Option ℕ) → ℕ → ℕ → Course → List Sent → Type 0
LostOn own stops slots oid c [] = Unit {0}
LostOn own stops slots oid c (s ∷ ss) = IsGoodOn own stops slots oid s.turn c s.order.command s.order.ticks × IsLostOf own oid s.turn c s.order.command s.order.ticks

-- of a stepper, the first triple that is left of some sections of moves
abbrev pub IsBegunOn : ℕ → ℕ → Option ℕ → Cmd → Type 0
IsBegunOn oid turn since (cmd.QueueStep other interval count add) = other ≡ oid → IsSince turn since
IsBegunOn oid turn since _ = Unit {0}

abbrev pub IsLeftOn : List RunSection → ℕ → Option ℕ → ℕ → Cmd → Type 0
IsLeftOn [] oid since turn c = ⊥
IsLeftOn (s ∷ ss) oid since turn c =
    ((s.homes ≡ false) × (turn ≡ s.section.end + 5) × IsBegunOn oid (s.section.start - 250) since c)
    ⊎ ((s.homes ≡ false → AreBefore (s.section.end + 5) s.section.releases) × IsLeftOn ss oid since turn c)

abbrev pub LeftOn : List RunSection → ℕ → Option ℕ → List Sent → Type 0
LeftOn ss oid since [] = Unit {0}
LeftOn ss oid since (t ∷ tail) = IsLeftOn ss oid since t.turn t.order.command

-- what is queued for a stepper of this course is good, up to one that comes too late, and what is made for its parts then is made for those of
-- a course before, and section by section
pub record Sound (own : ℕ → ℕ) (stops : ℕ → Option ℕ) (slots oid : ℕ) (c0 c : Course) (sent : List Sent) (x : Split) (ss : List RunSection) : Type 0 where
  pub are : x.front ++ x.tail ≡ sent
  pub good : AreGoodOn own stops slots oid c x.front
  pub lost : LostOn own stops slots oid (course_from oid c x.front) x.tail
  pub begun : LeftOn ss oid (course_from oid c x.front).since x.tail
  pub fronts : (ps : List Pulse) → AreMadeFor own stops (course_parts (course_from oid c x.front)) ps
      → (early : List Pulse) × (late : List Pulse) × (ps ≡ early ++ late) × AreMadeFor own stops (course_parts c0) early × AreFrontsIn own oid ss late × AreBeforeFirst own x.tail late
  pub whole : AreReleasedIn ss → x.tail ≡ []

-- what is queued of sections, turn by turn, up to the first unit that is left five turns behind the end of its section
abbrev pub split_over : (ℕ → List Orders → Split) → List Release → ℕ → Orders → List Orders → Split
split_over nx [] turn o os = nx turn (o ∷ os)
split_over nx (r ∷ rs) turn o os = record {
  front = sent_at turn (map plain o.control.commands) ++ ahead_of_step turn r.unit;
  tail = step_sent turn r.unit ∷ (sent_at turn (units_orders (drop 1 o.batch.units)) ++ sent_in (turn + 1) os);
}

abbrev pub split_on : (ℕ → List Orders → Split) → ℕ → List Release → ℕ → List Orders → Split
split_on nx end rs turn [] = all_of []
split_on nx end rs turn (o ∷ os) = if nat_lt (end + 4) turn then split_over nx rs turn o os else ahead (sent_at turn (queued_in o)) (split_on nx end (after_turn turn rs) (turn + 1) os)

abbrev pub split_from : List RunSection → ℕ → List Orders → Split
split_from [] turn os = all_of (sent_in turn os)
split_from (s ∷ ss) turn os = split_on (split_from ss) s.section.end s.section.releases turn os

-- from a run's first turn on, where so many are left until the boards are ready
abbrev pub split_until : List RunSection → ℕ → ℕ → List Orders → Split
split_until ss m turn [] = all_of []
split_until ss zero turn (o ∷ os) = split_from ss turn (o ∷ os)
split_until ss (suc m) turn (o ∷ os) = ahead (sent_at turn (queued_in o)) (split_until ss m (turn + 1) os)

-- good commands ahead of others
pub ahead_sound : (own : ℕ → ℕ) (stops : ℕ → Option ℕ) (slots oid : ℕ) (c0 c d : Course) (first sent : List Sent) (ss : List RunSection) → AreGoodOn own stops slots oid c first → course_from oid c first ≡ d
    → (z : Split) → Sound own stops slots oid c0 d sent z ss → Sound own stops slots oid c0 c (first ++ sent) (ahead first z) ss
ahead_sound own stops slots oid c0 c d first sent ss good is z x = search (rules, course_append, append_assoc, good_on_append)

-- control commands and units, as they are queued turn by turn, of sections whose releases go on
abbrev pub OrdersOn : Clocks → List RunSection → List BoardSection → ℕ → List Orders → Type 0
OrdersOn clocks ctl us turn [] = Unit {0}
OrdersOn clocks ctl us turn (o ∷ os) =
    All (IsControlIn clocks ctl turn) o.control.commands × (o.batch.units ≡ flat_map (λ s. batch_at turn s.releases) us) × OrdersOn clocks ctl us (turn + 1) os

abbrev pub bare : List RunSection → List BoardSection
bare ss = map (λ (s : RunSection). s.section) ss

same_units : (turn : ℕ) (ss : List RunSection) → flat_map (λ (s : RunSection). batch_at turn s.section.releases) ss ≡ flat_map (λ (s : BoardSection). batch_at turn s.releases) (bare ss)
same_units turn [] = refl
same_units turn (s ∷ ss) = ap (λ x. batch_at turn s.section.releases ++ x) (same_units turn ss)

pub orders_on : (clocks : Clocks) (ss : List RunSection) (turn : ℕ) (os : List Orders) → AreOrdersIn clocks ss turn os → OrdersOn clocks ss (bare ss) turn os
orders_on clocks ss turn [] h = tt
orders_on clocks ss turn (o ∷ os) h = (h.0, h.1 ∙ same_units turn ss, orders_on clocks ss (turn + 1) os h.2)

pub orders_as : (clocks : Clocks) (ctl : List RunSection) (us vs : List BoardSection) (turn : ℕ) (os : List Orders) → ((k : ℕ) → turn ≤ k → flat_map (λ s. batch_at k s.releases) us ≡ flat_map (λ s. batch_at k s.releases) vs)
    → OrdersOn clocks ctl us turn os → OrdersOn clocks ctl vs turn os
orders_as clocks ctl us vs turn [] e h = tt
orders_as clocks ctl us vs turn (o ∷ os) e h = (h.0, h.1 ∙ e turn (omega arith), orders_as clocks ctl us vs (turn + 1) os (λ k le. e k (omega (arith, le))) h.2)

-- behind a section its controls are those of the later ones
control_later : (clocks : Clocks) (s : RunSection) (ss : List RunSection) (turn : ℕ) (m : Cmd) → s.section.start ≤ s.section.end → s.section.end ≤ turn → IsControlIn clocks (s ∷ ss) turn m → IsControlIn clocks ss turn m
control_later clocks s ss turn (cmd.QueueStep oid interval count add) order h i = i
control_later clocks s ss turn (cmd.SetNextStepDir oid dir) order h i = i
control_later clocks s ss turn (cmd.ResetStepClock oid clock) order h (inl i) = absurd (omega (arith, i.2, order, h))
control_later clocks s ss turn (cmd.ResetStepClock oid clock) order h (inr i) = i
control_later clocks s ss turn (cmd.ConfigStepper oid step dir invert width) order h i = i
control_later clocks s ss turn m order h i = tt

controls_later : (clocks : Clocks) (s : RunSection) (ss : List RunSection) (turn : ℕ) (cs : List Cmd) → s.section.start ≤ s.section.end → s.section.end ≤ turn → All (IsControlIn clocks (s ∷ ss) turn) cs → All (IsControlIn clocks ss turn) cs
controls_later clocks s ss turn [] order h a = All-nil (IsControlIn clocks ss turn)
controls_later clocks s ss turn (c ∷ cs) order h a =
    All-cons (IsControlIn clocks ss turn) c cs (control_later clocks s ss turn c order h (All-head (IsControlIn clocks (s ∷ ss) turn) c cs a)) (controls_later clocks s ss turn cs order h (All-tail (IsControlIn clocks (s ∷ ss) turn) c cs a))

pub orders_later : (clocks : Clocks) (s : RunSection) (ss : List RunSection) (us : List BoardSection) (turn : ℕ) (os : List Orders) → s.section.start ≤ s.section.end → s.section.end ≤ turn → OrdersOn clocks (s ∷ ss) us turn os → OrdersOn clocks ss us turn os
orders_later clocks s ss us turn [] order h x = tt
orders_later clocks s ss us turn (o ∷ os) order h x = (controls_later clocks s ss turn o.control.commands order h x.0, x.1, orders_later clocks s ss us (turn + 1) os order (omega (arith, h)) x.2)

-- clocks that are set
pub sets_late : (oid : ℕ) (s : BoardSection) (turn : ℕ) (os : List Orders) → SetsIn oid s turn os → turn + 252 ≤ s.start
sets_late oid s turn [] x = absurd x
sets_late oid s turn (o ∷ os) (inl x) = x.1
sets_late oid s turn (o ∷ os) (inr x) = omega (arith, sets_late oid s (turn + 1) os x)

pub set_next : (oid end turn : ℕ) (ss : List RunSection) (o : Orders) (os : List Orders) → AreInTurn end ss → turn ≤ end + 5 → AreSet oid ss turn (o ∷ os) → AreSet oid ss (turn + 1) os
set_next oid end turn [] o os row h x = tt
set_next oid end turn (s ∷ ss) o os row h x = (
  λ homes some long. elim (x.0 homes some (omega (arith, long))) [ inl a ↦ absurd (omega (arith, a.0, row.0, h)) | inr b ↦ b ],
  set_next oid s.section.end turn ss o os row.2 (omega (arith, row.0, row.1, h)) x.1,
)

-- nothing is released before the units of a section
pub none_later : (turn end : ℕ) (ss : List RunSection) → AreInTurn end ss → turn ≤ end + 5 → All (λ (s : RunSection). AreFrom (s.section.start - 250) s.section.releases) ss → flat_map (λ (s : BoardSection). batch_at turn s.releases) (bare ss) ≡ []
none_later turn end [] row h a = refl
none_later turn end (s ∷ ss) row h a =
    let P : RunSection → Type 0 = λ x. AreFrom (x.section.start - 250) x.section.releases in
    let first = none_at turn s.section.releases (from_down (turn + 1) (s.section.start - 250) s.section.releases (omega (arith, row.0, h)) (All-head P s ss a)) in
    ap (λ x. x ++ flat_map (λ (y : BoardSection). batch_at turn y.releases) (bare ss)) first ∙ none_later turn s.section.end ss row.2 (omega (arith, row.0, row.1, h)) (All-tail P s ss a)

pub pushed_none : (k : ℕ) (before rs : List Release) → AreFrom (k + 1) rs → pushed k before rs ≡ before
pushed_none k before [] a = refl
pushed_none k before (r ∷ rs) a = elim (eqb_tells r.turn k) [ inl p ↦ absurd (omega (arith, p.1, a.0)) | inr p ↦ rw p.0 refl ]

-- the releases that are left of a section, as a section
abbrev pub cur : List Release → BoardSection
cur rs = record { start = 0; end = 0; plan = λ _. []; releases = rs }

-- the promise that the clock of a homing section's stepper will be set
abbrev pub Promise : ℕ → Bool → BoardSection → ℕ → List Orders → List StepUnit → Type 0
Promise oid homes s turn os us = homes ≡ true → us ≢ [] → s.start ≤ turn + length os + 250 → SetsIn oid s turn os

-- what later sections make of what is queued behind a section
abbrev pub GoesBehind : (ℕ → ℕ) → Clocks → (ℕ → Option ℕ) → ℕ → ℕ → ℕ → (ℕ → List Orders → Split) → List RunSection → Type 0
GoesBehind own clocks stops slots oid end nx ss =
    (os : List Orders) (turn : ℕ) (c : Course) → turn ≤ end + 6 → ((n : ℕ) → end + 6 ≤ n → IsStopped stops n c.since ⊎ AreBelow (own n) c.known.ends) → (HasUnits oid ss ⊎ SetsAny oid os → c.known.made ≡ true)
    → OrdersOn clocks ss (bare ss) turn os → AreSet oid ss turn os → Sound own stops slots oid c c (sent_in turn os) (nx turn os) ss

-- none is made in later sections
pub no_fronts : (own : ℕ → ℕ) (oid : ℕ) (ss : List RunSection) → AreFrontsIn own oid ss []
no_fronts own oid [] = refl
no_fronts own oid (s ∷ ss) = ([], [], refl, (section_steps oid s.section, refl), tt, no_fronts own oid ss)

-- the pulses that are made for the present part of a stepper's steps
abbrev pub EndsBy : (ℕ → ℕ) → (ℕ → Option ℕ) → ℕ → Bool → BoardSection → Type 0
EndsBy own stops oid homes s = (since : ℕ) (late : List Pulse) → stops since ≡ stop_of homes s → Begins late (section_steps oid s) → AreBeforeStop own stops (Some since) late → course.AreBefore (own (s.end + 5)) late

-- a section so far
pub stage_fronts : (f : Frame) (stops : ℕ → Option ℕ) (oid : ℕ) (homes : Bool) (s : BoardSection) (later : List RunSection) (c0 c : Course) (ls : List ℕ) (us : List StepUnit) (Q : List StepUnit → Type 0) → EndsBy f.own stops oid homes s
    → StageWith f stops oid homes s c0 Q c ls us → (ps : List Pulse) → AreMadeFor f.own stops (course_parts c) ps
    → (early : List Pulse) × (late : List Pulse) × (ps ≡ early ++ late) × AreMadeFor f.own stops (course_parts c0) early
    × ((first : List Pulse) × (late ≡ first ++ []) × Begins first (section_steps oid s) × course.AreBefore (f.own (s.end + 5)) first)
stage_fronts f stops oid homes s later c0 c ls us Q ends (inl n) ps k =
    let At : List Part → Type 0 = λ x. AreMadeFor f.own stops x ps in
    (ps, [], sym (append-nil ps), subst At n.0.same k, ([], refl, (section_steps oid s, refl), tt))
stage_fronts f stops oid homes s later c0 c ls us Q ends (inr g) ps (early, late, is, old, begins, before) =
    let Before : Option ℕ → Type 0 = λ x. AreBeforeStop f.own stops x late in
    let said = steps_said oid c.known.up us in
    let front : Begins late (section_steps oid s) = (begins.0 ++ said, sym (append_assoc late begins.0 said) ∙ ap (λ x. x ++ said) begins.1 ∙ g.goes.said) in
    (early, late, is, g.past early old, (late, sym (append-nil late), front, ends g.turn late g.stop front (subst Before g.since before)))
