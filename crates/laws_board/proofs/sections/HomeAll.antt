-- All sections of a run, of moves or homing, from its first turn on.
use Rattle.std.proofs.Common.{◌≡◌, ℕ, ℤ, zero, suc, Bool, true, false, ◌+◌, ◌-◌, ◌*◌, ◌≤◌, ◌⊎◌, List, [], ◌∷◌, ◌++◌, All, length, map, take, Option, None, refl, ap, sym, ◌∙◌, subst, arith, inl, inr, append-nil}
use Rattle.laws_board.proofs.Names.{eqb_tells, All-nil, All-cons, All-head, All-tail, Pulse, turn_ns, Clocks, lines_tick, Cmd, plain, units_orders, units_of, BoardSection, base_of, of_stepper, section_steps, Orders, queued_in}
use Rattle.msg_code.specs.declared.cmd.Cmd.TheVariants as cmd
use Rattle.laws_board.specs.sections.Events.{AreTicks}
use Rattle.laws_board.specs.sections.Known.{Sent, sent_at, sent_in, AreBelow, IsLostFor}
use Rattle.laws_board.specs.sections.Parts.{AreTracked, IsMaking, Makes, MakesIn}
use Rattle.laws_board.specs.sections.Courses.{Course, course_parts, no_course, course_of, course_from, courses, AreBeforeTurn, AreMadeFor, IsGoodOn, AreGoodOn, BeginLostOn}
use Rattle.laws_board.specs.sections.Courses as course
use Rattle.laws_board.specs.sections.Homes.{RunSection, IsMovesIn, IsSectionBy, AreInTurn, SetsClock, IsControlIn, AreSet, SetsAny, HasUnits, IsHomeRun, AreFrontsIn, AreBeforeFirst, AreReleasedBy, AreReleasedIn, BeginLeftOf, IsLeftOf, IsSplitIn}
use Rattle.laws_board.proofs.sections.Clocks.{ticks_rise}
use Rattle.laws_board.proofs.sections.Entering.{AreEarly, all_inside, begun_inside, early_fits}
use Rattle.laws_board.proofs.sections.Spans.{section_early}
use Rattle.laws_board.proofs.sections.Waiting.{Frame}
use Rattle.laws_board.proofs.sections.Releasing.{AreFrom, from_down, paced_from}
use Rattle.laws_board.proofs.sections.HomeTurns.{StageWith, empty_part}
use Rattle.laws_board.proofs.sections.HomeControls.{now_of, none_sets}
use Rattle.laws_board.proofs.sections.HomeSections.{Sound, OrdersOn, bare, ahead_sound, orders_on, Promise, GoesBehind, EndsBy, no_fronts, none_later, set_next, Split, ahead, split_from, split_until, IsLeftOn, IsLostOf, LeftOn, LostOn}
use Rattle.laws_board.proofs.sections.HomeCut.{until_out}
use Rattle.laws_board.proofs.sections.HomeRuns.{Ground, section_on}
use Rattle.laws_board.proofs.sections.Lists.{sent_append}

-- control commands alone, of which none sets a clock
abbrev SetsNone : Clocks → List RunSection → ℕ → Type 0
SetsNone clocks ss turn = (clock : ℕ) → SetsClock clocks ss turn clock → ⊥

one_free : (own : ℕ → ℕ) (stops : ℕ → Option ℕ) (slots oid turn : ℕ) (clocks : Clocks) (ss : List RunSection) (c : Course) (m : Cmd) → IsControlIn clocks ss turn m → SetsNone clocks ss turn
    → IsGoodOn own stops slots oid turn c m [] × ((made : Bool) × (course_of oid turn c m [] ≡ record c { known = record c.known { made = made } }) × (c.known.made ≡ true → made ≡ true) × (IsMaking oid m → made ≡ true))
one_free own stops slots oid turn clocks ss c (cmd.QueueStep other interval count add) i none = absurd i
one_free own stops slots oid turn clocks ss c (cmd.SetNextStepDir other dir) i none = absurd i
one_free own stops slots oid turn clocks ss c (cmd.ResetStepClock other clock) i none = absurd (none clock i)
one_free own stops slots oid turn clocks ss c (cmd.ConfigStepper other step dir invert width) i none =
    elim (eqb_tells other oid) [
      | inl p ↦ rw p.0 (i, (true, refl, (λ e. refl), (λ e. refl)))
      | inr p ↦ rw p.0 (i, (c.known.made, refl, (λ e. e), (λ e. absurd (p.1 e))))
    ]
one_free own stops slots oid turn clocks ss c m i none = (tt, (c.known.made, refl, (λ e. e), (λ e. absurd e)))

abbrev Free : (ℕ → ℕ) → (ℕ → Option ℕ) → ℕ → ℕ → ℕ → Course → List Cmd → Type 0
Free own stops slots oid turn c cs =
    let sent = sent_at turn (map plain cs) in
    AreGoodOn own stops slots oid c sent
    × ((made : Bool) × (course_from oid c sent ≡ record c { known = record c.known { made = made } }) × (c.known.made ≡ true → made ≡ true) × (Makes oid cs → made ≡ true))

all_free : (own : ℕ → ℕ) (stops : ℕ → Option ℕ) (slots oid turn : ℕ) (clocks : Clocks) (ss : List RunSection) (cs : List Cmd) (c : Course) → All (IsControlIn clocks ss turn) cs → SetsNone clocks ss turn → Free own stops slots oid turn c cs
all_free own stops slots oid turn clocks ss [] c i none = (tt, (c.known.made, refl, (λ e. e), (λ e. absurd e)))
all_free own stops slots oid turn clocks ss (m ∷ cs) c i none =
    let P : Cmd → Type 0 = λ x. IsControlIn clocks ss turn x in
    let (good, one) = one_free own stops slots oid turn clocks ss c m (All-head P m cs i) none in
    let (a, is, keeps, makes) = one in
    let d : Course = record c { known = record c.known { made = a } } in
    let (fine, rest) = all_free own stops slots oid turn clocks ss cs d (All-tail P m cs i) none in
    let (b, are, keep, make) = rest in
    let others = sent_at turn (map plain cs) in
    let At : Course → Type 0 = λ x. AreGoodOn own stops slots oid x others in (
      (good, subst At (sym is) fine),
      (b, ap (λ x. course_from oid x others) is ∙ are, (λ e. keep (keeps e)), (λ e. elim e [ inl x ↦ keep (makes x) | inr x ↦ make x ])),
    )

-- what is queued in a turn of controls alone
free_turn : (own : ℕ → ℕ) (stops : ℕ → Option ℕ) (slots oid turn : ℕ) (c0 c : Course) (o : Orders) (os : List Orders) (z : Split) (ss : List RunSection) → o.batch.units ≡ [] → Free own stops slots oid turn c o.control.commands
    → Sound own stops slots oid c0 (course_from oid c (sent_at turn (map plain o.control.commands))) (sent_in (turn + 1) os) z ss → Sound own stops slots oid c0 c (sent_in turn (o ∷ os)) (ahead (sent_at turn (queued_in o)) z) ss
free_turn own stops slots oid turn c0 c o os z ss none free x =
    let cs = sent_at turn (map plain o.control.commands) in
    let At : List Sent → Type 0 = λ y. Sound own stops slots oid c0 c (y ++ sent_in (turn + 1) os) (ahead y z) ss in
    let now : sent_at turn (queued_in o) ≡ cs = sent_append turn (map plain o.control.commands) (units_orders o.batch.units) ∙ ap (λ y. cs ++ sent_at turn (units_orders y)) none ∙ append-nil cs in
    subst At (sym now) (ahead_sound own stops slots oid c0 c (course_from oid c cs) cs (sent_in (turn + 1) os) ss free.0 refl z x)

-- the same course, but for whether the stepper is made
same_sound : (own : ℕ → ℕ) (stops : ℕ → Option ℕ) (slots oid : ℕ) (c d : Course) (sent : List Sent) (z : Split) (ss : List RunSection) (made : Bool) → d ≡ record c { known = record c.known { made = made } } → Sound own stops slots oid d d sent z ss
    → Sound own stops slots oid c d sent z ss
same_sound own stops slots oid c d sent z ss made is x = record {
  are = x.are;
  good = x.good;
  lost = x.lost;
  begun = x.begun;
  fronts = λ ps k.
      let (early, late, are, old, rest, soon) = x.fronts ps k in
      let At : Course → Type 0 = λ y. AreMadeFor own stops (course_parts y) early in
      (early, late, are, subst At is old, rest, soon);
  whole = x.whole;
}

no_set : (clocks : Clocks) (turn clock : ℕ) → SetsClock clocks [] turn clock → ⊥
no_set clocks turn clock x = x

-- without sections
controls_alone : (own : ℕ → ℕ) (clocks : Clocks) (stops : ℕ → Option ℕ) (slots oid : ℕ) (os : List Orders) (turn : ℕ) (c : Course) → OrdersOn clocks [] [] turn os → Sound own stops slots oid c c (sent_in turn os) (split_from [] turn os) []
controls_alone own clocks stops slots oid [] turn c h = record { are = refl; good = tt; lost = tt; begun = tt; fronts = λ ps k. (ps, [], sym (append-nil ps), k, refl, tt); whole = λ w. refl }
controls_alone own clocks stops slots oid (o ∷ os) turn c h =
    let free = all_free own stops slots oid turn clocks [] o.control.commands c h.0 (no_set clocks turn) in
    let (good, made, is, keeps, makes) = flat free in
    let d = course_from oid c (sent_at turn (map plain o.control.commands)) in
    free_turn own stops slots oid turn c c o os (split_from [] (turn + 1) os) [] h.1 free
    (same_sound own stops slots oid c d (sent_in (turn + 1) os) (split_from [] (turn + 1) os) [] made is (controls_alone own clocks stops slots oid os (turn + 1) d h.2))
  where
    flat : Free own stops slots oid turn c o.control.commands → AreGoodOn own stops slots oid c (sent_at turn (map plain o.control.commands)) × (made : Bool)
        × (course_from oid c (sent_at turn (map plain o.control.commands)) ≡ record c { known = record c.known { made = made } }) × (c.known.made ≡ true → made ≡ true) × (Makes oid o.control.commands → made ≡ true)
    flat x = (x.0, x.1.0, x.1.1, x.1.2, x.1.3)

-- pulses before a tick
early_before : (x : ℕ) (ps : List Pulse) → AreEarly x ps → course.AreBefore x ps
early_before x [] a = tt
early_before x (p ∷ ps) a = (a.0, early_before x ps a.1)

before_more : (x y : ℕ) (ps : List Pulse) → x ≤ y → course.AreBefore x ps → course.AreBefore y ps
before_more x y [] h a = tt
before_more x y (p ∷ ps) h a = (omega (arith, a.0, h), before_more x y ps h a.1)

before_front : (x : ℕ) (ps qs : List Pulse) → course.AreBefore x (ps ++ qs) → course.AreBefore x ps
before_front x [] qs a = tt
before_front x (p ∷ ps) qs a = (a.0, before_front x ps qs a.1)

-- what a section is built on
pub record Base : Type 0 where
  pub own : ℕ → ℕ
  pub clocks : Clocks
  pub freq : ℕ
  pub slots : ℕ
  pub ready : ℕ
  pub stops : ℕ → Option ℕ
  pub ticks : AreTicks own
  pub tracked : AreTracked own clocks ready

abbrev pub SectionIn : Base → RunSection → Type 0
SectionIn x s = IsSectionBy s.homes x.clocks x.freq x.slots x.tracked.until x.stops s.section

from_start : (f : ℕ) (s : BoardSection) → f + 250 ≡ s.start → AreFrom f s.releases → AreFrom (s.start - 250) s.releases
from_start f s h a = from_down (s.start - 250) f s.releases (omega (arith, h)) a

released_from : (x : Base) (homes : Bool) (s : BoardSection) → IsSectionBy homes x.clocks x.freq x.slots x.tracked.until x.stops s → AreFrom (s.start - 250) s.releases
released_from x true s i = from_start i.from s i.exact (paced_from x.clocks x.slots i.from [] s.releases i.paced)
released_from x false s i = from_start i.is.from s i.is.exact (paced_from x.clocks x.slots i.is.from [] s.releases i.is.paced)

laters_from : (x : Base) (ss : List RunSection) → All (SectionIn x) ss → All (λ (s : RunSection). AreFrom (s.section.start - 250) s.section.releases) ss
laters_from x [] a = All-nil (λ (s : RunSection). AreFrom (s.section.start - 250) s.section.releases)
laters_from x (s ∷ ss) a =
    let P : RunSection → Type 0 = λ y. AreFrom (y.section.start - 250) y.section.releases in
    All-cons P s ss (released_from x s.homes s.section (All-head (SectionIn x) s ss a)) (laters_from x ss (All-tail (SectionIn x) s ss a))

-- the goods of a section of moves, and of a homing one
moves_end : (x : Base) (oid : ℕ) (s : BoardSection) → x.ready ≤ s.end → IsMovesIn x.clocks x.freq x.slots x.tracked.until x.stops s → EndsBy x.own x.stops oid false s
moves_end x oid s low i since late stop begins before =
    let all = early_before (x.own (s.end + 5)) (section_steps oid s) (section_early x.own x.clocks x.freq x.slots x.ready (s.end + 5) oid s x.ticks x.tracked i.is low i.limit (omega arith)) in
    let At : List Pulse → Type 0 = λ y. course.AreBefore (x.own (s.end + 5)) y in
    before_front (x.own (s.end + 5)) late begins.0 (subst At (sym begins.1) all)

homing_end : (x : Base) (oid : ℕ) (s : BoardSection) → EndsBy x.own x.stops oid true s
homing_end x oid s since late stop begins before =
    let At : Option ℕ → Type 0 = λ o. AreBeforeTurn x.own o late in
    before_more (x.own s.end) (x.own (s.end + 5)) late (ticks_rise x.own x.ticks s.end (s.end + 5) (omega arith)) (subst At stop before)

-- the sections from one on
abbrev RestOf : Base → ℕ → ℕ → List RunSection → Type 0
RestOf x oid end ss = GoesBehind x.own x.clocks x.stops x.slots oid end (split_from ss) ss

with_section : (x : Base) (oid e : ℕ) (homes : Bool) (s : BoardSection) (ss : List RunSection) → x.ready ≤ e → IsSectionBy homes x.clocks x.freq x.slots x.tracked.until x.stops s → All (SectionIn x) ss → e + 260 ≤ s.start → s.start ≤ s.end
    → AreInTurn s.end ss → RestOf x oid s.end ss → RestOf x oid e (now_of homes s ∷ ss)
with_section x oid e true s ss low i rest after order row next = λ os turn c within idle made orders set.
    let f : Frame = record { own = x.own; clocks = x.clocks; slots = x.slots; ready = x.ready; start = s.start; end = i.last; ticks = x.ticks; tracked = x.tracked; after = omega (arith, low, after); order = i.order; limit = i.limit } in
    let us = of_stepper oid (units_of s.releases) in
    let early = λ (k : ℕ). early_fits x.freq (lines_tick x.clocks ((i.last + 1) * turn_ns)) (base_of x.clocks s) (section_steps k s) (s.plan k) (i.fits k) (i.within k) in
    let inside = all_inside f s.releases (λ k. begun_inside f true k false (of_stepper k (units_of s.releases)) (i.begun k) (early k)) in
    let g : Ground f x.stops oid true s (split_from ss) ss = record {
      start_is = refl;
      end_is = λ e. absurd (clash e);
      order = order;
      row = row;
      goes_on = λ e. absurd (clash e);
      stop = λ _ turn h k. i.stop turn h k;
      ends = homing_end x oid s;
      laters = laters_from x ss rest;
      next = next;
    } in
    let stage : StageWith f x.stops oid true s c (Promise oid true s turn os) c [] us =
    inl (record { none = refl; units = i.begun oid; all = refl; idle = λ n h. idle n (omega (arith, h, after)); same = refl; made = λ some. made (inl (inl some)) }, λ h some long. set.0 h some long) in
    section_on f x.stops oid true s (split_from ss) ss g os turn i.from c c [] s.releases (omega (arith, i.exact)) stage i.paced tt inside
    (from_down turn i.from s.releases (omega (arith, i.exact, within, after)) (paced_from x.clocks x.slots i.from [] s.releases i.paced)) (λ h. refl) (λ _. i.released) tt (inl (omega (arith, i.exact, i.order)))
    (omega (arith, within, after, order)) (λ w. made (elim w [ inl a ↦ inl (inr a) | inr a ↦ inr a ])) orders set.1 (λ w. w) (λ w. w)
  where
    clash : true ≡ false → ⊥
    clash e = cc
with_section x oid e false s ss low i rest after order row next = λ os turn c within idle made orders set.
    let f : Frame = record { own = x.own; clocks = x.clocks; slots = x.slots; ready = x.ready; start = s.start; end = s.end; ticks = x.ticks; tracked = x.tracked; after = omega (arith, low, after); order = order; limit = i.limit } in
    let us = of_stepper oid (units_of s.releases) in
    let early = λ (k : ℕ). early_fits x.freq (lines_tick x.clocks ((s.end + 1) * turn_ns)) (base_of x.clocks s) (section_steps k s) (s.plan k) (i.is.fits k) (i.is.within k) in
    let inside = all_inside f s.releases (λ k. begun_inside f false k false (of_stepper k (units_of s.releases)) (i.is.begun k) (early k)) in
    let g : Ground f x.stops oid false s (split_from ss) ss = record {
      start_is = refl;
      end_is = λ _. refl;
      order = order;
      row = row;
      goes_on = λ _ turn h k. i.goes_on turn h k;
      stop = λ e. absurd (clash e);
      ends = moves_end x oid s (omega (arith, low, after, order)) i;
      laters = laters_from x ss rest;
      next = next;
    } in
    let stage : StageWith f x.stops oid false s c (Promise oid false s turn os) c [] us =
    inl (record { none = refl; units = i.is.begun oid; all = refl; idle = λ n h. idle n (omega (arith, h, after)); same = refl; made = λ some. made (inl (inl some)) }, λ h. absurd (clash h)) in
    section_on f x.stops oid false s (split_from ss) ss g os turn i.is.from c c [] s.releases (omega (arith, i.is.exact)) stage i.is.paced tt inside
    (from_down turn i.is.from s.releases (omega (arith, i.is.exact, within, after)) (paced_from x.clocks x.slots i.is.from [] s.releases i.is.paced)) (λ h. refl) (λ e. absurd (clash e)) tt (inl (omega (arith, i.is.exact, order)))
    (omega (arith, within, after, order)) (λ w. made (elim w [ inl a ↦ inl (inr a) | inr a ↦ inr a ])) orders set.1 (λ w. w) (λ w. w)
  where
    clash : false ≡ true → ⊥
    clash e = cc

pub sections_sound : (x : Base) (oid : ℕ) (ss : List RunSection) (e : ℕ) → x.ready ≤ e → All (SectionIn x) ss → AreInTurn e ss → RestOf x oid e ss
sections_sound x oid [] e low i row = λ os turn c within idle made orders set. controls_alone x.own x.clocks x.stops x.slots oid os turn c orders
sections_sound x oid (s ∷ ss) e low i row =
    with_section x oid e s.homes s.section ss low (All-head (SectionIn x) s ss i) (All-tail (SectionIn x) s ss i) row.0 row.1 row.2
    (sections_sound x oid ss s.section.end (omega (arith, low, row.0, row.1)) (All-tail (SectionIn x) s ss i) row.2)

-- a stepper is made by now, or will be
abbrev MadeBy : ℕ → Course → ℕ → List Orders → Type 0
MadeBy oid c m os = (c.known.made ≡ true) ⊎ MakesIn oid (take m os)

made_now : (oid : ℕ) (c : Course) (os : List Orders) → MadeBy oid c 0 os → c.known.made ≡ true
made_now oid c os (inl e) = e
made_now oid c os (inr e) = absurd e

-- until the boards are ready only control commands are queued, and no clock is set
until_sound : (x : Base) (oid : ℕ) (ss : List RunSection) → All (SectionIn x) ss → AreInTurn x.ready ss → (m : ℕ) (os : List Orders) (turn : ℕ) (c : Course) → turn + m ≡ x.ready → c.known.ends ≡ []
    → (m ≤ length os → HasUnits oid ss ⊎ SetsAny oid os → MadeBy oid c m os) → OrdersOn x.clocks ss (bare ss) turn os → AreSet oid ss turn os → Sound x.own x.stops x.slots oid c c (sent_in turn os) (split_until ss m turn os) ss
until_sound x oid ss i row m [] turn c at ends made orders set = record { are = refl; good = tt; lost = tt; begun = tt; fronts = λ ps k. (ps, [], sym (append-nil ps), k, no_fronts x.own oid ss, tt); whole = λ w. refl }
until_sound x oid ss i row zero (o ∷ os) turn c at ends made orders set =
    let Ends : ℕ → List ℕ → Type 0 = λ n y. AreBelow (x.own n) y in
    sections_sound x oid ss x.ready (omega arith) i row (o ∷ os) turn c (omega (arith, at)) (λ n h. inr (subst (Ends n) (sym ends) tt)) (λ w. made_now oid c (o ∷ os) (made (omega arith) w)) orders set
until_sound x oid ss i row (suc m) (o ∷ os) turn c at ends made orders set =
    let soon : turn ≤ x.ready + 5 = omega (arith, at) in
    let none : SetsNone x.clocks ss turn = λ clock y. none_sets x.clocks x.ready turn clock ss row soon y in
    let free = all_free x.own x.stops x.slots oid turn x.clocks ss o.control.commands c orders.0 none in
    let d = course_from oid c (sent_at turn (map plain o.control.commands)) in
    let units : o.batch.units ≡ [] = orders.1 ∙ none_later turn x.ready ss row soon (laters_from x ss i) in
    free_turn x.own x.stops x.slots oid turn c c o os (split_until ss m (turn + 1) os) ss units free
    (same_sound x.own x.stops x.slots oid c d (sent_in (turn + 1) os) (split_until ss m (turn + 1) os) ss free.1.0 free.1.1
    (until_sound x oid ss i row m os (turn + 1) d (omega (arith, at)) (ap (λ (y : Course). y.known.ends) free.1.1 ∙ ends)
    (λ long w. next (made (omega (arith, long)) (elim w [ inl a ↦ inl a | inr a ↦ inr (inr a) ])) free.1.1 free.1.2 free.1.3)
    orders.2 (set_next oid x.ready turn ss o os row soon set)))
  where
    next : {made : Bool} → MadeBy oid c (suc m) (o ∷ os) → course_from oid c (sent_at turn (map plain o.control.commands)) ≡ record c { known = record c.known { made = made } } → (c.known.made ≡ true → made ≡ true)
        → (Makes oid o.control.commands → made ≡ true) → MadeBy oid (course_from oid c (sent_at turn (map plain o.control.commands))) m os
    next {made} (inl e) is keeps makes = inl (ap (λ (y : Course). y.known.made) is ∙ keeps e)
    next {made} (inr (inl e)) is keeps makes = inl (ap (λ (y : Course). y.known.made) is ∙ makes e)
    next {made} (inr (inr e)) is keeps makes = inr e

-- a whole run
run_sound : (own : ℕ → ℕ) (clocks : Clocks) (freq slots ready : ℕ) (stops : ℕ → Option ℕ) (ss : List RunSection) (os : List Orders) → AreTicks own → IsHomeRun own clocks freq slots ready stops ss os → (oid : ℕ)
    → Sound own stops slots oid no_course no_course (sent_in 0 os) (split_until ss ready 0 os) ss
run_sound own clocks freq slots ready stops ss os ticks r oid =
    let x : Base = record { own = own; clocks = clocks; freq = freq; slots = slots; ready = ready; stops = stops; ticks = ticks; tracked = r.tracked } in
    until_sound x oid ss r.sections r.row ready os 0 no_course (omega arith) refl (λ long w. inr (r.made long oid w)) (orders_on clocks ss 0 os r.orders) (r.set oid)

-- what is late for its stepper
lost_of : (own : ℕ → ℕ) (turn : ℕ) (cs : ℕ → Course) (c : Cmd) (ticks : List ℕ) → ((oid : ℕ) → IsLostOf own oid turn (cs oid) c ticks) → IsLostFor own turn (λ oid. (cs oid).known) c ticks
lost_of own turn cs (cmd.QueueStep other interval count add) ticks h = h other refl
lost_of own turn cs _ ticks h = absurd (h 0)

begin_lost : (own : ℕ → ℕ) (stops : ℕ → Option ℕ) (slots : ℕ) (cs : ℕ → Course) (tail : List Sent) → ((oid : ℕ) → LostOn own stops slots oid (cs oid) tail) → BeginLostOn own stops slots cs tail
begin_lost own stops slots cs [] h = tt
begin_lost own stops slots cs (s ∷ tail) h = (λ oid. (h oid).0, lost_of own s.turn cs s.order.command s.order.ticks (λ oid. (h oid).1))

-- and left of a section of moves
left_of : (ss : List RunSection) (cs : ℕ → Course) (turn other interval count : ℕ) (add : ℤ) → IsLeftOn ss other (cs other).since turn (cmd.QueueStep other interval count add) → IsLeftOf ss cs turn (cmd.QueueStep other interval count add)
left_of [] cs turn other interval count add x = x
left_of (s ∷ ss) cs turn other interval count add (inl x) = inl (x.0, x.1, x.2 refl)
left_of (s ∷ ss) cs turn other interval count add (inr x) = inr (x.0, left_of ss cs turn other interval count add x.1)

left_for : (own : ℕ → ℕ) (ss : List RunSection) (turn : ℕ) (cs : ℕ → Course) (c : Cmd) (ticks : List ℕ) → ((oid : ℕ) → IsLostOf own oid turn (cs oid) c ticks) → ((oid : ℕ) → IsLeftOn ss oid (cs oid).since turn c) → IsLeftOf ss cs turn c
left_for own ss turn cs (cmd.QueueStep other interval count add) ticks lost h = left_of ss cs turn other interval count add (h other)
left_for own ss turn cs _ ticks lost h = absurd (lost 0)

begin_left : (own : ℕ → ℕ) (stops : ℕ → Option ℕ) (slots turns : ℕ) (ss : List RunSection) (cs : ℕ → Course) (tail : List Sent) → ((oid : ℕ) → LostOn own stops slots oid (cs oid) tail) → ((oid : ℕ) → LeftOn ss oid (cs oid).since tail)
    → (tail ≡ [] → AreReleasedBy turns ss) → BeginLeftOf turns ss cs tail
begin_left own stops slots turns ss cs [] lost h out = out refl
begin_left own stops slots turns ss cs (s ∷ tail) lost h out = left_for own ss s.turn cs s.order.command s.order.ticks (λ oid. (lost oid).1) h

pub run_split : (own : ℕ → ℕ) (clocks : Clocks) (freq slots ready : ℕ) (stops : ℕ → Option ℕ) (ss : List RunSection) (os : List Orders) → AreTicks own → IsHomeRun own clocks freq slots ready stops ss os → IsSplitIn own stops slots ss os
run_split own clocks freq slots ready stops ss os ticks r =
    let z = split_until ss ready 0 os in
    let last = length os in
    let x = λ (oid : ℕ). run_sound own clocks freq slots ready stops ss os ticks r oid in
    let begun = begin_left own stops slots last ss (courses z.front) z.tail (λ oid. (x oid).lost) (λ oid. (x oid).begun) (until_out last ss ready r.row ready os 0 (omega arith) (omega arith)) in
    let Fronts : ℕ → List Pulse → Type 0 = λ oid y. AreFrontsIn own oid ss y × AreBeforeFirst own z.tail y in
    let fronts_of : (oid : ℕ) (ps : List Pulse) → AreMadeFor own stops (course_parts (courses z.front oid)) ps → Fronts oid ps = λ oid ps k.
    (let (early, late, is, old, rest, soon) = (x oid).fronts ps k in
    let none : early ≡ [] = empty_part own stops None [] [] early refl old in
    subst (Fronts oid) (sym (is ∙ ap (λ y. y ++ late) none)) (rest, soon)) in
    record {
      front = z.front;
      tail = z.tail;
      are = (x 0).are;
      good = λ oid. (x oid).good;
      lost = begin_lost own stops slots (courses z.front) z.tail (λ oid. (x oid).lost);
      begun = begun;
      fronts = λ oid ps k. (fronts_of oid ps k).0;
      early = λ oid ps k. (fronts_of oid ps k).1;
      whole = (x 0).whole;
    }

-- where all units are released soon, all that is queued is good
all_front : (own : ℕ → ℕ) (stops : ℕ → Option ℕ) (slots : ℕ) (ss : List RunSection) (os : List Orders) (x : IsSplitIn own stops slots ss os) → AreReleasedIn ss → x.front ≡ sent_in 0 os
all_front own stops slots ss os x w = sym (append-nil x.front) ∙ ap (λ y. x.front ++ y) (sym (x.whole w)) ∙ x.are

pub run_fronts : (own : ℕ → ℕ) (clocks : Clocks) (freq slots ready : ℕ) (stops : ℕ → Option ℕ) (ss : List RunSection) (os : List Orders) → AreTicks own → IsHomeRun own clocks freq slots ready stops ss os → AreReleasedIn ss
    → (oid : ℕ) (ps : List Pulse) → AreMadeFor own stops (course_parts (courses (sent_in 0 os) oid)) ps → AreFrontsIn own oid ss ps
run_fronts own clocks freq slots ready stops ss os ticks r w oid ps k =
    let x = run_split own clocks freq slots ready stops ss os ticks r in
    let At : List Sent → Type 0 = λ y. AreMadeFor own stops (course_parts (courses y oid)) ps in
    x.fronts oid ps (subst At (sym (all_front own stops slots ss os x w)) k)
