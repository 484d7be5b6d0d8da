-- A section begins: its units wait, and all are inside of it.
use Rattle.std.proofs.Common.{◌≡◌, ◌≢◌, ℕ, Bool, true, false, ◌+◌, ◌*◌, ◌<◌, ◌≤◌, List, [], ◌∷◌, ◌++◌, length, map, All, Option, Some, None, refl, ap, sym, subst, arith, inl, inr, append_assoc, append-nil}
use Rattle.laws_board.proofs.Names.{eqb_tells, All-head, All-tail, Pulse, Planned, turn_ns, Clocks, lines_tick, Fits, StepUnit, Release, units_of, AreBefore, BoardSection, base_of, of_stepper, section_steps, cons_same}
use Rattle.std.specs.Prelude.{slice_index}
use Rattle.plan_types.specs.Board.{last_of, steps_of, TicksRise}
use Rattle.plan_types.specs.Plan.{pulse_of}
use Rattle.board_sim.proofs.Steps.{rise_up}
use Rattle.laws_board.specs.sections.Events.{AreTicks}
use Rattle.laws_board.specs.sections.Known.{Sent, sent_in, Known, known_from, AreBelow}
use Rattle.section_units.specs.Sections.{AreBegun, AreBegunBy, AreChained, AreReleased, IsSection, IsUnit, all_steps, dir_after, steps_said, ticks_meant}
use Rattle.laws_board.specs.sections.Parts.{AreTracked, AreInARow}
use Rattle.laws_board.proofs.sections.Counts.{last_least}
use Rattle.laws_board.proofs.sections.Taking.{IsFront, all_grow}
use Rattle.laws_board.proofs.sections.Waiting.{Frame, base, IsInside, AreInside}
use Rattle.laws_board.proofs.sections.Sectioning.{cur, orders_as, HeadLater, section_from, AtCut, Splits, Stands}
use Rattle.laws_board.proofs.sections.Spreading.{GoesOn, section_run}
use Rattle.section_units.proofs.Ordering.{ends_up}

-- pulses before a tick
abbrev pub AreEarly : ℕ → List Pulse → Type 0
AreEarly x [] = Unit {0}
AreEarly x (p ∷ ps) = (p.tick < x) × AreEarly x ps

pub early_fits : (freq x before : ℕ) (ps : List Pulse) (plan : List Planned) → Fits freq before ps plan → All (λ p. p.tick < x) plan → AreEarly x ps
early_fits freq x before [] plan f a = tt
early_fits freq x before (p ∷ ps) [] f a = absurd f
early_fits freq x before (p ∷ ps) (s ∷ plan) f a =
    let P : Planned → Type 0 = λ q. q.tick < x in
    (omega (arith, f.0.not_late, All-head P s plan a), early_fits freq x s.tick ps plan f.1 (All-tail P s plan a))

pub early_front : (x : ℕ) (ps qs : List Pulse) → AreEarly x (ps ++ qs) → AreEarly x ps
early_front x [] qs a = tt
early_front x (p ∷ ps) qs a = (a.0, early_front x ps qs a.1)

pub early_behind : (x : ℕ) (ps qs : List Pulse) → AreEarly x (ps ++ qs) → AreEarly x qs
early_behind x [] qs a = a
early_behind x (p ∷ ps) qs a = early_behind x ps qs a.1

early_last : (x oid from : ℕ) (up : Bool) (ts : List ℕ) → 0 < length ts → AreEarly x (map (pulse_of oid) (steps_of up ts)) → last_of from ts < x
early_last x oid from up [] some a = absurd (omega arith)
early_last x oid from up (t ∷ []) some a = a.0
early_last x oid from up (t ∷ u ∷ ts) some a = early_last x oid t up (u ∷ ts) (omega arith) a.1

-- all units of a stepper are inside
abbrev pub AllInside : Frame → List StepUnit → Type 0
AllInside f [] = Unit {0}
AllInside f (u ∷ us) = IsInside f u × AllInside f us

pub one_inside : (f : Frame) (oid behind : ℕ) (up : Bool) (u : StepUnit) → IsUnit f.clocks behind u → base f ≤ behind
    → AreEarly (lines_tick f.clocks ((f.end + 1) * turn_ns)) (map (pulse_of oid) (steps_of up (ticks_meant u))) → IsInside f u
one_inside f oid behind up u unit low early =
    let some : 0 < length (ticks_meant u) = omega (arith, unit.expands.ticks_of.number, unit.expands.ticks_of.some) in
    record {
      low = omega (arith, low, unit.expands.behind, unit.first);
      up = omega (arith, unit.first, unit.last, ends_up (ticks_meant u) unit.rise some);
      high = rw unit.last (early_last (lines_tick f.clocks ((f.end + 1) * turn_ns)) oid 0 up (ticks_meant u) some early);
      due = unit.due;
    }

pub chained_inside : (f : Frame) (oid behind : ℕ) (up : Bool) (us : List StepUnit) → AreChained f.clocks behind us → base f ≤ behind
    → AreEarly (lines_tick f.clocks ((f.end + 1) * turn_ns)) (steps_said oid up us) → AllInside f us
chained_inside f oid behind up [] c low early = tt
chained_inside f oid behind up (u ∷ us) c low early =
    let x = lines_tick f.clocks ((f.end + 1) * turn_ns) in
    let d = dir_after up u.up in
    let own = map (pulse_of oid) (steps_of d (ticks_meant u)) in
    let i = one_inside f oid behind d u c.1 low (early_front x own (steps_said oid d us) early) in
    (i, chained_inside f oid u.last d us c.2 (omega (arith, i.low, i.up)) (early_behind x own (steps_said oid d us) early))

pub begun_inside : (f : Frame) (homing : Bool) (oid : ℕ) (up : Bool) (us : List StepUnit) → AreBegunBy homing f.clocks (base f) us
    → AreEarly (lines_tick f.clocks ((f.end + 1) * turn_ns)) (steps_said oid up us) → AllInside f us
begun_inside f homing oid up [] c early = tt
begun_inside f homing oid up (u ∷ us) c early =
    let x = lines_tick f.clocks ((f.end + 1) * turn_ns) in
    let d = dir_after up u.up in
    let own = map (pulse_of oid) (steps_of d (ticks_meant u)) in
    let i = one_inside f oid (base f) d u c.2 (omega arith) (early_front x own (steps_said oid d us) early) in
    (i, chained_inside f oid u.last d us c.3 (omega (arith, i.low, i.up)) (early_behind x own (steps_said oid d us) early))

behind_one : (f : Frame) (oid : ℕ) (u : StepUnit) (us : List StepUnit) → AllInside f (of_stepper oid (u ∷ us)) → AllInside f (of_stepper oid us)
behind_one f oid u us a = elim (eqb_tells u.stepper oid) [ inl p ↦ (rw p.0 at a).1 | inr p ↦ rw p.0 at a ]

its_own : (f : Frame) (u : StepUnit) (us : List StepUnit) → AllInside f (of_stepper u.stepper (u ∷ us)) → IsInside f u
its_own f u us a = elim (eqb_tells u.stepper u.stepper) [ inl p ↦ (rw p.0 at a).0 | inr p ↦ absurd (p.1 refl) ]

pub all_inside : (f : Frame) (rs : List Release) → ((oid : ℕ) → AllInside f (of_stepper oid (units_of rs))) → AreInside f rs
all_inside f [] a = tt
all_inside f (r ∷ rs) a = (its_own f r.unit (units_of rs) (a r.unit.stepper), all_inside f rs (λ oid. behind_one f oid r.unit (units_of rs) (a oid)))

-- where the direction is told it doesn't matter what it was
pub dir_told : (a b : Bool) (o : Option Bool) → o ≢ None → dir_after a o ≡ dir_after b o
dir_told a b None n = absurd (n refl)
dir_told a b (Some up) n = refl

pub told_by : (oid : ℕ) (a b : Bool) (u : StepUnit) (us : List StepUnit) → u.up ≢ None → steps_said oid a (u ∷ us) ≡ steps_said oid b (u ∷ us)
told_by oid a b u us told = ap (λ d. map (pulse_of oid) (steps_of d (ticks_meant u)) ++ steps_said oid d us) (dir_told a b u.up told)

pub said_told : (homing : Bool) (clocks : Clocks) (start oid : ℕ) (a b : Bool) (us : List StepUnit) → AreBegunBy homing clocks start us → steps_said oid a us ≡ steps_said oid b us
said_told homing clocks start oid a b [] c = refl
said_told homing clocks start oid a b (u ∷ us) c = told_by oid a b u us c.1

-- a section begins
begins : (f : Frame) (freq turn : ℕ) (ks : ℕ → Known) (s : BoardSection) (i : IsSection f.clocks freq f.slots s) → s.start ≡ f.start → s.end ≡ f.end → turn + 250 ≤ f.start
    → ((oid n : ℕ) → f.start ≤ n + 250 → AreBelow (f.own n) (ks oid).ends) → ((oid : ℕ) → of_stepper oid (units_of s.releases) ≢ [] → (ks oid).made ≡ true)
    → Stands f turn i.from (λ oid. (ks oid).steps ++ section_steps oid s) ks [] s.releases
begins f freq turn ks s i start end before below made =
    let Base : ℕ → ℕ → Type 0 = λ oid n. AreBegun f.clocks (lines_tick f.clocks (n * turn_ns)) (of_stepper oid (units_of s.releases)) in
    let begun = λ (oid : ℕ). (let At : ℕ → Type 0 = λ n. Base oid n in subst At start (i.begun oid)) in
    let early = λ (oid : ℕ). (let At : ℕ → Type 0 = λ n. AreEarly (lines_tick f.clocks ((n + 1) * turn_ns)) (section_steps oid s) in
    subst At end (early_fits freq (lines_tick f.clocks ((s.end + 1) * turn_ns)) (base_of f.clocks s) (section_steps oid s) (s.plan oid) (i.fits oid) (i.within oid))) in
    record {
      soon = omega (arith, i.exact, start);
      early = inl (omega (arith, i.exact, start, f.order));
      paced = i.paced;
      behind = tt;
      inside = all_inside f s.releases (λ oid. begun_inside f false oid false (of_stepper oid (units_of s.releases)) (begun oid) (early oid));
      waits = λ oid. record {
        made = made oid;
        chain = inl (begun oid, refl);
        old = (ks oid).ends;
        ends = refl;
        below = below oid;
        said = ap (λ x. (ks oid).steps ++ x) (said_told false f.clocks (base f) oid (ks oid).up false (of_stepper oid (units_of s.releases)) (begun oid));
      };
      later = section_from f.clocks freq f.slots turn s i (omega (arith, before, start));
      earlier = tt;
    }

pub head_in_row : (until e turn : ℕ) (ss : List BoardSection) → AreInARow until e ss → turn ≤ e + 10 → HeadLater turn ss
head_in_row until e turn [] r h = tt
head_in_row until e turn (s ∷ ss) r h = omega (arith, r.0, h)

-- a section ahead of others
with_section : (own : ℕ → ℕ) (slots n oid : ℕ) (sent : List Sent) (ks : ℕ → Known) (s : BoardSection) (ss : List BoardSection)
    (x : Splits own slots n sent ks (λ k. (ks k).steps ++ section_steps k s) s.releases ss) (first others : List BoardSection) → x.tail ≡ [] → s ∷ ss ≡ first ++ others → AreReleased n first
    → IsFront ((ks oid).steps ++ all_steps oid first) (known_from oid (ks oid) x.front).steps
with_section own slots n oid sent ks s ss x [] others none cut released = rw (append-nil (ks oid).steps) (all_grow oid (ks oid) x.front)
with_section own slots n oid sent ks s ss x (t ∷ first) others none cut released =
    let same = cons_same s t ss (first ++ others) cut in
    let At : BoardSection → Type 0 = λ y. AreBefore n y.releases in
    let On : BoardSection → Type 0 = λ y. IsFront ((ks oid).steps ++ (section_steps oid y ++ all_steps oid first)) (known_from oid (ks oid) x.front).steps in
    subst On same.0 (rw (append_assoc (ks oid).steps (section_steps oid s) (all_steps oid first)) at (x.whole none first others same.1 (subst At (sym same.0) released.0) released.1 oid))

cut_section : (own : ℕ → ℕ) (slots n : ℕ) (sent : List Sent) (ks : ℕ → Known) (s : BoardSection) (ss : List BoardSection)
    (x : Splits own slots n sent ks (λ k. (ks k).steps ++ section_steps k s) s.releases ss) (done more : List Sent) (first others : List BoardSection) → x.front ≡ done ++ more → s ∷ ss ≡ first ++ others
    → AtCut ks (λ oid. (ks oid).steps) done first
cut_section own slots n sent ks s ss x done more [] others same parts = inl (λ oid. rw (append-nil (ks oid).steps) (all_grow oid (ks oid) done))
cut_section own slots n sent ks s ss x done more (t ∷ first) others same parts =
    let is = cons_same s t ss (first ++ others) parts in
    let P : BoardSection → Type 0 = λ y. AtCut ks (λ oid. (ks oid).steps) done (y ∷ first) in
    subst P is.0 (elim (x.cut done more same first others is.1) [
      | inl a ↦ inl (λ oid. rw (append_assoc (ks oid).steps (section_steps oid s) (all_steps oid first)) at (a oid))
      | inr a ↦ inr (λ oid. rw (append_assoc (ks oid).steps (section_steps oid s) (all_steps oid first)) at (a oid))
    ])

section_ahead : (own : ℕ → ℕ) (slots n : ℕ) (sent : List Sent) (ks : ℕ → Known) (s : BoardSection) (ss : List BoardSection)
    → Splits own slots n sent ks (λ oid. (ks oid).steps ++ section_steps oid s) s.releases ss → Splits own slots n sent ks (λ oid. (ks oid).steps) [] (s ∷ ss)
section_ahead own slots n sent ks s ss x = record {
  front = x.front;
  tail = x.tail;
  is = x.is;
  good = x.good;
  lost = x.lost;
  steps = λ oid. rw append_assoc at (x.steps oid);
  whole = λ none first others cut before released oid. with_section own slots n oid sent ks s ss x first others none cut released;
  cut = λ done more same first others parts. cut_section own slots n sent ks s ss x done more first others same parts;
}

pub sections_run : (own : ℕ → ℕ) (clocks : Clocks) (freq slots ready : ℕ) → AreTicks own → (tracked : AreTracked own clocks ready) → (ss : List BoardSection) (e : ℕ) → ready ≤ e
    → All (IsSection clocks freq slots) ss → AreInARow tracked.until e ss → GoesOn own slots ready e ss
sections_run own clocks freq slots ready ticks tracked [] e low i row = λ some. absurd (some refl)
sections_run own clocks freq slots ready ticks tracked (s ∷ ss) e low i row = λ some os turn ks up head below made orders.
    let P : BoardSection → Type 0 = λ x. IsSection clocks freq slots x in
    let first = All-head P s ss i in
    let rest = All-tail P s ss i in
    let g : Frame = record { own = own; clocks = clocks; slots = slots; ready = ready; start = s.start; end = s.end; ticks = ticks; tracked = tracked; after = omega (arith, low, row.0); order = row.1; limit = row.2 } in
    let total : ℕ → List Pulse = λ oid. (ks oid).steps ++ section_steps oid s in
    let stands = begins g freq turn ks s first refl refl head (λ oid n h. below oid n (omega (arith, row.0, h))) (λ oid needs. made oid (inl needs)) in
    let next = sections_run own clocks freq slots ready ticks tracked ss s.end (omega (arith, low, row.0, row.1)) rest row.3 in
    section_ahead own slots (turn + length os) (sent_in turn os) ks s ss
    (section_run g freq ss os turn first.from total ks [] s.releases next rest row.3 stands up (head_in_row tracked.until s.end turn ss row.3 (omega (arith, head, row.1))) (λ oid needs. made oid (inr needs))
    (orders_as (s ∷ ss) (cur s.releases ∷ ss) turn os (λ k le. refl) orders))
