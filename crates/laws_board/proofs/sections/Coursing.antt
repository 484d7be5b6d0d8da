-- What each command makes of a board that stands as the host knows it.
use Rattle.std.proofs.Common.{◌≡◌, ◌≢◌, ℕ, Bool, true, false, ◌+◌, ◌^◌, ◌<◌, ◌≤◌, ◌⊎◌, ◌&&◌, List, [], ◌++◌, length, map, set, get_or, Option, Some, None, refl, ap, sym, ◌∙◌, subst, arith, inl, inr, append_assoc, append-nil}
use Rattle.laws_board.proofs.Names.{get_or-set_same, map-append, Pulse, Pending, Controller}
use Rattle.std.proofs.lemmas.List.{get_or-set_other, length-set}
use Rattle.std.specs.Prelude.{slice_index, nat_lt, ◌==◌, if◌then◌else◌}
use Rattle.plan_types.specs.Plan.{pulse_of}
use Rattle.plan_types.specs.declared.plan.Triple.{Triple}
use Rattle.plan_types.specs.Board.{pending_steps, steps_of}
use Rattle.board_step.specs.Steps.{IsFair, ticks_at, with_ticks}
use Rattle.board_step.proofs.Whole.{whole}
use Rattle.board_sim.specs.Board.{Done, stepper_at, with_stepper, quiet, is_none_pending, first_of, refusal, takes_triple, queue_step, set_dir, reset, make_stepper, timer_too_close}
use Rattle.board_sim.specs.Fair.{IsFairOn, pending_at}
use Rattle.board_sim.specs.Halted.{is_halted}
use Rattle.board_sim.specs.RigRuns.{IsHalted}
use Rattle.board_sim.proofs.Steps.{pending_push}
use Rattle.laws_board.specs.sections.Known.{Known, unknown, more_steps, AreBelow, IsGoodTriple}
use Rattle.laws_board.specs.sections.Courses.{Course, no_course, next_part, IsFrom, IsStopped, IsMadeBy, MaySetClock}
use Rattle.laws_board.proofs.sections.Fits.{StepperFits, IsShutBy, split_at, within, at_own, at_others, room_left, fair_for, refusal_is, not_late, first_is, none_pends, one_more, queue_lost}
use Rattle.laws_board.proofs.sections.Standing.{QueueStands, SlotStands, BoardStands, IsHeld, fits_of, made_for, none_held, stop_none}
use Rattle.plan_types.proofs.Facts.{true_false}

-- what each stepper has made stands as before
abbrev pub MadeOn : (ℕ → ℕ) → (ℕ → Option ℕ) → (ℕ → Course) → (ℕ → Course) → Controller → Controller → Type 0
MadeOn own stops cs next b after = (oid : ℕ) (m : List Pulse) → IsMadeBy own stops oid (stepper_at b oid) (cs oid) m → IsMadeBy own stops oid (stepper_at after oid) (next oid) m

-- a board runs on and stands as is known then, or it shut down
abbrev pub StandsOn : (ℕ → ℕ) → (ℕ → Option ℕ) → ℕ → ℕ → ℕ → (ℕ → Course) → (ℕ → Course) → Controller → Controller → Type 0
StandsOn own stops slots by turn cs next b after = (BoardStands own stops slots by turn next after × MadeOn own stops cs next b after) ⊎ IsShutBy after

-- with a stepper that is there
here : (b : Controller) (other slots now : ℕ) (c : Course) (o : Option Pending) → stepper_at b other ≡ o → SlotStands slots now (stepper_at b other) c → SlotStands slots now o c
here b other slots now c o at f = let At : Option Pending → Type 0 = λ x. SlotStands slots now x c in subst At at f

held_at : (b : Controller) (other : ℕ) (q : Pending) (c : Course) → stepper_at b other ≡ Some q → IsHeld (stepper_at b other) c → IsHeld (Some q) c
held_at b other q c at w = subst (λ (o : Option Pending). IsHeld o c) at w

not_there : (c : Course) → c ≡ no_course → c.known.made ≡ true → ⊥
not_there c e made = clash (sym (ap (λ (x : Course). x.known.made) e) ∙ made) where
  clash : false ≡ true → ⊥
  clash e = cc

-- nothing that counts has changed
pub same_stands : (own : ℕ → ℕ) (stops : ℕ → Option ℕ) (slots by turn : ℕ) (cs : ℕ → Course) (b c : Controller) → c.state ≡ b.state → c.tick ≡ b.tick → c.slots ≡ b.slots → c.steppers ≡ b.steppers
    → BoardStands own stops slots by turn cs b → StandsOn own stops slots by turn cs cs b c
same_stands own stops slots by turn cs b c state tick slots_same steppers f =
    inl (
      record {
        running = state ∙ f.running;
        tick = tick ∙ f.tick;
        slots_are = slots_same ∙ f.slots_are;
        places = ap length steppers ∙ f.places;
        each = λ oid. rw steppers (f.each oid);
        stopped = λ oid. rw steppers (f.stopped oid);
      },
      λ oid m k. rw steppers k,
    )

-- a stepper is replaced
replaced : (own : ℕ → ℕ) (stops : ℕ → Option ℕ) (slots by turn : ℕ) (cs next : ℕ → Course) (b : Controller) (other : ℕ) (q : Pending) → other < 256 → BoardStands own stops slots by turn cs b
    → QueueStands slots (own turn) q (next other) → (IsStopped stops by (next other).since → IsHeld (Some q) (next other)) → ((oid : ℕ) → oid ≢ other → next oid ≡ cs oid)
    → BoardStands own stops slots by turn next (with_stepper b other q)
replaced own stops slots by turn cs next b other q small f here stopped there =
    let inside : other < length b.steppers = rw f.places small in
    record {
      running = f.running;
      tick = f.tick;
      slots_are = f.slots_are;
      places = length-set b.steppers other (Some q) ∙ f.places;
      each =
          split_at other (λ oid. SlotStands slots (own turn) (get_or (set b.steppers other (Some q)) oid None) (next oid))
          (rw (get_or-set_same b.steppers other (Some q) None inside) here)
          (λ oid ne. rw (get_or-set_other b.steppers other oid (Some q) None ne, there oid ne) (f.each oid));
      stopped =
          split_at other (λ oid. IsStopped stops by (next oid).since → IsHeld (get_or (set b.steppers other (Some q)) oid None) (next oid))
          (rw (get_or-set_same b.steppers other (Some q) None inside) stopped)
          (λ oid ne. rw (get_or-set_other b.steppers other oid (Some q) None ne, there oid ne) (f.stopped oid));
    }

-- and what it and the others have made
made_replaced : (own : ℕ → ℕ) (stops : ℕ → Option ℕ) (cs next : ℕ → Course) (b : Controller) (other : ℕ) (o : Option Pending) (q : Pending) → other < length b.steppers → stepper_at b other ≡ o
    → ((m : List Pulse) → IsMadeBy own stops other o (cs other) m → IsMadeBy own stops other (Some q) (next other) m) → ((oid : ℕ) → oid ≢ other → next oid ≡ cs oid)
    → MadeOn own stops cs next b (with_stepper b other q)
made_replaced own stops cs next b other o q inside at here there =
    split_at other (λ oid. (m : List Pulse) → IsMadeBy own stops oid (stepper_at b oid) (cs oid) m → IsMadeBy own stops oid (get_or (set b.steppers other (Some q)) oid None) (next oid) m)
    (λ m. rw (get_or-set_same b.steppers other (Some q) None inside, at) (here m))
    (λ oid ne m. rw (get_or-set_other b.steppers other oid (Some q) None ne, there oid ne) (λ k. k))

-- a stepper of which this is known now, and the others as before
abbrev changed : (ℕ → Known → Known) → ℕ → (ℕ → Course) → ℕ → Course
changed F other cs oid = record (cs oid) { known = (if other == oid then F oid (cs oid).known else (cs oid).known) }

changed_own : (F : ℕ → Known → Known) (other : ℕ) (cs : ℕ → Course) → changed F other cs other ≡ record (cs other) { known = F other (cs other).known }
changed_own F other cs = ap (λ (k : Known). record (cs other) { known = k }) (at_own other (F other (cs other).known) (cs other).known)

changed_others : (F : ℕ → Known → Known) (other : ℕ) (cs : ℕ → Course) (oid : ℕ) → oid ≢ other → changed F other cs oid ≡ cs oid
changed_others F other cs oid ne = ap (λ (k : Known). record (cs oid) { known = k }) (at_others other oid (F oid (cs oid).known) (cs oid).known ne)

-- the stepper that it concerns, and the others, on a board that stays as it is
kept_stands : (own : ℕ → ℕ) (stops : ℕ → Option ℕ) (slots by turn : ℕ) (cs next : ℕ → Course) (b : Controller) (other : ℕ) (q : Pending) → stepper_at b other ≡ Some q → BoardStands own stops slots by turn cs b
    → QueueStands slots (own turn) q (next other) → (IsStopped stops by (next other).since → IsHeld (Some q) (next other)) → ((oid : ℕ) → oid ≢ other → next oid ≡ cs oid)
    → ((m : List Pulse) → IsMadeBy own stops other (Some q) (cs other) m → IsMadeBy own stops other (Some q) (next other) m) → StandsOn own stops slots by turn cs next b b
kept_stands own stops slots by turn cs next b other q at f fits stopped there made =
    inl (
      record {
        running = f.running;
        tick = f.tick;
        slots_are = f.slots_are;
        places = f.places;
        each = split_at other (λ oid. SlotStands slots (own turn) (stepper_at b oid) (next oid)) (rw at fits) (λ oid ne. rw (there oid ne) (f.each oid));
        stopped = split_at other (λ oid. IsStopped stops by (next oid).since → IsHeld (stepper_at b oid) (next oid)) (rw at stopped) (λ oid ne. rw (there oid ne) (f.stopped oid));
      },
      split_at other (λ oid. (m : List Pulse) → IsMadeBy own stops oid (stepper_at b oid) (cs oid) m → IsMadeBy own stops oid (stepper_at b oid) (next oid) m)
          (λ m. rw at (made m)) (λ oid ne m. rw (there oid ne) (λ k. k)),
    )

-- the direction is set
abbrev turned : ℕ → ℕ → Known → Known
turned dir oid k = record k { up = dir == 1 }

pub dir_stands : (own : ℕ → ℕ) (stops : ℕ → Option ℕ) (slots by turn : ℕ) (cs : ℕ → Course) (b : Controller) (other dir : ℕ) (o : Option Pending) → stepper_at b other ≡ o → BoardStands own stops slots by turn cs b
    → (cs other).known.made ≡ true
    → StandsOn own stops slots by turn cs (changed (turned dir) other cs) b (set_dir b other o dir).board
dir_stands own stops slots by turn cs b other dir None at f made = absurd (not_there (cs other) (here b other slots (own turn) (cs other) None at (f.each other)) made)
dir_stands own stops slots by turn cs b other dir (Some q) at f made =
    let s = here b other slots (own turn) (cs other) (Some q) at (f.each other) in
    let next = changed (turned dir) other cs in
    let r : Pending = record q { up = dir == 1 } in
    let small = within b other q f.places at in
    let one : Course = record (cs other) { known = record (cs other).known { up = dir == 1 } } in
    let is : next other ≡ one = changed_own (turned dir) other cs in
    let there = changed_others (turned dir) other cs in
    let fits : QueueStands slots (own turn) r one = record { made = s.made; slots_are = s.slots_are; up = refl; clock = s.clock; rises = s.rises; few = s.few; empty = s.empty } in
    let Stands : Course → Type 0 = λ x. QueueStands slots (own turn) r x in
    let Made : Course → Type 0 = λ x. (m : List Pulse) → IsMadeBy own stops other (Some q) (cs other) m → IsMadeBy own stops other (Some r) x m in
    let Stopped : Course → Type 0 = λ x. IsStopped stops by x.since → IsHeld (Some r) x in
    inl (
      replaced own stops slots by turn cs next b other r small f (subst Stands (sym is) fits) (subst Stopped (sym is) (λ h. held_at b other q (cs other) at (f.stopped other h))) there,
      made_replaced own stops cs next b other (Some q) r (rw f.places small) at
          (subst Made (sym is) (λ m k. record { early = k.early; late = k.late; is = k.is; past = k.past; dropped = k.dropped; steps = k.steps; whole = k.whole; before = k.before })) there,
    )

-- a stepper is made
abbrev made_known : ℕ → Known → Known
made_known oid k = record k { made = true }

pub make_stands : (own : ℕ → ℕ) (stops : ℕ → Option ℕ) (slots by turn : ℕ) (cs : ℕ → Course) (b : Controller) (other : ℕ) (o : Option Pending) → stepper_at b other ≡ o → BoardStands own stops slots by turn cs b → other < 256
    → StandsOn own stops slots by turn cs (changed made_known other cs) b (make_stepper b other o).board
make_stands own stops slots by turn cs b other None at f small =
    let e : cs other ≡ no_course = here b other slots (own turn) (cs other) None at (f.each other) in
    let q : Pending = record { halted = false; up = false; last = 0; groups = []; slots = b.slots } in
    let one : Course = record (cs other) { known = made_known other (cs other).known } in
    let is : changed made_known other cs other ≡ one = changed_own made_known other cs in
    let new : Course = record no_course { known = made_known other unknown } in
    let As : one ≡ new = ap (λ (x : Course). record x { known = made_known other x.known }) e in
    let fits : QueueStands slots (own turn) q new =
    record { made = refl; slots_are = f.slots_are; up = refl; clock = λ _. refl; rises = tt; few = λ x. omega arith; empty = λ h. refl } in
    let Stands : Course → Type 0 = λ x. QueueStands slots (own turn) q x in
    let Stopped : Course → Type 0 = λ x. IsStopped stops by x.since → IsHeld (Some q) x in
    let Made : Course → Type 0 = λ x. (m : List Pulse) → IsMadeBy own stops other None (cs other) m → IsMadeBy own stops other (Some q) x m in
    let there = changed_others made_known other cs in
    inl (
      replaced own stops slots by turn cs (changed made_known other cs) b other q small f (subst Stands (sym (is ∙ As)) fits) (subst Stopped (sym (is ∙ As)) (λ h. absurd h)) there,
      made_replaced own stops cs (changed made_known other cs) b other None q (rw f.places small) at
          (subst Made (sym is) (λ m k. record { early = k.early; late = k.late; is = k.is; past = k.past; dropped = k.dropped; steps = k.steps; whole = k.whole; before = k.before })) there,
    )
make_stands own stops slots by turn cs b other (Some q) at f small =
    let s = here b other slots (own turn) (cs other) (Some q) at (f.each other) in
    let one : Course = record (cs other) { known = made_known other (cs other).known } in
    let is : changed made_known other cs other ≡ one = changed_own made_known other cs in
    let fits : QueueStands slots (own turn) q one = record { made = refl; slots_are = s.slots_are; up = s.up; clock = s.clock; rises = s.rises; few = s.few; empty = s.empty } in
    let Stands : Course → Type 0 = λ x. QueueStands slots (own turn) q x in
    let Made : Course → Type 0 = λ x. (m : List Pulse) → IsMadeBy own stops other (Some q) (cs other) m → IsMadeBy own stops other (Some q) x m in
    let Stopped : Course → Type 0 = λ x. IsStopped stops by x.since → IsHeld (Some q) x in
    kept_stands own stops slots by turn cs (changed made_known other cs) b other q at f (subst Stands (sym is) fits) (subst Stopped (sym is) (λ h. held_at b other q (cs other) at (f.stopped other h))) (changed_others made_known other cs)
    (subst Made (sym is) (λ m k. record { early = k.early; late = k.late; is = k.is; past = k.past; dropped = k.dropped; steps = k.steps; whole = k.whole; before = k.before }))

-- a stepper's clock is set
from_up : (queued turn : ℕ) (o : Option ℕ) → queued ≤ turn → IsFrom queued o → IsFrom turn o
from_up queued turn None h s = s
from_up queued turn (Some e) h s = omega (arith, h, s)

stopped_up : (stops : ℕ → Option ℕ) (queued turn : ℕ) (since : Option ℕ) → queued ≤ turn → IsStopped stops queued since → IsStopped stops turn since
stopped_up stops queued turn None h s = s
stopped_up stops queued turn (Some u) h s = from_up queued turn (stops u) h s

nothing_pends : (own : ℕ → ℕ) (stops : ℕ → Option ℕ) (slots by turn queued : ℕ) (q : Pending) (c : Course) (x : Bool) → q.halted ≡ x → QueueStands slots (own turn) q c → own queued ≤ own turn → queued ≤ by
    → (IsStopped stops by c.since → IsHeld (Some q) c) → IsStopped stops queued c.since ⊎ AreBelow (own queued) c.known.ends → q.groups ≡ []
nothing_pends own stops slots by turn queued q c true e s h k stopped over = s.empty e
nothing_pends own stops slots by turn queued q c false e s h k stopped (inl o) = none_held slots (own turn) q c s (stopped (stopped_up stops queued by c.since k o))
nothing_pends own stops slots by turn queued q c false e s h k stopped (inr below) = none_pends (own turn) slots (own queued) q c.known (fits_of slots (own turn) q c s e) h below

abbrev set_course : ℕ → ℕ → ℕ → (ℕ → Course) → ℕ → Course
set_course queued clock other cs oid = if other == oid then next_part queued clock (cs oid) else cs oid

pub reset_stands : (own : ℕ → ℕ) (stops : ℕ → Option ℕ) (slots by turn queued : ℕ) (cs : ℕ → Course) (b : Controller) (other clock : ℕ) (o : Option Pending) → stepper_at b other ≡ o → BoardStands own stops slots by turn cs b
    → own queued ≤ own turn → queued ≤ by → MaySetClock own stops queued (cs other) → (IsStopped stops by (Some queued) → ⊥)
    → StandsOn own stops slots by turn cs (set_course queued clock other cs) b (reset b other o clock).board
reset_stands own stops slots by turn queued cs b other clock None at f h k good time = absurd (not_there (cs other) (here b other slots (own turn) (cs other) None at (f.each other)) good.made)
reset_stands own stops slots by turn queued cs b other clock (Some q) at f h k good time =
    let s = here b other slots (own turn) (cs other) (Some q) at (f.each other) in
    let none : q.groups ≡ [] = nothing_pends own stops slots by turn queued q (cs other) q.halted refl s h k (λ i. held_at b other q (cs other) at (f.stopped other i)) good.over in
    let one = next_part queued clock (cs other) in
    let is : set_course queued clock other cs other ≡ one = at_own other one (cs other) in
    let r : Pending = record q { groups = []; last = clock; halted = false } in
    let fits : QueueStands slots (own turn) r one =
    record { made = s.made; slots_are = s.slots_are; up = s.up; clock = λ _. refl; rises = tt; few = λ x. omega arith; empty = λ e. refl } in
    let Stands : Course → Type 0 = λ x. QueueStands slots (own turn) r x in
    let Stopped : Course → Type 0 = λ x. IsStopped stops by x.since → IsHeld (Some r) x in
    let Made : Course → Type 0 = λ x. (m : List Pulse) → IsMadeBy own stops other (Some q) (cs other) m → IsMadeBy own stops other (Some r) x m in
    let there = λ (oid : ℕ) (ne : oid ≢ other). at_others other oid (next_part queued clock (cs oid)) (cs oid) ne in
    rw none
    (inl (
      replaced own stops slots by turn cs (set_course queued clock other cs) b other r (within b other q f.places at) f (subst Stands (sym is) fits) (subst Stopped (sym is) (λ i. absurd (time i))) there,
      made_replaced own stops cs (set_course queued clock other cs) b other (Some q) r (rw f.places (within b other q f.places at)) at
          (subst Made (sym is) (λ m i. record {
            early = m;
            late = [];
            is = sym (append-nil m);
            past = made_for own stops other (Some q) (cs other) m i;
            dropped = [];
            steps = refl;
            whole = λ _. refl;
            before = stop_none own stops (Some queued);
          })) there,
    ))

-- a triple is taken, or it comes too late
stands_of : (slots now : ℕ) (q : Pending) (c : Course) → StepperFits now slots q c.known → QueueStands slots now q c
stands_of slots now q c s = record {
  made = s.made;
  slots_are = s.slots_are;
  up = s.up;
  clock = λ _. s.clock;
  rises = s.rises;
  few = s.few;
  empty = λ e. absurd (true_false (sym e ∙ s.halted));
}

abbrev more_known : List ℕ → ℕ → Known → Known
more_known ticks oid k = more_steps oid k ticks

more_made : (late pend new dropped steps : List Pulse) → dropped ≡ [] → (late ++ pend) ++ dropped ≡ steps → (late ++ (pend ++ new)) ++ [] ≡ steps ++ new
more_made late pend new dropped steps none e =
    append-nil (late ++ (pend ++ new)) ∙ sym (append_assoc late pend new) ∙ ap (λ x. x ++ new) (sym (append-nil (late ++ pend)) ∙ ap (λ x. (late ++ pend) ++ x) (sym none) ∙ e)

push_pending : (other : ℕ) (q : Pending) (ticks : List ℕ) → pending_at other (Some (with_ticks q ticks)) ≡ pending_at other (Some q) ++ map (pulse_of other) (steps_of q.up ticks)
push_pending other q ticks =
    ap (map (pulse_of other)) (pending_push q.groups (record { up = q.up; ticks = ticks })) ∙ map-append (pulse_of other) (pending_steps q.groups) (steps_of q.up ticks)

triple_stands : (late : Bool) (own : ℕ → ℕ) (stops : ℕ → Option ℕ) (slots by queued turn : ℕ) (cs : ℕ → Course) (b : Controller) (other : ℕ) (q : Pending) (t : Triple) (ticks : List ℕ)
    → stepper_at b other ≡ Some q → BoardStands own stops slots by turn cs b → IsGoodTriple own slots queued (cs other).known t ticks → StepperFits (own turn) slots q (cs other).known
    → (IsStopped stops by (cs other).since → q.halted ≡ true) → IsFair (own turn) q t ticks → first_of (own turn) q t ≡ slice_index ticks 0 → (is_none_pending q.groups && nat_lt (first_of (own turn) q t) (own turn)) ≡ late
    → StandsOn own stops slots by turn cs (changed (more_known ticks) other cs) b (takes_triple (if late then Some (timer_too_close, first_of (own turn) q t) else None) b other q ticks).board
triple_stands true own stops slots by queued turn cs b other q t ticks at f good s found fair first e =
    inr (timer_too_close, b.tick, first_of (own turn) q t, refl, inl refl)
triple_stands false own stops slots by queued turn cs b other q t ticks at f good s found fair first e =
    let now = own turn in
    let one : Course = record (cs other) { known = more_steps other (cs other).known ticks } in
    let is : changed (more_known ticks) other cs other ≡ one = changed_own (more_known ticks) other cs in
    let r = with_ticks q ticks in
    let fits = stands_of slots now r one (one_more own slots queued now other q (cs other).known t ticks s good fair (λ none. rw first at (not_late now (first_of now q t) q.groups e none))) in
    let Stands : Course → Type 0 = λ x. QueueStands slots now r x in
    let Stopped : Course → Type 0 = λ x. IsStopped stops by x.since → IsHeld (Some r) x in
    let Made : Course → Type 0 = λ x. (m : List Pulse) → IsMadeBy own stops other (Some q) (cs other) m → IsMadeBy own stops other (Some r) x m in
    let there = changed_others (more_known ticks) other cs in
    let new = map (pulse_of other) (steps_of q.up ticks) in
    inl (
      replaced own stops slots by turn cs (changed (more_known ticks) other cs) b other r (within b other q f.places at) f (subst Stands (sym is) fits)
          (subst Stopped (sym is) (λ i. inl (found i))) there,
      made_replaced own stops cs (changed (more_known ticks) other cs) b other (Some q) r (rw f.places (within b other q f.places at)) at
          (subst Made (sym is) (λ m k. record {
            early = k.early;
            late = k.late;
            is = k.is;
            past = k.past;
            dropped = [];
            steps = ap (λ x. (k.late ++ x) ++ []) (push_pending other q ticks) ∙ more_made k.late (pending_at other (Some q)) new k.dropped (cs other).known.steps (k.whole s.halted) k.steps
                ∙ ap (λ (up : Bool). (cs other).known.steps ++ map (pulse_of other) (steps_of up ticks)) s.up;
            whole = λ _. refl;
            before = k.before;
          })) there,
    )

-- with what the refusal and the ticks are
with_is : (own : ℕ → ℕ) (stops : ℕ → Option ℕ) (slots by turn : ℕ) (cs next : ℕ → Course) (b : Controller) (other : ℕ) (q : Pending) (r s : Option (ℕ × ℕ)) (its ticks : List ℕ) → r ≡ s → its ≡ ticks
    → StandsOn own stops slots by turn cs next b (takes_triple s b other q ticks).board → StandsOn own stops slots by turn cs next b (takes_triple r b other q its).board
with_is own stops slots by turn cs next b other q r s its ticks e f g =
    let At : Option (ℕ × ℕ) → Type 0 = λ x. StandsOn own stops slots by turn cs next b (takes_triple x b other q its).board in
    let On : List ℕ → Type 0 = λ x. StandsOn own stops slots by turn cs next b (takes_triple s b other q x).board in
    subst At (sym e) (subst On (sym f) g)

runs_if : (h : Bool) (P : Controller → Type 0) (b : Controller) (d : Done) → h ≡ false → P d.board → P (if h then quiet b else d).board
runs_if false P b d e g = g
runs_if true P b d e g = absurd (true_false e)

quiet_if : (h : Bool) (P : Controller → Type 0) (b : Controller) (d : Done) → h ≡ true → P b → P (if h then quiet b else d).board
quiet_if true P b d e g = g
quiet_if false P b d e g = absurd (true_false (sym e))

-- a stepper that is halted takes none
drop_steps : (late pend new dropped steps : List Pulse) → (late ++ pend) ++ dropped ≡ steps → (late ++ pend) ++ (dropped ++ new) ≡ steps ++ new
drop_steps late pend new dropped steps e = sym (append_assoc (late ++ pend) dropped new) ∙ ap (λ x. x ++ new) e

halted_stands : (own : ℕ → ℕ) (stops : ℕ → Option ℕ) (slots by turn : ℕ) (cs : ℕ → Course) (b : Controller) (other : ℕ) (q : Pending) (ticks : List ℕ) → stepper_at b other ≡ Some q → q.halted ≡ true
    → BoardStands own stops slots by turn cs b → StandsOn own stops slots by turn cs (changed (more_known ticks) other cs) b b
halted_stands own stops slots by turn cs b other q ticks at e f =
    let s = here b other slots (own turn) (cs other) (Some q) at (f.each other) in
    let k = (cs other).known in
    let one : Course = record (cs other) { known = more_steps other k ticks } in
    let is : changed (more_known ticks) other cs other ≡ one = changed_own (more_known ticks) other cs in
    let fits : QueueStands slots (own turn) q one =
    record { made = s.made; slots_are = s.slots_are; up = s.up; clock = λ runs. absurd (true_false (sym e ∙ runs)); rises = s.rises; few = λ x. omega (arith, s.few x); empty = s.empty } in
    let Stands : Course → Type 0 = λ x. QueueStands slots (own turn) q x in
    let Made : Course → Type 0 = λ x. (m : List Pulse) → IsMadeBy own stops other (Some q) (cs other) m → IsMadeBy own stops other (Some q) x m in
    let new = map (pulse_of other) (steps_of k.up ticks) in
    let Stopped : Course → Type 0 = λ x. IsStopped stops by x.since → IsHeld (Some q) x in
    kept_stands own stops slots by turn cs (changed (more_known ticks) other cs) b other q at f (subst Stands (sym is) fits) (subst Stopped (sym is) (λ i. inl e)) (changed_others (more_known ticks) other cs)
    (subst Made (sym is) (λ m i. record {
      early = i.early;
      late = i.late;
      is = i.is;
      past = i.past;
      dropped = i.dropped ++ new;
      steps = drop_steps i.late (pending_at other (Some q)) new i.dropped k.steps i.steps;
      whole = λ runs. absurd (true_false (sym e ∙ runs));
      before = i.before;
    }))

abbrev StepStands : (ℕ → ℕ) → (ℕ → Option ℕ) → ℕ → ℕ → ℕ → (ℕ → Course) → Controller → ℕ → Option Pending → Triple → List ℕ → Type 0
StepStands own stops slots by turn cs b other o t ticks =
    IsFairOn b.tick o t ticks × StandsOn own stops slots by turn cs (changed (more_known ticks) other cs) b (queue_step b other o t).board

step_stands : (own : ℕ → ℕ) (stops : ℕ → Option ℕ) (slots by queued turn : ℕ) (cs : ℕ → Course) (b : Controller) (other : ℕ) (q : Pending) (t : Triple) (ticks : List ℕ) (x : Bool)
    → q.halted ≡ x → b.tick ≡ own turn → stepper_at b other ≡ Some q → BoardStands own stops slots by turn cs b → own queued ≤ own turn → IsGoodTriple own slots queued (cs other).known t ticks
    → own turn < slice_index ticks 0 + 2 ^ 31 → (IsStopped stops by (cs other).since → q.halted ≡ true) → StepStands own stops slots by turn cs b other (Some q) t ticks
step_stands own stops slots by queued turn cs b other q t ticks true e tick at f h good timely found =
    let P : Controller → Type 0 = λ c. StandsOn own stops slots by turn cs (changed (more_known ticks) other cs) b c in (
      λ runs. absurd (true_false (sym e ∙ runs)),
      quiet_if q.halted P b (takes_triple (refusal b.tick q t) b other q (ticks_at (first_of b.tick q t) t)) e (halted_stands own stops slots by turn cs b other q ticks at e f),
    )
step_stands own stops slots by queued turn cs b other q t ticks false e tick at f h good timely found =
    let now = own turn in
    let s = fits_of slots now q (cs other) (here b other slots now (cs other) (Some q) at (f.each other)) e in
    let fair = fair_for own slots queued now q (cs other).known t ticks s h good timely in
    let late = is_none_pending q.groups && nat_lt (first_of now q t) now in
    let P : Controller → Type 0 = λ c. StandsOn own stops slots by turn cs (changed (more_known ticks) other cs) b c in
    let r = refusal_is now q t late good.ticks_of.some (room_left own slots queued now q (cs other).known t ticks s h good) refl in
    let On : ℕ → Type 0 = λ n. IsFairOn n (Some q) t ticks × P (if q.halted then quiet b else takes_triple (refusal n q t) b other q (ticks_at (first_of n q t) t)).board in
    subst On (sym tick) (
      (λ runs. (good.small, fair)),
      runs_if q.halted P b (takes_triple (refusal now q t) b other q (ticks_at (first_of now q t) t)) e
          (with_is own stops slots by turn cs (changed (more_known ticks) other cs) b other q (refusal now q t) (if late then Some (timer_too_close, first_of now q t) else None) (ticks_at (first_of now q t) t) ticks r
          (whole now q t ticks good.small fair)
          (triple_stands late own stops slots by queued turn cs b other q t ticks at f good s found fair (first_is now q t ticks good.small fair) refl)),
    )

pub push_stands : (own : ℕ → ℕ) (stops : ℕ → Option ℕ) (slots by queued turn : ℕ) (cs : ℕ → Course) (b : Controller) (other : ℕ) (o : Option Pending) (t : Triple) (ticks : List ℕ)
    → stepper_at b other ≡ o → BoardStands own stops slots by turn cs b → own queued ≤ own turn → IsGoodTriple own slots queued (cs other).known t ticks
    → own turn < slice_index ticks 0 + 2 ^ 31 → (IsStopped stops by (cs other).since → IsHalted (stepper_at b other)) → StepStands own stops slots by turn cs b other o t ticks
push_stands own stops slots by queued turn cs b other None t ticks at f h good timely found = absurd (not_there (cs other) (here b other slots (own turn) (cs other) None at (f.each other)) good.made)
push_stands own stops slots by queued turn cs b other (Some q) t ticks at f h good timely found =
    step_stands own stops slots by queued turn cs b other q t ticks q.halted refl f.tick at f h good timely (λ i. (subst IsHalted at (found i)).0)

-- one that comes too late shuts the board down, where its stepper isn't halted
pub lost_stands : (own : ℕ → ℕ) (stops : ℕ → Option ℕ) (slots by queued turn : ℕ) (cs : ℕ → Course) (b : Controller) (other : ℕ) (o : Option Pending) (t : Triple) (ticks : List ℕ) → stepper_at b other ≡ o
    → BoardStands own stops slots by turn cs b → is_halted o ≡ false → own queued ≤ own turn → IsGoodTriple own slots queued (cs other).known t ticks → own turn < slice_index ticks 0 + 2 ^ 31
    → slice_index ticks 0 < own queued → AreBelow (own queued) (cs other).known.ends → IsShutBy (queue_step b other o t).board
lost_stands own stops slots by queued turn cs b other None t ticks at f free h good timely before below =
    absurd (not_there (cs other) (here b other slots (own turn) (cs other) None at (f.each other)) good.made)
lost_stands own stops slots by queued turn cs b other (Some q) t ticks at f free h good timely before below =
    let tick = f.tick in
    let s = fits_of slots (own turn) q (cs other) (here b other slots (own turn) (cs other) (Some q) at (f.each other)) free in
    let At : ℕ → Type 0 = λ n. StepperFits n slots q (cs other).known in
    queue_lost own slots queued (cs other).known b other q t ticks (subst At (sym tick) s) (omega (arith, tick, h)) good (omega (arith, tick, timely)) before below
