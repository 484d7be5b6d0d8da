-- A board that fits what the host knows, command by command.
use Rattle.std.proofs.Common.{◌≡◌, ◌≢◌, ℕ, suc, Bool, true, false, ◌+◌, ◌^◌, ◌<◌, ◌≤◌, ◌⊎◌, ◌&&◌, List, [], ◌∷◌, ◌++◌, length, map, set, get_or, Option, Some, None, refl, ap, sym, ◌∙◌, subst, arith, inl, inr, append-nil}
use Rattle.laws_board.proofs.Names.{get_or-set_same, leb_tells, eqb_tells, Running, Shut, Pulse, Pending, Cmd, Controller, only}
use Rattle.std.proofs.lemmas.List.{get_or-set_other, get_or_past, length-set}
use Rattle.std.specs.Prelude.{slice_index, nat_lt, ◌==◌, if◌then◌else◌}
use Rattle.plan_types.specs.Numbers.{UpFrom}
use Rattle.plan_types.specs.Plan.{pulse_of}
use Rattle.plan_types.specs.declared.plan.Triple.{Triple}
use Rattle.plan_types.specs.Board.{Group, last_of, end_of, steps_of, TicksRise}
use Rattle.board_step.specs.Steps.{IsFair, Follows, ticks_at, with_ticks}
use Rattle.board_step.proofs.Whole.{whole}
use Rattle.msg_code.specs.declared.cmd.Cmd.TheVariants as cmd
use Rattle.board_sim.specs.Board.{Done, stepper_at, with_stepper, quiet, is_none_pending, first_of, refusal, takes_triple, queue_step, set_dir, reset, make_stepper, acts, timer_too_close, command_request}
use Rattle.board_sim.specs.Fair.{IsFairOn, IsFairCommand, steps_taken, meant_on, meant_by, GroupsRiseFrom}
use Rattle.board_sim.proofs.Steps.{only_same, only_other, rise_push, rise_up, end_any}
use Rattle.board_sim.specs.Halted.{is_halted}
use Rattle.board_world.specs.Units.{IsMade, FindsStepper}
use Rattle.step_feed.specs.Rings.{count_from}
use Rattle.laws_board.specs.sections.Known.{Known, unknown, more_steps, knows_of, AreBelow, IsGoodTriple, IsGoodReset, IsGoodFor, IsLostFor}
use Rattle.laws_board.specs.sections.Timely.{IsTimely}
use Rattle.laws_board.specs.sections.Ends.{MayEnd}
use Rattle.laws_board.proofs.sections.Counts.{ends_from, counts_fall, none_from, all_counted, ends_push, end_push, end_least}
use Rattle.plan_types.proofs.Facts.{true_false}
use Rattle.board_sim.proofs.Parts.{clash as none_some}

pub record StepperFits (now slots : ℕ) (q : Pending) (k : Known) : Type 0 where
  pub made : k.made ≡ true
  pub halted : q.halted ≡ false
  pub slots_are : q.slots ≡ slots
  pub up : q.up ≡ k.up
  pub clock : end_of q.last q.groups ≡ k.clock
  pub rises : GroupsRiseFrom now q.groups
  pub few : (x : ℕ) → ends_from x q.groups ≤ count_from x k.ends

abbrev pub SlotFits : ℕ → ℕ → Option Pending → Known → Type 0
SlotFits now slots None k = k ≡ unknown
SlotFits now slots (Some q) k = StepperFits now slots q k

-- such a stepper isn't halted
pub not_halted : (now slots : ℕ) (o : Option Pending) (k : Known) → SlotFits now slots o k → is_halted o ≡ false
not_halted now slots None k f = refl
not_halted now slots (Some q) k f = f.halted

-- a board that runs, at a tick, and each stepper is as it is known
pub record BoardFits (now slots : ℕ) (ks : ℕ → Known) (b : Controller) : Type 0 where
  pub running : b.state ≡ Running
  pub tick : b.tick ≡ now
  pub slots_are : b.slots ≡ slots
  pub places : length b.steppers ≡ 256
  pub each : (oid : ℕ) → SlotFits now slots (stepper_at b oid) (ks oid)

abbrev pub IsShutBy : Controller → Type 0
IsShutBy b = (reason : ℕ) × (tick : ℕ) × (first : ℕ) × (b.state ≡ Shut reason tick first) × MayEnd reason

-- a board runs on and fits what is known then, with these steps meant besides; or it shut down, and none are meant
abbrev pub Goes : ℕ → ℕ → (ℕ → Known) → (ℕ → Known) → Controller → List Pulse → Type 0
Goes now slots ks next after new =
    (BoardFits now slots next after × ((oid : ℕ) → (ks oid).steps ++ only oid new ≡ (next oid).steps)) ⊎ (IsShutBy after × (new ≡ []))

-- nothing that counts has changed
pub unchanged : (now slots : ℕ) (ks : ℕ → Known) (b c : Controller) → c.state ≡ b.state → c.tick ≡ b.tick → c.slots ≡ b.slots → c.steppers ≡ b.steppers
    → BoardFits now slots ks b → Goes now slots ks ks c []
unchanged now slots ks b c state tick slots_same steppers f =
    inl (
      record {
        running = state ∙ f.running;
        tick = tick ∙ f.tick;
        slots_are = slots_same ∙ f.slots_are;
        places = ap length steppers ∙ f.places;
        each = λ oid. rw steppers (f.each oid);
      },
      λ oid. append-nil (ks oid).steps,
    )

pub split_at : (other : ℕ) (P : ℕ → Type 0) → P other → ((oid : ℕ) → oid ≢ other → P oid) → (oid : ℕ) → P oid
split_at other P here there oid = elim (eqb_tells oid other) [ inl p ↦ subst P (sym p.1) here | inr p ↦ there oid p.1 ]

-- a stepper is replaced
replaced : (now slots : ℕ) (ks next : ℕ → Known) (b : Controller) (other : ℕ) (q : Pending) → other < 256 → BoardFits now slots ks b
    → StepperFits now slots q (next other) → ((oid : ℕ) → oid ≢ other → next oid ≡ ks oid) → BoardFits now slots next (with_stepper b other q)
replaced now slots ks next b other q small f here there = record {
  running = f.running;
  tick = f.tick;
  slots_are = f.slots_are;
  places = length-set b.steppers other (Some q) ∙ f.places;
  each =
      let within : other < length b.steppers = rw f.places small in
      split_at other (λ oid. SlotFits now slots (get_or (set b.steppers other (Some q)) oid None) (next oid))
      (rw (get_or-set_same b.steppers other (Some q) None within) here)
      (λ oid ne. rw (get_or-set_other b.steppers other oid (Some q) None ne, there oid ne) (f.each oid));
}

-- a stepper that is there has one of the board's places
pub within : (b : Controller) (other : ℕ) (q : Pending) → length b.steppers ≡ 256 → stepper_at b other ≡ Some q → other < 256
within b other q places at =
    elim (leb_tells 256 other) [
      | inl p ↦ absurd (none_some q (sym (get_or_past b.steppers other None (rw places p.1)) ∙ at))
      | inr p ↦ omega (arith, p.1)
    ]

pub at_own : {A : Type 0} (other : ℕ) (a b : A) → (if other == other then a else b) ≡ a
at_own other a b = elim (eqb_tells other other) [ inl p ↦ rw p.0 refl | inr p ↦ absurd (p.1 refl) ]

pub at_others : {A : Type 0} (other oid : ℕ) (a b : A) → oid ≢ other → (if other == oid then a else b) ≡ b
at_others other oid a b ne = elim (eqb_tells other oid) [ inl p ↦ absurd (ne (sym p.1)) | inr p ↦ rw p.0 refl ]

-- with a stepper that is there
here : (b : Controller) (other now slots : ℕ) (k : Known) (o : Option Pending) → stepper_at b other ≡ o → SlotFits now slots (stepper_at b other) k → SlotFits now slots o k
here b other now slots k o at f = let At : Option Pending → Type 0 = λ x. SlotFits now slots x k in subst At at f

pub not_made : (k : Known) → k ≡ unknown → k.made ≡ true → ⊥
not_made k e made = true_false (sym (ap (λ (x : Known). x.made) e) ∙ made) where
  true_false : false ≡ true → ⊥
  true_false e = cc

-- the direction is set
dir_goes : (now slots : ℕ) (ks : ℕ → Known) (b : Controller) (other dir : ℕ) (o : Option Pending) → stepper_at b other ≡ o → BoardFits now slots ks b → (ks other).made ≡ true
    → Goes now slots ks (λ oid. if other == oid then record (ks oid) { up = dir == 1 } else ks oid) (set_dir b other o dir).board []
dir_goes now slots ks b other dir None at f made = absurd (not_made (ks other) (here b other now slots (ks other) None at (f.each other)) made)
dir_goes now slots ks b other dir (Some q) at f made =
    let s = here b other now slots (ks other) (Some q) at (f.each other) in
    let next : ℕ → Known = λ oid. if other == oid then record (ks oid) { up = dir == 1 } else ks oid in
    let fits : StepperFits now slots (record q { up = dir == 1 }) (record (ks other) { up = dir == 1 }) =
    record { made = s.made; halted = s.halted; slots_are = s.slots_are; up = refl; clock = s.clock; rises = s.rises; few = s.few } in
    inl (
      replaced now slots ks next b other (record q { up = dir == 1 }) (within b other q f.places at) f (rw (at_own other (record (ks other) { up = dir == 1 }) (ks other)) fits)
          (λ oid ne. at_others other oid (record (ks oid) { up = dir == 1 }) (ks oid) ne),
      split_at other (λ oid. (ks oid).steps ++ [] ≡ (next oid).steps)
          (rw (at_own other (record (ks other) { up = dir == 1 }) (ks other)) (append-nil (ks other).steps))
          (λ oid ne. rw (at_others other oid (record (ks oid) { up = dir == 1 }) (ks oid) ne) (append-nil (ks oid).steps)),
    )

-- a stepper is made
make_goes : (now slots : ℕ) (ks : ℕ → Known) (b : Controller) (other : ℕ) (o : Option Pending) → stepper_at b other ≡ o → BoardFits now slots ks b → other < 256
    → Goes now slots ks (λ oid. if other == oid then record (ks oid) { made = true } else ks oid) (make_stepper b other o).board []
make_goes now slots ks b other None at f small =
    let e : ks other ≡ unknown = here b other now slots (ks other) None at (f.each other) in
    let next : ℕ → Known = λ oid. if other == oid then record (ks oid) { made = true } else ks oid in
    let q : Pending = record { halted = false; up = false; last = 0; groups = []; slots = b.slots } in
    let fits : StepperFits now slots q (record (ks other) { made = true }) =
    rw e (record { made = refl; halted = refl; slots_are = f.slots_are; up = refl; clock = refl; rises = tt; few = λ x. omega arith }) in
    inl (
      replaced now slots ks next b other q small f (rw (at_own other (record (ks other) { made = true }) (ks other)) fits)
          (λ oid ne. at_others other oid (record (ks oid) { made = true }) (ks oid) ne),
      split_at other (λ oid. (ks oid).steps ++ [] ≡ (next oid).steps)
          (rw (at_own other (record (ks other) { made = true }) (ks other)) (append-nil (ks other).steps))
          (λ oid ne. rw (at_others other oid (record (ks oid) { made = true }) (ks oid) ne) (append-nil (ks oid).steps)),
    )
make_goes now slots ks b other (Some q) at f small =
    let s = here b other now slots (ks other) (Some q) at (f.each other) in
    let next : ℕ → Known = λ oid. if other == oid then record (ks oid) { made = true } else ks oid in
    let fits : StepperFits now slots q (record (ks other) { made = true }) =
    record { made = refl; halted = s.halted; slots_are = s.slots_are; up = s.up; clock = s.clock; rises = s.rises; few = s.few } in
    inl (
      record {
        running = f.running;
        tick = f.tick;
        slots_are = f.slots_are;
        places = f.places;
        each = split_at other (λ oid. SlotFits now slots (stepper_at b oid) (next oid))
            (rw (at, at_own other (record (ks other) { made = true }) (ks other)) fits)
            (λ oid ne. rw (at_others other oid (record (ks oid) { made = true }) (ks oid) ne) (f.each oid));
      },
      split_at other (λ oid. (ks oid).steps ++ [] ≡ (next oid).steps)
          (rw (at_own other (record (ks other) { made = true }) (ks other)) (append-nil (ks other).steps))
          (λ oid ne. rw (at_others other oid (record (ks oid) { made = true }) (ks oid) ne) (append-nil (ks oid).steps)),
    )

no_groups : (gs : List Group) → length gs ≡ 0 → gs ≡ []
no_groups [] e = refl
no_groups (g ∷ gs) e = absurd (omega (arith, e))

-- where all its steps are before a tick no step pends then
pub none_pends : (now slots x : ℕ) (q : Pending) (k : Known) → StepperFits now slots q k → x ≤ now → AreBelow x k.ends → q.groups ≡ []
none_pends now slots x q k s h below =
    no_groups q.groups (omega (arith, all_counted now now q.groups (omega arith) s.rises, s.few now, none_from x now k.ends h below))

-- the clock is set
reset_goes : (own : ℕ → ℕ) (turn now slots : ℕ) (ks : ℕ → Known) (b : Controller) (other clock : ℕ) (o : Option Pending) → stepper_at b other ≡ o → BoardFits now slots ks b
    → own turn ≤ now → IsGoodReset own turn (ks other)
    → Goes now slots ks (λ oid. if other == oid then record (ks oid) { clock = clock } else ks oid) (reset b other o clock).board []
reset_goes own turn now slots ks b other clock None at f h good = absurd (not_made (ks other) (here b other now slots (ks other) None at (f.each other)) good.made)
reset_goes own turn now slots ks b other clock (Some q) at f h good =
    let s = here b other now slots (ks other) (Some q) at (f.each other) in
    let none : q.groups ≡ [] = none_pends now slots (own turn) q (ks other) s h good.before in
    let next : ℕ → Known = λ oid. if other == oid then record (ks oid) { clock = clock } else ks oid in
    let r : Pending = record q { last = clock; halted = false } in
    let fits : StepperFits now slots r (record (ks other) { clock = clock }) =
    record { made = s.made; halted = refl; slots_are = s.slots_are; up = s.up; clock = rw none refl; rises = s.rises; few = s.few } in
    rw none
    (inl (
      replaced now slots ks next b other (record q { groups = []; last = clock; halted = false }) (within b other q f.places at) f
          (rw (at_own other (record (ks other) { clock = clock }) (ks other)) (rw none at fits))
          (λ oid ne. at_others other oid (record (ks oid) { clock = clock }) (ks oid) ne),
      split_at other (λ oid. (ks oid).steps ++ [] ≡ (next oid).steps)
          (rw (at_own other (record (ks other) { clock = clock }) (ks other)) (append-nil (ks other).steps))
          (λ oid ne. rw (at_others other oid (record (ks oid) { clock = clock }) (ks oid) ne) (append-nil (ks oid).steps)),
    ))

-- a triple that is good finds its stepper, which has room
pub room_left : (own : ℕ → ℕ) (slots turn now : ℕ) (q : Pending) (k : Known) (t : Triple) (ticks : List ℕ) → StepperFits now slots q k → own turn ≤ now
    → IsGoodTriple own slots turn k t ticks → length q.groups < q.slots
room_left own slots turn now q k t ticks s h good =
    omega (arith, s.slots_are, all_counted now now q.groups (omega arith) s.rises, s.few now, counts_fall (own turn) now k.ends h, good.room)

follows : (now : ℕ) (q : Pending) (first clock : ℕ) → end_of q.last q.groups ≡ clock → GroupsRiseFrom now q.groups → clock < first → Follows now q.last q.groups first
follows now q first clock e r h = behind q.last q.groups e r where
  behind : (last : ℕ) (gs : List Group) → end_of last gs ≡ clock → GroupsRiseFrom now gs → Follows now last gs first
  behind last [] e r = tt
  behind last (g ∷ gs) e r = (end_least now last g gs r, rw e h)

pub fair_for : (own : ℕ → ℕ) (slots turn now : ℕ) (q : Pending) (k : Known) (t : Triple) (ticks : List ℕ) → StepperFits now slots q k → own turn ≤ now
    → IsGoodTriple own slots turn k t ticks → now < slice_index ticks 0 + 2 ^ 31 → IsFair now q t ticks
fair_for own slots turn now q k t ticks s h good timely = record {
  ticks_of = good.ticks_of;
  continues = rw s.clock good.continues;
  rise = good.rise;
  near = (timely, omega (arith, good.near, h));
  follows = follows now q (slice_index ticks 0) k.clock s.clock s.rises good.behind;
}

-- of the reasons to refuse a triple only one is left
pub refusal_is : (now : ℕ) (q : Pending) (t : Triple) (late : Bool) → 0 < t.count → length q.groups < q.slots → (is_none_pending q.groups && nat_lt (first_of now q t) now) ≡ late
    → refusal now q t ≡ (if late then Some (timer_too_close, first_of now q t) else None)
refusal_is now q t late some room e =
    elim (eqb_tells t.count 0) [
      | inl p ↦ absurd (omega (arith, p.1, some))
      | inr p ↦ rw p.0 (elim (leb_tells q.slots (length q.groups)) [ inl r ↦ absurd (omega (arith, r.1, room)) | inr r ↦ rw (r.0, e) refl ])
    ]

-- the ticks of a fair triple go on from those that pend
goes_on : (now last : ℕ) (gs : List Group) (ticks : List ℕ) → GroupsRiseFrom now gs → Follows now last gs (slice_index ticks 0) → TicksRise ticks
    → (gs ≡ [] → now ≤ slice_index ticks 0) → 0 < length ticks → UpFrom (end_of now gs) ticks
goes_on now last gs [] r h rise at some = absurd (omega arith)
goes_on now last [] (t ∷ ts) r h rise at some = rise_up now t ts rise (at refl)
goes_on now last (g ∷ gs) (t ∷ ts) r h rise at some =
    let e = end_any last now g gs r.0 in
    let behind : end_of last (g ∷ gs) < t = h.1 in
    rise_up (end_of now (g ∷ gs)) t ts rise (omega (arith, behind, e))

pub not_late : (now first : ℕ) (gs : List Group) → (is_none_pending gs && nat_lt first now) ≡ false → gs ≡ [] → now ≤ first
not_late now first [] h e = elim (leb_tells (suc first) now) [ inl p ↦ absurd (true_false (sym p.0 ∙ h)) | inr p ↦ omega (arith, p.1) ]
not_late now first (g ∷ gs) h e = absurd (some_none e) where
  some_none : g ∷ gs ≡ [] → ⊥
  some_none e = cc

-- a stepper with one more triple
pub one_more : (own : ℕ → ℕ) (slots turn now oid : ℕ) (q : Pending) (k : Known) (t : Triple) (ticks : List ℕ) → StepperFits now slots q k → IsGoodTriple own slots turn k t ticks
    → IsFair now q t ticks → (q.groups ≡ [] → now ≤ slice_index ticks 0) → StepperFits now slots (with_ticks q ticks) (more_steps oid k ticks)
one_more own slots turn now oid q k t ticks s good fair at =
    let g : Group = record { up = q.up; ticks = ticks } in
    let some : 0 < length ticks = omega (arith, good.ticks_of.number, good.ticks_of.some) in
    record {
      made = s.made;
      halted = s.halted;
      slots_are = s.slots_are;
      up = s.up;
      clock = end_push q.last q.groups g ∙ ap (λ x. last_of x ticks) s.clock;
      rises = rise_push now q.groups g s.rises some (goes_on now q.last q.groups ticks s.rises fair.follows good.rise at some);
      few = λ x. omega (arith, ends_push x q.groups g, s.few x);
    }

-- a triple is taken, or it comes too late
triple_goes : (late : Bool) (own : ℕ → ℕ) (slots turn now : ℕ) (ks : ℕ → Known) (b : Controller) (other : ℕ) (q : Pending) (t : Triple) (ticks : List ℕ)
    → stepper_at b other ≡ Some q → BoardFits now slots ks b → own turn ≤ now → IsGoodTriple own slots turn (ks other) t ticks → StepperFits now slots q (ks other)
    → IsFair now q t ticks → first_of now q t ≡ slice_index ticks 0 → (is_none_pending q.groups && nat_lt (first_of now q t) now) ≡ late
    → Goes now slots ks (λ oid. if other == oid then more_steps oid (ks oid) ticks else ks oid)
    (takes_triple (if late then Some (timer_too_close, first_of now q t) else None) b other q ticks).board
    (steps_taken (if late then Some (timer_too_close, first_of now q t) else None) other q.up ticks)
triple_goes true own slots turn now ks b other q t ticks at f h good s fair first e =
    inr ((timer_too_close, b.tick, first_of now q t, refl, inl refl), refl)
triple_goes false own slots turn now ks b other q t ticks at f h good s fair first e =
    let next : ℕ → Known = λ oid. if other == oid then more_steps oid (ks oid) ticks else ks oid in
    let fits = one_more own slots turn now other q (ks other) t ticks s good fair (λ none. rw first at (not_late now (first_of now q t) q.groups e none)) in
    inl (
      replaced now slots ks next b other (with_ticks q ticks) (within b other q f.places at) f
          (rw (at_own other (more_steps other (ks other) ticks) (ks other)) fits)
          (λ oid ne. at_others other oid (more_steps oid (ks oid) ticks) (ks oid) ne),
      split_at other (λ oid. (ks oid).steps ++ only oid (map (pulse_of other) (steps_of q.up ticks)) ≡ (next oid).steps)
          (rw (at_own other (more_steps other (ks other) ticks) (ks other), only_same other (steps_of q.up ticks), s.up) refl)
          (λ oid ne. rw (at_others other oid (more_steps oid (ks oid) ticks) (ks oid) ne, only_other oid other (steps_of q.up ticks) (λ x. ne (sym x))) (append-nil (ks oid).steps)),
    )

-- the first tick that a stepper counts is the one that is meant
pub first_is : (now : ℕ) (q : Pending) (t : Triple) (ticks : List ℕ) → t.interval < 2 ^ 32 → IsFair now q t ticks → first_of now q t ≡ slice_index ticks 0
first_is now q t ticks small fair = ap (λ ts. slice_index ts 0) (whole now q t ticks small fair)

-- a stepper that isn't halted
runs_if : (h : Bool) (now slots : ℕ) (ks next : ℕ → Known) (b : Controller) (d : Done) (new : List Pulse) → h ≡ false → Goes now slots ks next d.board new
    → Goes now slots ks next (if h then quiet b else d).board (if h then [] else new)
runs_if false now slots ks next b d new e g = g
runs_if true now slots ks next b d new e g = absurd (true_false e)

-- with what the refusal and the ticks are
with_is : (now slots : ℕ) (ks next : ℕ → Known) (b : Controller) (other : ℕ) (up : Bool) (q : Pending) (r s : Option (ℕ × ℕ)) (own ticks : List ℕ) → r ≡ s → own ≡ ticks
    → Goes now slots ks next (takes_triple s b other q ticks).board (steps_taken s other up ticks)
    → Goes now slots ks next (takes_triple r b other q own).board (steps_taken r other up ticks)
with_is now slots ks next b other up q r s own ticks e f g =
    let At : Option (ℕ × ℕ) → Type 0 = λ x. Goes now slots ks next (takes_triple x b other q own).board (steps_taken x other up ticks) in
    let On : List ℕ → Type 0 = λ x. Goes now slots ks next (takes_triple s b other q x).board (steps_taken s other up ticks) in
    subst At (sym e) (subst On (sym f) g)

abbrev StepGoes : ℕ → (ℕ → Known) → Controller → ℕ → Option Pending → Triple → List ℕ → Type 0
StepGoes slots ks b other o t ticks =
    IsFairOn b.tick o t ticks × IsMade o
    × Goes b.tick slots ks (λ oid. if other == oid then more_steps oid (ks oid) ticks else ks oid) (queue_step b other o t).board (meant_on b.tick other o t ticks)

step_goes : (own : ℕ → ℕ) (slots turn : ℕ) (ks : ℕ → Known) (b : Controller) (other : ℕ) (o : Option Pending) (t : Triple) (ticks : List ℕ)
    → stepper_at b other ≡ o → BoardFits b.tick slots ks b → own turn ≤ b.tick → IsGoodTriple own slots turn (ks other) t ticks → b.tick < slice_index ticks 0 + 2 ^ 31
    → StepGoes slots ks b other o t ticks
step_goes own slots turn ks b other None t ticks at f h good timely = absurd (not_made (ks other) (here b other b.tick slots (ks other) None at (f.each other)) good.made)
step_goes own slots turn ks b other (Some q) t ticks at f h good timely =
    let now = b.tick in
    let s = here b other now slots (ks other) (Some q) at (f.each other) in
    let fair = fair_for own slots turn now q (ks other) t ticks s h good timely in
    let late = is_none_pending q.groups && nat_lt (first_of now q t) now in
    let next : ℕ → Known = λ oid. if other == oid then more_steps oid (ks oid) ticks else ks oid in
    let r = refusal_is now q t late good.ticks_of.some (room_left own slots turn now q (ks other) t ticks s h good) refl in (
      λ runs. (good.small, fair),
      s.halted,
      runs_if q.halted now slots ks next b (takes_triple (refusal now q t) b other q (ticks_at (first_of now q t) t)) (steps_taken (refusal now q t) other q.up ticks) s.halted
          (with_is now slots ks next b other q.up q (refusal now q t) (if late then Some (timer_too_close, first_of now q t) else None) (ticks_at (first_of now q t) t) ticks r
          (whole now q t ticks good.small fair)
          (triple_goes late own slots turn now ks b other q t ticks at f h good s fair (first_is now q t ticks good.small fair) refl)),
    )

-- a triple that is queued too late shuts the board down
late_is : (now first : ℕ) (gs : List Group) → gs ≡ [] → first < now → (is_none_pending gs && nat_lt first now) ≡ true
late_is now first [] e h = elim (leb_tells (suc first) now) [ inl p ↦ rw p.0 refl | inr p ↦ absurd (omega (arith, p.1, h)) ]
late_is now first (g ∷ gs) e h = absurd (some_none e) where
  some_none : g ∷ gs ≡ [] → ⊥
  some_none e = cc

lost_if : (h : Bool) (b : Controller) (d : Done) → h ≡ false → IsShutBy d.board → IsShutBy (if h then quiet b else d).board
lost_if false b d e k = k
lost_if true b d e k = absurd (true_false e)

lost_as : (b : Controller) (other first : ℕ) (q : Pending) (r : Option (ℕ × ℕ)) (ticks : List ℕ) → r ≡ Some (timer_too_close, first) → IsShutBy (takes_triple r b other q ticks).board
lost_as b other first q r ticks e =
    let At : Option (ℕ × ℕ) → Type 0 = λ x. IsShutBy (takes_triple x b other q ticks).board in
    subst At (sym e) (timer_too_close, b.tick, first, refl, inl refl)

pub queue_lost : (own : ℕ → ℕ) (slots turn : ℕ) (k : Known) (b : Controller) (other : ℕ) (q : Pending) (t : Triple) (ticks : List ℕ) → StepperFits b.tick slots q k → own turn ≤ b.tick → IsGoodTriple own slots turn k t ticks
    → b.tick < slice_index ticks 0 + 2 ^ 31 → slice_index ticks 0 < own turn → AreBelow (own turn) k.ends → IsShutBy (queue_step b other (Some q) t).board
queue_lost own slots turn k b other q t ticks s h good timely before below =
    let now = b.tick in
    let fair = fair_for own slots turn now q k t ticks s h good timely in
    let first = first_is now q t ticks good.small fair in
    let none = none_pends now slots (own turn) q k s h below in
    let late : (is_none_pending q.groups && nat_lt (first_of now q t) now) ≡ true = late_is now (first_of now q t) q.groups none (omega (arith, first, before, h)) in
    let r = refusal_is now q t true good.ticks_of.some (room_left own slots turn now q k t ticks s h good) late in
    lost_if q.halted b (takes_triple (refusal now q t) b other q (ticks_at (first_of now q t) t)) s.halted
    (lost_as b other (first_of now q t) q (refusal now q t) (ticks_at (first_of now q t) t) r)

step_lost : (own : ℕ → ℕ) (slots turn : ℕ) (ks : ℕ → Known) (b : Controller) (other : ℕ) (o : Option Pending) (t : Triple) (ticks : List ℕ)
    → stepper_at b other ≡ o → BoardFits b.tick slots ks b → own turn ≤ b.tick → IsGoodTriple own slots turn (ks other) t ticks → b.tick < slice_index ticks 0 + 2 ^ 31
    → slice_index ticks 0 < own turn → AreBelow (own turn) (ks other).ends → IsShutBy (queue_step b other o t).board
step_lost own slots turn ks b other None t ticks at f h good timely before below = absurd (not_made (ks other) (here b other b.tick slots (ks other) None at (f.each other)) good.made)
step_lost own slots turn ks b other (Some q) t ticks at f h good timely before below =
    queue_lost own slots turn (ks other) b other q t ticks (here b other b.tick slots (ks other) (Some q) at (f.each other)) h good timely before below

-- a command, of a board that runs
abbrev pub CommandGoes : ℕ → (ℕ → Known) → Controller → Cmd → List ℕ → Type 0
CommandGoes slots ks b c ticks =
    IsFairCommand b c ticks × FindsStepper b c × Goes b.tick slots ks (λ oid. knows_of oid (ks oid) c ticks) (acts b c).board (meant_by b c ticks)

plainly : (slots : ℕ) (ks : ℕ → Known) (b c : Controller) → c.state ≡ b.state → c.tick ≡ b.tick → c.slots ≡ b.slots → c.steppers ≡ b.steppers → BoardFits b.tick slots ks b
    → Unit {0} × Unit {0} × Goes b.tick slots ks ks c []
plainly slots ks b c state tick slots_same steppers f = (tt, tt, unchanged b.tick slots ks b c state tick slots_same steppers f)

pub command_goes : (own : ℕ → ℕ) (slots turn : ℕ) (ks : ℕ → Known) (b : Controller) (c : Cmd) (ticks : List ℕ) → BoardFits b.tick slots ks b → own turn ≤ b.tick
    → ((oid : ℕ) → IsGoodFor own slots oid turn (ks oid) c ticks) → IsTimely b.tick c ticks → CommandGoes slots ks b c ticks
command_goes own slots turn ks b (cmd.QueueStep other interval count add) ticks f h good timely =
    step_goes own slots turn ks b other (stepper_at b other) (record { interval = interval; count = count; add = add }) ticks refl f h (good other refl) timely
command_goes own slots turn ks b (cmd.ResetStepClock other clock) ticks f h good timely =
    (tt, not_halted b.tick slots (stepper_at b other) (ks other) (f.each other), reset_goes own turn b.tick slots ks b other clock (stepper_at b other) refl f h (good other refl))
command_goes own slots turn ks b (cmd.SetNextStepDir other dir) ticks f h good timely =
    (tt, tt, dir_goes b.tick slots ks b other dir (stepper_at b other) refl f (good other refl))
command_goes own slots turn ks b (cmd.ConfigStepper other step dir invert width) ticks f h good timely =
    (tt, tt, make_goes b.tick slots ks b other (stepper_at b other) refl f (good other))
command_goes own slots turn ks b cmd.EmergencyStop ticks f h good timely = (tt, tt, inr ((command_request, b.tick, 0, refl, inr refl), refl))
command_goes own slots turn ks b (cmd.AllocateOids count) ticks f h good timely = plainly slots ks b (record b { oids = count }) refl refl refl refl f
command_goes own slots turn ks b (cmd.FinalizeConfig crc) ticks f h good timely = plainly slots ks b (record b { complete = true; crc = crc }) refl refl refl refl f
command_goes own slots turn ks b _ ticks f h good timely = plainly slots ks b b refl refl refl refl f

pub command_lost : (own : ℕ → ℕ) (slots turn : ℕ) (ks : ℕ → Known) (b : Controller) (c : Cmd) (ticks : List ℕ) → BoardFits b.tick slots ks b → own turn ≤ b.tick
    → ((oid : ℕ) → IsGoodFor own slots oid turn (ks oid) c ticks) → IsTimely b.tick c ticks → IsLostFor own turn ks c ticks → IsShutBy (acts b c).board
command_lost own slots turn ks b (cmd.QueueStep other interval count add) ticks f h good timely lost =
    step_lost own slots turn ks b other (stepper_at b other) (record { interval = interval; count = count; add = add }) ticks refl f h (good other refl) timely lost.0 lost.1
command_lost own slots turn ks b _ ticks f h good timely lost = absurd lost
