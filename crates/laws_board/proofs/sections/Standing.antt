-- A board on which triggers may halt steppers stands as the host knows it, part by part.
use Rattle.std.proofs.Common.{◌≡◌, ℕ, Bool, true, false, ◌+◌, ◌≤◌, ◌⊎◌, List, [], ◌∷◌, ◌++◌, length, map, Option, Some, None, refl, ap, sym, ◌∙◌, subst, arith, inl, inr, append_assoc, append-nil, rules}
use Rattle.laws_board.proofs.Names.{leb_tells, Running, Pulse, Pending, Controller, only}
use Rattle.plan_types.specs.Plan.{pulse_of}
use Rattle.plan_types.specs.Board.{end_of, pending_steps}
use Rattle.board_sim.specs.Board.{stepper_at}
use Rattle.board_sim.specs.Fair.{GroupsRiseFrom, pending_at}
use Rattle.board_sim.specs.Halted.{is_halted}
use Rattle.step_feed.specs.Rings.{count_from}
use Rattle.laws_board.specs.sections.Courses.{Course, course_parts, no_course, IsFrom, IsStopped, AreBefore, AreBeforeTurn, AreBeforeStop, AreMadeFor, IsMadeBy}
use Rattle.laws_board.proofs.sections.Counts.{ends_from}
use Rattle.laws_board.specs.sections.Known.{AreBelow}
use Rattle.laws_board.proofs.sections.Fits.{StepperFits, none_pends}
use Rattle.laws_board.proofs.sections.Lists.{own_up}
use Rattle.laws_board.proofs.sections.Moving.{QueueMoves, SlotMoves, BoardMoves}
use Rattle.laws_board.proofs.sections.Passes.{AreBetween}

-- a stepper's queue stands as the host knows it: where it isn't halted with the steps that pend, else with none
pub record QueueStands (slots now : ℕ) (q : Pending) (c : Course) : Type 0 where
  pub made : c.known.made ≡ true
  pub slots_are : q.slots ≡ slots
  pub up : q.up ≡ c.known.up
  pub clock : q.halted ≡ false → end_of q.last q.groups ≡ c.known.clock
  pub rises : GroupsRiseFrom now q.groups
  pub few : (x : ℕ) → ends_from x q.groups ≤ count_from x c.known.ends
  pub empty : q.halted ≡ true → q.groups ≡ []

abbrev pub SlotStands : ℕ → ℕ → Option Pending → Course → Type 0
SlotStands slots now None c = c ≡ no_course
SlotStands slots now (Some q) c = QueueStands slots now q c

-- a stepper is halted, or no step of its part was taken
abbrev pub IsHeld : Option Pending → Course → Type 0
IsHeld o c = (is_halted o ≡ true) ⊎ (c.known.ends ≡ [])

-- a board that runs, at its tick of a turn, with its steppers: of those whose part is stopped by then each is halted, or no step of it was taken
pub record BoardStands (own : ℕ → ℕ) (stops : ℕ → Option ℕ) (slots by turn : ℕ) (cs : ℕ → Course) (b : Controller) : Type 0 where
  pub running : b.state ≡ Running
  pub tick : b.tick ≡ own turn
  pub slots_are : b.slots ≡ slots
  pub places : length b.steppers ≡ 256
  pub each : (oid : ℕ) → SlotStands slots (own turn) (stepper_at b oid) (cs oid)
  pub stopped : (oid : ℕ) → IsStopped stops by (cs oid).since → IsHeld (stepper_at b oid) (cs oid)

-- such a queue, where the stepper isn't halted
pub fits_of : (slots now : ℕ) (q : Pending) (c : Course) → QueueStands slots now q c → q.halted ≡ false → StepperFits now slots q c.known
fits_of slots now q c s e = record { made = s.made; halted = e; slots_are = s.slots_are; up = s.up; clock = s.clock e; rises = s.rises; few = s.few }

queue_moved : (oid slots now later : ℕ) (q r : Pending) (c : Course) (ps : List Pulse) → QueueStands slots now q c → QueueMoves oid now later q r ps → QueueStands slots later r c
queue_moved oid slots now later q r c ps s m = record {
  made = s.made;
  slots_are = m.slots ∙ s.slots_are;
  up = m.up ∙ s.up;
  clock = λ e. let (was, none, same) = m.free e in same ∙ s.clock was;
  rises = m.rises s.rises;
  few = λ x. omega (arith, m.few x, s.few x);
  empty = λ e. m.empty s.empty e;
}

pub slot_moved : (oid slots now later : ℕ) (o p : Option Pending) (c : Course) (ps : List Pulse) → SlotStands slots now o c → SlotMoves oid now later o p ps → SlotStands slots later p c
slot_moved oid slots now later o p c ps p8 p9 = search (rules, queue_moved)

-- a stepper that was halted stays so
halted_moved : (oid now later : ℕ) (o p : Option Pending) (ps : List Pulse) → SlotMoves oid now later o p ps → is_halted o ≡ true → is_halted p ≡ true
halted_moved oid now later None None ps m h = h
halted_moved oid now later None (Some r) ps m h = absurd m
halted_moved oid now later (Some q) None ps m h = absurd m
halted_moved oid now later (Some q) (Some r) ps m h = m.stays h

-- nor does one stand otherwise of which no step was taken
pub held_moved : (oid now later : ℕ) (o p : Option Pending) (c : Course) (ps : List Pulse) → SlotMoves oid now later o p ps → IsHeld o c → IsHeld p c
held_moved oid now later o p c ps m (inl h) = inl (halted_moved oid now later o p ps m h)
held_moved oid now later o p c ps m (inr e) = inr e

-- then nothing pends
none_below : (x : ℕ) (ends : List ℕ) → ends ≡ [] → AreBelow x ends
none_below x ends e = rw e tt

pub none_held : (slots now : ℕ) (q : Pending) (c : Course) → QueueStands slots now q c → IsHeld (Some q) c → q.groups ≡ []
none_held slots now q c s (inl h) = s.empty h
none_held slots now q c s (inr e) = by q.halted refl
  where
    by : (x : Bool) → q.halted ≡ x → q.groups ≡ []
    by true h = s.empty h
    by false h = none_pends now slots now q c.known (fits_of slots now q c s h) (omega arith) (none_below now c.known.ends e)

pub no_front : (ps qs : List Pulse) → ps ++ qs ≡ [] → ps ≡ []
no_front [] qs e = refl
no_front (p ∷ ps) qs e = absurd (clash p (ps ++ qs) e) where
  clash : (p : Pulse) (qs : List Pulse) → p ∷ qs ≡ [] → ⊥
  clash p qs e = cc

-- and nothing is made
pub held_none : (oid slots now later : ℕ) (o p : Option Pending) (c : Course) (ps : List Pulse) → SlotStands slots now o c → SlotMoves oid now later o p ps → IsHeld o c → ps ≡ []
held_none oid slots now later None None c ps s m h = m
held_none oid slots now later None (Some r) c ps s m h = absurd m
held_none oid slots now later (Some q) None c ps s m h = absurd m
held_none oid slots now later (Some q) (Some r) c ps s m h =
    let none : map (pulse_of oid) (pending_steps q.groups) ≡ [] = ap (λ gs. map (pulse_of oid) (pending_steps gs)) (none_held slots now q c s h) in
    no_front ps (map (pulse_of oid) (pending_steps r.groups)) (no_front (ps ++ map (pulse_of oid) (pending_steps r.groups)) m.dropped (m.made ∙ none))

pub slot_between : (oid slots now later : ℕ) (o p : Option Pending) (c : Course) (ps : List Pulse) → SlotStands slots now o c → SlotMoves oid now later o p ps → AreBetween now later ps
slot_between oid slots now later None None c ps s m = rw m tt
slot_between oid slots now later None (Some r) c ps s m = absurd m
slot_between oid slots now later (Some q) None c ps s m = absurd m
slot_between oid slots now later (Some q) (Some r) c ps s m = m.between s.rises

-- pulses before a stop
pub before_append : (x : ℕ) (ps qs : List Pulse) → AreBefore x ps → AreBefore x qs → AreBefore x (ps ++ qs)
before_append x [] qs a b = b
before_append x (p ∷ ps) qs a b = (a.0, before_append x ps qs a.1 b)

turn_append : (own : ℕ → ℕ) (o : Option ℕ) (ps qs : List Pulse) → AreBeforeTurn own o ps → AreBeforeTurn own o qs → AreBeforeTurn own o (ps ++ qs)
turn_append own None ps qs a b = tt
turn_append own (Some e) ps qs a b = before_append (own e) ps qs a b

pub stop_append : (own : ℕ → ℕ) (stops : ℕ → Option ℕ) (since : Option ℕ) (ps qs : List Pulse) → AreBeforeStop own stops since ps → AreBeforeStop own stops since qs → AreBeforeStop own stops since (ps ++ qs)
stop_append own stops None ps qs a b = tt
stop_append own stops (Some u) ps qs a b = turn_append own (stops u) ps qs a b

turn_none : (own : ℕ → ℕ) (o : Option ℕ) → AreBeforeTurn own o []
turn_none own None = tt
turn_none own (Some e) = tt

pub stop_none : (own : ℕ → ℕ) (stops : ℕ → Option ℕ) (since : Option ℕ) → AreBeforeStop own stops since []
stop_none own stops None = tt
stop_none own stops (Some u) = turn_none own (stops u)

before_up : (low x y : ℕ) (ps : List Pulse) → x ≤ y → AreBetween low x ps → AreBefore y ps
before_up low x y [] h a = tt
before_up low x y (p ∷ ps) h a = (omega (arith, h, a.1), before_up low x y ps h a.2)

turn_before : (own : ℕ → ℕ) → ((k : ℕ) → own k ≤ own (k + 1)) → (turn low : ℕ) (o : Option ℕ) (ps : List Pulse) → (IsFrom turn o → ps ≡ []) → AreBetween low (own (turn + 1)) ps → AreBeforeTurn own o ps
turn_before own up turn low None ps none a = tt
turn_before own up turn low (Some e) ps none a =
    elim (leb_tells e turn) [
      | inl h ↦ rw (none h.1) tt
      | inr h ↦ before_up low (own (turn + 1)) (own e) ps (own_up own up (turn + 1) e (omega (arith, h.1))) a
    ]

pub stop_before : (own : ℕ → ℕ) → ((k : ℕ) → own k ≤ own (k + 1)) → (stops : ℕ → Option ℕ) (turn low : ℕ) (since : Option ℕ) (ps : List Pulse) → (IsStopped stops turn since → ps ≡ [])
    → AreBetween low (own (turn + 1)) ps → AreBeforeStop own stops since ps
stop_before own up stops turn low None ps none a = tt
stop_before own up stops turn low (Some u) ps none a = turn_before own up turn low (stops u) ps none a

-- what was made, behind a move
moved_steps : (late ps pend was dropped more steps : List Pulse) → (ps ++ pend) ++ more ≡ was → (late ++ was) ++ dropped ≡ steps → ((late ++ ps) ++ pend) ++ (more ++ dropped) ≡ steps
moved_steps late ps pend was dropped more steps e f =
    sym (append_assoc ((late ++ ps) ++ pend) more dropped)
    ∙ ap (λ x. x ++ dropped) (ap (λ x. x ++ more) (append_assoc late ps pend) ∙ append_assoc late (ps ++ pend) more ∙ ap (λ x. late ++ x) e) ∙ f

pub made_moved : (own : ℕ → ℕ) (stops : ℕ → Option ℕ) (oid now later : ℕ) (o p : Option Pending) (c : Course) (made ps : List Pulse) → IsMadeBy own stops oid o c made → SlotMoves oid now later o p ps
    → AreBeforeStop own stops c.since ps → IsMadeBy own stops oid p c (made ++ ps)
made_moved own stops oid now later None None c made ps k m before = rw (m, append-nil made) k
made_moved own stops oid now later None (Some r) c made ps k m before = absurd m
made_moved own stops oid now later (Some q) None c made ps k m before = absurd m
made_moved own stops oid now later (Some q) (Some r) c made ps k m before = record {
  early = k.early;
  late = k.late ++ ps;
  is = ap (λ x. x ++ ps) k.is ∙ append_assoc k.early k.late ps;
  past = k.past;
  dropped = m.dropped ++ k.dropped;
  steps = moved_steps k.late ps (map (pulse_of oid) (pending_steps r.groups)) (map (pulse_of oid) (pending_steps q.groups)) k.dropped m.dropped c.known.steps m.made k.steps;
  whole = λ e. let (was, none, same) = m.free e in ap (λ x. x ++ k.dropped) none ∙ k.whole was;
  before = stop_append own stops c.since k.late ps k.before before;
}

-- what was made is made for them
pub made_for : (own : ℕ → ℕ) (stops : ℕ → Option ℕ) (oid : ℕ) (o : Option Pending) (c : Course) (made : List Pulse) → IsMadeBy own stops oid o c made → AreMadeFor own stops (course_parts c) made
made_for own stops oid o c made k =
    (k.early, k.late, k.is, k.past, (pending_at oid o ++ k.dropped, sym (append_assoc k.late (pending_at oid o) k.dropped) ∙ k.steps), k.before)

-- a board moves within a turn
pub board_moved : (own : ℕ → ℕ) (stops : ℕ → Option ℕ) (slots by turn : ℕ) (cs : ℕ → Course) (b c : Controller) (ps : List Pulse) → BoardStands own stops slots by turn cs b → BoardMoves b c ps → c.tick ≡ b.tick
    → BoardStands own stops slots by turn cs c
board_moved own stops slots by turn cs b c ps s m same = search (rules, only, slot_moved, held_moved)
