-- What the laws say of a run in which triggers halt steppers.
use Rattle.std.proofs.Common.{◌≡◌, ℕ, ◌+◌, List, [], ◌∷◌, ◌++◌, length, Option, Some, refl, ap, sym, ◌∙◌, subst, inl, inr, append-nil}
use Rattle.laws_board.proofs.Names.{eqb_tells, Level, BoardDef, BoardState, Pulse, Cmd, only, Core, Step, run_world, new_world, Orders}
use Rattle.msg_code.specs.declared.cmd.Cmd.TheVariants as cmd
use Rattle.board_sim.specs.Board.{stepper_at}
use Rattle.board_world.specs.World.{AllFair}
use Rattle.laws_board.specs.sections.Ends.{MayBe}
use Rattle.laws_board.specs.sections.Known.{Sent, sent_in, knows_of}
use Rattle.laws_board.specs.sections.Runs.{Begins}
use Rattle.laws_board.specs.sections.Courses.{Part, Course, course_parts, no_course, course_of, course_behind, course_from, courses, AreBeforeStop, AreMadeFor, IsGoodRun}
use Rattle.laws_board.proofs.sections.Clocks.{ticks_up}
use Rattle.laws_board.proofs.sections.Taking.{front_front, grows}
use Rattle.laws_board.proofs.sections.Standing.{made_for, stop_none}
use Rattle.laws_board.proofs.sections.Stepping.{Script, Keeps, course_append}
use Rattle.laws_board.proofs.sections.Coursed.{TurnsKeep, begins, turns_keep}

-- a run's script
abbrev pub script_of : (b : BoardDef) (pins : List (List Level)) (own : ℕ → ℕ) (stops : ℕ → Option ℕ) (os : List Orders) (steps : List Step) → IsGoodRun b pins own stops os steps → Script
script_of b pins own stops os steps r = record { own = own; stops = stops; slots = b.slots; all = sent_in 0 os; front = r.front; tail = r.tail; are = r.are; up = ticks_up own r.ticks; ahead = r.ahead; good = r.good; lost = r.lost }

-- the end of a run
pub at_end : (b : BoardDef) (pins : List (List Level)) (own : ℕ → ℕ) (stops : ℕ → Option ℕ) (os : List Orders) (steps : List Step) (r : IsGoodRun b pins own stops os steps)
    → TurnsKeep (script_of b pins own stops os steps r) 0 [] os (new_world b pins) steps
at_end b pins own stops os steps r =
    let p = script_of b pins own stops os steps r in
    turns_keep p 0 [] [] os steps (new_world b pins) r.turns (begins p b pins r.first refl) (append-nil (sent_in 0 os)) r.timely r.settled r.heed

pub all_fair : (b : BoardDef) (pins : List (List Level)) (own : ℕ → ℕ) (stops : ℕ → Option ℕ) (os : List Orders) (steps : List Step) → IsGoodRun b pins own stops os steps → AllFair (new_world b pins) steps
all_fair b pins own stops os steps r = (at_end b pins own stops os steps r).0

pub reason_is : (b : BoardDef) (pins : List (List Level)) (own : ℕ → ℕ) (stops : ℕ → Option ℕ) (os : List Orders) (steps : List Step) → IsGoodRun b pins own stops os steps → MayBe (run_world steps (new_world b pins)).board.controller.state
reason_is b pins own stops os steps r =
    let k = (at_end b pins own stops os steps r).1 in
    elim k.state [
      | inl g ↦ (let At : BoardState → Type 0 = λ o. MayBe o in subst At (sym g.stands.running) tt)
      | inr e ↦
          let (reason, tick, first, state, may) = e.shut in
          (let At : BoardState → Type 0 = λ o. MayBe o in subst At (sym state) may)
    ]

-- parts that come behind others
no_front : (own : ℕ → ℕ) (stops : ℕ → Option ℕ) (since : Option ℕ) (parts : List Part) (steps ps : List Pulse) → AreMadeFor own stops parts ps → AreMadeFor own stops (record { since = since; steps = steps } ∷ parts) ps
no_front own stops since parts steps ps m = (ps, [], sym (append-nil ps), m, (steps, refl), stop_none own stops since)

-- more steps of a part
more_front : (own : ℕ → ℕ) (stops : ℕ → Option ℕ) (c d : Course) (ps : List Pulse) → d.since ≡ c.since → d.past ≡ c.past → Begins c.known.steps d.known.steps → AreMadeFor own stops (course_parts c) ps → AreMadeFor own stops (course_parts d) ps
more_front own stops c d ps since past more (early, late, is, old, front, before) =
    let Old : List Part → Type 0 = λ x. AreMadeFor own stops x early in
    let Before : Option ℕ → Type 0 = λ x. AreBeforeStop own stops x late in
    (early, late, is, subst Old (sym past) old, front_front late c.known.steps d.known.steps front more, subst Before (sym since) before)

-- what a command makes of the parts
one_grows : (own : ℕ → ℕ) (stops : ℕ → Option ℕ) (oid turn : ℕ) (c : Course) (m : Cmd) (ticks : List ℕ) (ps : List Pulse) → AreMadeFor own stops (course_parts c) ps → AreMadeFor own stops (course_parts (course_of oid turn c m ticks)) ps
one_grows own stops oid turn c (cmd.ResetStepClock other clock) ticks ps k =
    elim (eqb_tells other oid) [
      | inl p ↦ rw p.0 (no_front own stops (Some turn) (course_parts c) [] ps k)
      | inr p ↦ rw p.0 k
    ]
one_grows own stops oid turn c m ticks ps k = more_front own stops c (record c { known = knows_of oid c.known m ticks }) ps refl refl (grows oid c.known m ticks) k

pub all_grow_on : (own : ℕ → ℕ) (stops : ℕ → Option ℕ) (oid : ℕ) (c : Course) (ss : List Sent) (ps : List Pulse) → AreMadeFor own stops (course_parts c) ps → AreMadeFor own stops (course_parts (course_from oid c ss)) ps
all_grow_on own stops oid c [] ps k = k
all_grow_on own stops oid c (s ∷ ss) ps k = all_grow_on own stops oid (course_behind oid c s) ss ps (one_grows own stops oid s.turn c s.order.command s.order.ticks ps k)

-- made for the parts behind some of the commands, and so for those behind all
pub made_of_all : (own : ℕ → ℕ) (stops : ℕ → Option ℕ) (oid : ℕ) (done more all : List Sent) (ps : List Pulse) → done ++ more ≡ all → AreMadeFor own stops (course_parts (courses done oid)) ps → AreMadeFor own stops (course_parts (courses all oid)) ps
made_of_all own stops oid done more all ps e k =
    let At : Course → Type 0 = λ x. AreMadeFor own stops (course_parts x) ps in
    let same : course_from oid (courses done oid) more ≡ courses all oid = sym (course_append oid no_course done more) ∙ ap (λ x. courses x oid) e in
    subst At same (all_grow_on own stops oid (courses done oid) more ps k)

pub keeps_fronts : (p : Script) (turn : ℕ) (sent : List Sent) (h : Core) → Keeps p turn turn sent h → (oid : ℕ) → AreMadeFor p.own p.stops (course_parts (courses p.front oid)) (only oid h.made)
keeps_fronts p turn sent h k oid = elim k.state [
  | inl g ↦
      made_of_all p.own p.stops oid g.done g.more p.front (only oid h.made) g.front_is
      (made_for p.own p.stops oid (stepper_at h.board.controller oid) (courses g.done oid) (only oid h.made) (g.made oid))
  | inr e ↦ made_of_all p.own p.stops oid e.done e.more p.front (only oid h.made) e.front_is (e.made oid)
]

pub fronts : (b : BoardDef) (pins : List (List Level)) (own : ℕ → ℕ) (stops : ℕ → Option ℕ) (os : List Orders) (steps : List Step) (r : IsGoodRun b pins own stops os steps)
    → (oid : ℕ) → AreMadeFor own stops (course_parts (courses r.front oid)) (only oid (run_world steps (new_world b pins)).made)
fronts b pins own stops os steps r = keeps_fronts (script_of b pins own stops os steps r) (0 + length os) (sent_in 0 os) (run_world steps (new_world b pins)) (at_end b pins own stops os steps r).1
