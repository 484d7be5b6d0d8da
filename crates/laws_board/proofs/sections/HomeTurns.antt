-- A stepper in a section, of moves or homing, turn by turn.
use Rattle.std.proofs.Common.{◌≡◌, ◌≢◌, ℕ, Bool, true, false, ◌+◌, ◌%◌, ◌^◌, ◌<◌, ◌≤◌, ◌⊎◌, List, [], ◌∷◌, ◌++◌, Option, Some, None, refl, ap, sym, ◌∙◌, subst, arith, inl, inr, append-nil, rules}
use Rattle.laws_board.proofs.Names.{eqb_tells, Pulse, Clocks, unit_orders, units_orders, StepUnit, Release, batch_at, units_of, BoardSection, of_stepper, section_steps}
use Rattle.step_feed.specs.Pacing.{ArePaced, pending}
use Rattle.step_feed.specs.Rings.{count_from}
use Rattle.section_units.specs.Sections.{AreBegunBy, AreChained, IsUnit, steps_said}
use Rattle.laws_board.specs.sections.Known.{Sent, sent_at, AreBelow}
use Rattle.laws_board.specs.sections.Courses.{Part, Course, course_parts, next_part, course_behind, course_from, IsStopped, AreMadeFor, MaySetClock, AreGoodOn}
use Rattle.laws_board.proofs.sections.Entering.{said_told, told_by}
use Rattle.laws_board.proofs.sections.Lists.{sent_append}
use Rattle.laws_board.proofs.sections.Stepping.{course_append}
use Rattle.laws_board.proofs.sections.Units.{at_own, behind_unit}
use Rattle.laws_board.proofs.sections.Waiting.{Frame, base, IsInside, AreInside, lasts, few_pend}
use Rattle.laws_board.proofs.sections.Releasing.{AreFrom, after_turn, pushed, from_down, none_at, paced_from}
use Rattle.laws_board.proofs.sections.HomeUnits.{Goes, clock_ahead, good_on_append, other_unit, set_at, unclocked, unit_on}
use Rattle.plan_types.proofs.Facts.{true_false}
use Rattle.laws_board.proofs.sections.Standing.{no_front}

-- the turn in which the parts stop that are begun in a section
abbrev pub stop_of : Bool → BoardSection → Option ℕ
stop_of true s = Some s.end
stop_of false s = None

-- a stepper whose part in the section has not begun yet
pub record NotYet (f : Frame) (stops : ℕ → Option ℕ) (oid : ℕ) (homes : Bool) (s : BoardSection) (c0 c : Course) (ls : List ℕ) (us : List StepUnit) : Type 0 where
  pub none : ls ≡ []
  pub units : AreBegunBy homes f.clocks (base f) us
  pub all : steps_said oid false us ≡ section_steps oid s
  pub idle : (n : ℕ) → f.start ≤ n + 254 → IsStopped stops n c.since ⊎ AreBelow (f.own n) c.known.ends
  pub same : course_parts c ≡ course_parts c0
  pub made : us ≢ [] → c.known.made ≡ true

-- or it has
pub record Begun (f : Frame) (stops : ℕ → Option ℕ) (oid : ℕ) (homes : Bool) (s : BoardSection) (c0 c : Course) (ls : List ℕ) (us : List StepUnit) : Type 0 where
  pub goes : Goes f oid (section_steps oid s) c.known ls us
  pub turn : ℕ
  pub since : c.since ≡ Some turn
  pub soon : homes ≡ false → f.start ≤ turn + 250
  pub stop : stops turn ≡ stop_of homes s
  pub past : (ps : List Pulse) → AreMadeFor f.own stops c.past ps → AreMadeFor f.own stops (course_parts c0) ps
  pub again : ls ≡ [] → homes ≡ true → AreBegunBy true f.clocks (base f) us × (steps_said oid false us ≡ section_steps oid s) × (c.known.steps ≡ [])

abbrev pub Stage : Frame → (ℕ → Option ℕ) → ℕ → Bool → BoardSection → Course → Course → List ℕ → List StepUnit → Type 0
Stage f stops oid homes s c0 c ls us = NotYet f stops oid homes s c0 c ls us ⊎ Begun f stops oid homes s c0 c ls us

-- the same, with a fact of the units that wait, where it has not
abbrev pub StageWith : Frame → (ℕ → Option ℕ) → ℕ → Bool → BoardSection → Course → (List StepUnit → Type 0) → Course → List ℕ → List StepUnit → Type 0
StageWith f stops oid homes s c0 Q c ls us = (NotYet f stops oid homes s c0 c ls us × Q us) ⊎ Begun f stops oid homes s c0 c ls us

-- where that fact holds, units of a homing section come late enough only behind its part's beginning
abbrev pub IsEarly : Frame → Bool → ℕ → (List StepUnit → Type 0) → Type 0
IsEarly f homes turn Q = (us : List StepUnit) → Q us → homes ≡ true → us ≢ [] → turn + 252 ≤ f.start

low_clock : (b : ℕ) → b % 2 ^ 32 ≤ b
low_clock b = omega arith

wrapped_unit : (clocks : Clocks) (b : ℕ) (u : StepUnit) → IsUnit clocks b u → IsUnit clocks (b % 2 ^ 32) u
wrapped_unit clocks b u i = search (rules, low_clock)

-- units behind a clock that a command has set
chained_apart : (clocks : Clocks) (b : ℕ) (us : List StepUnit) → AreBegunBy true clocks b us → AreChained clocks (b % 2 ^ 32) us
chained_apart clocks b [] a = tt
chained_apart clocks b (u ∷ us) a = (a.0, wrapped_unit clocks b u a.2, a.3)

no_list : (x : ℕ) (xs : List ℕ) → x ∷ xs ≡ [] → ⊥
no_list x xs e = cc

-- a command sets the clock for a homing section
pub begins_apart : (f : Frame) (stops : ℕ → Option ℕ) (oid : ℕ) (s : BoardSection) (c0 c : Course) (us : List StepUnit) (turn : ℕ) → AreBegunBy true f.clocks (base f) us → steps_said oid false us ≡ section_steps oid s
    → (us ≢ [] → c.known.made ≡ true) → stops turn ≡ Some s.end → ((ps : List Pulse) → AreMadeFor f.own stops (course_parts c) ps → AreMadeFor f.own stops (course_parts c0) ps)
    → Begun f stops oid true s c0 (next_part turn (base f % 2 ^ 32) c) [] us
begins_apart f stops oid s c0 c us turn units all made stop past = search (rules, chained_apart, said_told, true_false)

pub empty_part : (own : ℕ → ℕ) (stops : ℕ → Option ℕ) (since : Option ℕ) (steps : List Pulse) (past : List Part) (ps : List Pulse) → steps ≡ [] → AreMadeFor own stops (record { since = since; steps = steps } ∷ past) ps
    → AreMadeFor own stops past ps
empty_part own stops since steps past ps none p7 = search (rules, no_front, append-nil)

some_units : (u : StepUnit) (us : List StepUnit) → u ∷ us ≢ []
some_units u us e = cc

-- the first unit of a stepper in a section of moves
first_unit : (f : Frame) (stops : ℕ → Option ℕ) (oid : ℕ) (s : BoardSection) (c0 : Course) (turn : ℕ) (c : Course) (ls : List ℕ) (u : StepUnit) (us : List StepUnit) → u.stepper ≡ oid
    → NotYet f stops oid false s c0 c ls (u ∷ us) → IsInside f u → f.start ≤ turn + 250 → u.due ≤ turn + 250 → 0 < f.slots → stops turn ≡ None
    → AreGoodOn f.own stops f.slots oid c (sent_at turn (unit_orders u)) × Begun f stops oid false s c0 (course_from oid c (sent_at turn (unit_orders u))) (u.last ∷ ls) us
first_unit f stops oid s c0 turn c ls u us own n i soon due slots goes_on =
    let (reset, told, unit, chain) = n.units in
    let made = n.made (some_units u us) in
    let b = base f % 2 ^ 32 in
    let c1 = next_part turn b c in
    let v = unclocked u in
    let g : Goes f oid (section_steps oid s) c1.known [] (v ∷ us) = record {
      made = λ _. made;
      chain = (refl, wrapped_unit f.clocks (base f) v (record { expands = unit.expands; rise = unit.rise; small = unit.small; first = unit.first; last = unit.last; due = unit.due }), chain);
      ends = refl;
      said = told_by oid c.known.up false u us told ∙ n.all;
    } in
    let inside : IsInside f v = record { low = i.low; up = i.up; high = i.high; due = i.due } in
    let (good, is, next) = unit_on f stops oid (section_steps oid s) turn c1 [] v us own g inside soon due slots in
    let sent = clock_ahead turn u (base f) reset in
    let At : ℕ → Type 0 = λ x. course_behind x c (set_at turn u.stepper b) ≡ c1 in
    let first : course_behind oid c (set_at turn u.stepper b) ≡ c1 = subst At own (at_own u.stepper c1 c) in
    let Good : List Sent → Type 0 = λ x. AreGoodOn f.own stops f.slots oid c x in
    let From : Course → Type 0 = λ x. AreGoodOn f.own stops f.slots oid x (sent_at turn (unit_orders v)) in
    let may : MaySetClock f.own stops turn c = record { made = made; over = n.idle turn (omega (arith, soon)) } in
    let last : course_from oid c (sent_at turn (unit_orders u)) ≡ record c1 { known = behind_unit oid c1.known v } =
    ap (course_from oid c) sent ∙ ap (λ x. course_from oid x (sent_at turn (unit_orders v))) first ∙ is in
    let Then : Course → Type 0 = λ x. Begun f stops oid false s c0 x (u.last ∷ ls) us in
    let Lasts : List ℕ → Type 0 = λ x. Goes f oid (section_steps oid s) (behind_unit oid c1.known v) (u.last ∷ x) us in
    let Same : List Part → Type 0 = λ x. (ps : List Pulse) → AreMadeFor f.own stops (course_parts c) ps → AreMadeFor f.own stops x ps in (
      subst Good (sym sent) ((λ _. may), subst From (sym first) good),
      subst Then (sym last) (record {
        goes = subst Lasts (sym n.none) next;
        turn = turn;
        since = refl;
        soon = λ _. soon;
        stop = goes_on;
        past = subst Same n.same (λ ps k. k);
        again = λ none. absurd (no_list u.last ls none);
      }),
    )

-- the next unit of a stepper
pub next_unit : (f : Frame) (stops : ℕ → Option ℕ) (oid : ℕ) (homes : Bool) (s : BoardSection) (c0 : Course) (Q : List StepUnit → Type 0) (turn : ℕ) (c : Course) (ls : List ℕ) (u : StepUnit) (us : List StepUnit) → IsEarly f homes turn Q → u.stepper ≡ oid
    → StageWith f stops oid homes s c0 Q c ls (u ∷ us) → IsInside f u → f.start ≤ turn + 250 → u.due ≤ turn + 250 → count_from (f.own turn) ls < f.slots → (homes ≡ false → f.start ≤ turn + 250 → stops turn ≡ None)
    → AreGoodOn f.own stops f.slots oid c (sent_at turn (unit_orders u)) × Begun f stops oid homes s c0 (course_from oid c (sent_at turn (unit_orders u))) (u.last ∷ ls) us
next_unit f stops oid true s c0 Q turn c ls u us early own (inl n) i soon due room goes_on = absurd (omega (arith, early (u ∷ us) n.1 refl (some_units u us), soon))
next_unit f stops oid false s c0 Q turn c ls u us early own (inl n) i soon due room goes_on = first_unit f stops oid s c0 turn c ls u us own n.0 i soon due (omega (arith, room)) (goes_on refl soon)
next_unit f stops oid homes s c0 Q turn c ls u us early own (inr g) i soon due room goes_on =
    let (good, is, next) = unit_on f stops oid (section_steps oid s) turn c ls u us own g.goes i soon due room in
    let Then : Course → Type 0 = λ x. Begun f stops oid homes s c0 x (u.last ∷ ls) us in (
      good,
      subst Then (sym is) (record { goes = next; turn = g.turn; since = g.since; soon = g.soon; stop = g.stop; past = g.past; again = λ none. absurd (no_list u.last ls none) }),
    )

-- the units of a turn
abbrev pub TurnOn : Frame → (ℕ → Option ℕ) → ℕ → Bool → BoardSection → Course → (List StepUnit → Type 0) → ℕ → Course → List Release → List Release → Type 0
TurnOn f stops oid homes s c0 Q turn c before rs =
    let sent = sent_at turn (units_orders (batch_at turn rs)) in
    AreGoodOn f.own stops f.slots oid c sent × StageWith f stops oid homes s c0 Q (course_from oid c sent) (lasts oid (pushed turn before rs)) (of_stepper oid (units_of (after_turn turn rs)))

-- one unit ahead of others that are sent in a turn
one_and_more : (f : Frame) (stops : ℕ → Option ℕ) (oid : ℕ) (homes : Bool) (s : BoardSection) (c0 : Course) (Q : List StepUnit → Type 0) (turn : ℕ) (c next : Course) (r : Release) (before rs : List Release)
    → AreGoodOn f.own stops f.slots oid c (sent_at turn (unit_orders r.unit)) → course_from oid c (sent_at turn (unit_orders r.unit)) ≡ next → TurnOn f stops oid homes s c0 Q turn next (r ∷ before) rs
    → AreGoodOn f.own stops f.slots oid c (sent_at turn (units_orders (r.unit ∷ batch_at turn rs)))
    × StageWith f stops oid homes s c0 Q (course_from oid c (sent_at turn (units_orders (r.unit ∷ batch_at turn rs)))) (lasts oid (pushed turn (r ∷ before) rs)) (of_stepper oid (units_of (after_turn turn rs)))
one_and_more f stops oid homes s c0 Q turn c next r before rs good is rest = search (rules, unit_orders, units_orders, batch_at, sent_append, course_append, of_stepper, units_of, good_on_append)

-- of another stepper nothing more is known
stage_other : (f : Frame) (stops : ℕ → Option ℕ) (oid : ℕ) (homes : Bool) (s : BoardSection) (c0 : Course) (Q : List StepUnit → Type 0) (c : Course) (ls ms : List ℕ) (us : List StepUnit) → ms ≡ ls → StageWith f stops oid homes s c0 Q c ls us
    → StageWith f stops oid homes s c0 Q c ms us
stage_other f stops oid homes s c0 Q c ls ms us e st =
    let At : List ℕ → Type 0 = λ x. StageWith f stops oid homes s c0 Q c x us in
    subst At (sym e) st

pub turn_on : (f : Frame) (stops : ℕ → Option ℕ) (oid : ℕ) (homes : Bool) (s : BoardSection) (c0 : Course) (Q : List StepUnit → Type 0) (turn from : ℕ) (c : Course) (before rs : List Release) → IsEarly f homes turn Q → f.start ≤ from + 250
    → StageWith f stops oid homes s c0 Q c (lasts oid before) (of_stepper oid (units_of rs)) → ArePaced f.clocks f.slots from before rs → AreInside f before → AreInside f rs → AreFrom turn rs
    → (homes ≡ false → f.start ≤ turn + 250 → stops turn ≡ None) → TurnOn f stops oid homes s c0 Q turn c before rs
turn_on f stops oid homes s c0 Q turn from c before [] early soon st p b i a goes_on = (tt, st)
turn_on f stops oid homes s c0 Q turn from c before (r ∷ rs) early soon st p b i a goes_on =
    elim (eqb_tells r.turn turn) [
      | inl e ↦
          let later : f.start ≤ r.turn + 250 = omega (arith, soon, p.0.after) in
          let here : f.start ≤ turn + 250 = omega (arith, later, e.1) in
          rw e.0 (elim (eqb_tells r.unit.stepper oid) [
            | inl x ↦
                let few : count_from (f.own turn) (lasts oid before) < f.slots = omega (arith, few_pend f turn oid before b, ap (λ y. pending f.clocks y turn before) x.1, ap (λ y. pending f.clocks r.unit.stepper y before) e.1, p.0.room.steps) in
                let us = of_stepper oid (units_of rs) in
                let one = next_unit f stops oid homes s c0 Q turn c (lasts oid before) r.unit us early x.1 (rw x.0 at st) i.0 here (omega (arith, p.0.room.due, e.1)) few goes_on in
                let own : lasts oid (r ∷ before) ≡ r.unit.last ∷ lasts oid before = rw x.0 refl in
                let next = course_from oid c (sent_at turn (unit_orders r.unit)) in
                one_and_more f stops oid homes s c0 Q turn c next r before rs one.0 refl
                (turn_on f stops oid homes s c0 Q turn r.turn next (r ∷ before) rs early later (stage_other f stops oid homes s c0 Q next (r.unit.last ∷ lasts oid before) (lasts oid (r ∷ before)) us own (inr one.1)) p.1 (i.0, b) i.1 a.1 goes_on)
            | inr x ↦
                let own : lasts oid (r ∷ before) ≡ lasts oid before = rw x.0 refl in
                let other = other_unit f.own stops f.slots turn oid c r.unit x.1 in
                one_and_more f stops oid homes s c0 Q turn c c r before rs other.0 other.1
                (turn_on f stops oid homes s c0 Q turn r.turn c (r ∷ before) rs early later (stage_other f stops oid homes s c0 Q c (lasts oid before) (lasts oid (r ∷ before)) (of_stepper oid (units_of rs)) own (rw x.0 at st)) p.1 (i.0, b) i.1 a.1 goes_on)
          ])
      | inr e ↦
          let later : turn + 1 ≤ r.turn = omega (arith, e.1, a.0) in
          let none = none_at turn rs (from_down (turn + 1) r.turn rs later (paced_from f.clocks f.slots r.turn (r ∷ before) rs p.1)) in
          rw (e.0, none) (tt, st)
    ]
