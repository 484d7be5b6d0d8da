-- The commands of a unit, for a stepper whose steps go part by part.
use Rattle.std.proofs.Common.{◌≡◌, ◌≢◌, ℕ, true, ◌+◌, ◌%◌, ◌^◌, ◌<◌, ◌≤◌, List, [], ◌∷◌, ◌++◌, length, map, Bool, Option, Some, None, refl, ap, sym, ◌∙◌, subst, arith, inr, append-nil, rules}
use Rattle.laws_board.proofs.Names.{Pulse, Cmd, reset_commands, dir_commands, step_command, plain, unit_orders, StepUnit}
use Rattle.plan_types.specs.Board.{last_of}
use Rattle.msg_code.specs.declared.cmd.Cmd.TheVariants as cmd
use Rattle.step_feed.specs.Rings.{count_from}
use Rattle.section_units.specs.Sections.{AreChained, steps_said, ticks_meant}
use Rattle.laws_board.specs.sections.Known.{Sent, sent_at, Known, knows, knows_of, known_from, IsGoodFor, AreGoodFrom}
use Rattle.laws_board.specs.sections.Courses.{Course, next_part, course_of, course_behind, course_from, IsGoodOn, AreGoodOn}
use Rattle.laws_board.proofs.sections.Lists.{sent_append}
use Rattle.laws_board.proofs.sections.Stepping.{course_append}
use Rattle.laws_board.proofs.sections.Ticks.{orders_are}
use Rattle.laws_board.proofs.sections.Units.{at_others, behind_unit, good_unit, own_known, clock_after}
use Rattle.laws_board.proofs.sections.Waiting.{Frame, IsInside, Waits, unit_goes}
use Rattle.board_sim.proofs.Steps.{last_any}

-- a command that sets no clock and binds no stepper
abbrev pub IsPlain : Cmd → Type 0
IsPlain (cmd.ResetStepClock oid clock) = ⊥
IsPlain (cmd.StepperStopOnTrigger oid trigger) = ⊥
IsPlain _ = Unit {0}

abbrev pub ArePlain : List Sent → Type 0
ArePlain [] = Unit {0}
ArePlain (s ∷ ss) = IsPlain s.order.command × ArePlain ss

pub good_on_append : (own : ℕ → ℕ) (stops : ℕ → Option ℕ) (slots oid : ℕ) (c : Course) (ss ts : List Sent) → AreGoodOn own stops slots oid c ss → AreGoodOn own stops slots oid (course_from oid c ss) ts
    → AreGoodOn own stops slots oid c (ss ++ ts)
good_on_append own stops slots oid c [] ts a b = b
good_on_append own stops slots oid c (s ∷ ss) ts a b = (a.0, good_on_append own stops slots oid (course_behind oid c s) ss ts a.1 b)

-- such commands are good part by part where they are good
one_plain : (own : ℕ → ℕ) (stops : ℕ → Option ℕ) (slots oid turn : ℕ) (c : Course) (m : Cmd) (ticks : List ℕ) → IsPlain m → IsGoodFor own slots oid turn c.known m ticks
    → IsGoodOn own stops slots oid turn c m ticks × (course_of oid turn c m ticks ≡ record c { known = knows_of oid c.known m ticks })
one_plain own stops slots oid turn c (cmd.QueueStep other interval count add) ticks p g = (g, refl)
one_plain own stops slots oid turn c (cmd.ResetStepClock other clock) ticks p g = absurd p
one_plain own stops slots oid turn c (cmd.SetNextStepDir other dir) ticks p g = (g, refl)
one_plain own stops slots oid turn c (cmd.ConfigStepper other step dir invert width) ticks p g = (g, refl)
one_plain own stops slots oid turn c (cmd.StepperStopOnTrigger other trigger) ticks p g = absurd p
one_plain own stops slots oid turn c m ticks p g = (tt, refl)

pub plain_good : (own : ℕ → ℕ) (stops : ℕ → Option ℕ) (slots oid : ℕ) (c : Course) (ss : List Sent) → ArePlain ss → AreGoodFrom own slots oid c.known ss
    → AreGoodOn own stops slots oid c ss × (course_from oid c ss ≡ record c { known = known_from oid c.known ss })
plain_good own stops slots oid c [] p g = (tt, refl)
plain_good own stops slots oid c (s ∷ ss) p g =
    let one = one_plain own stops slots oid s.turn c s.order.command s.order.ticks p.0 g.0 in
    let next : Course = record c { known = knows oid c.known s.order } in
    let rest = plain_good own stops slots oid next ss p.1 g.1 in
    let Good : Course → Type 0 = λ x. AreGoodOn own stops slots oid x ss in
    ((one.0, subst Good (sym one.1) rest.0), ap (λ x. course_from oid x ss) one.1 ∙ rest.1)

-- the commands of a unit that sets no clock
no_resets : (turn oid : ℕ) (o : Option ℕ) → o ≡ None → sent_at turn (map plain (reset_commands oid o)) ≡ []
no_resets turn oid o e = rw e refl

plain_dirs : (turn oid : ℕ) (o : Option Bool) (rest : List Sent) → ArePlain rest → ArePlain (sent_at turn (map plain (dir_commands oid o)) ++ rest)
plain_dirs turn oid None rest p = p
plain_dirs turn oid (Some up) rest p = (tt, p)

abbrev step_of : ℕ → StepUnit → Sent
step_of turn u = record { turn = turn; order = record { command = step_command u; ticks = ticks_meant u } }

abbrev dirs_of : ℕ → StepUnit → List Sent
dirs_of turn u = sent_at turn (map plain (dir_commands u.stepper u.up))

-- a unit's commands, those for the clock first
pub clock_first : (turn : ℕ) (u : StepUnit) → sent_at turn (unit_orders u) ≡ sent_at turn (map plain (reset_commands u.stepper u.reset)) ++ (dirs_of turn u ++ step_of turn u ∷ [])
clock_first turn u =
    ap (sent_at turn) (orders_are u)
    ∙ sent_append turn (map plain (reset_commands u.stepper u.reset)) (map plain (dir_commands u.stepper u.up) ++ record { command = step_command u; ticks = ticks_meant u } ∷ [])
    ∙ ap (λ x. sent_at turn (map plain (reset_commands u.stepper u.reset)) ++ x) (sent_append turn (map plain (dir_commands u.stepper u.up)) (record { command = step_command u; ticks = ticks_meant u } ∷ []))

pub unit_plain : (turn : ℕ) (u : StepUnit) → u.reset ≡ None → ArePlain (sent_at turn (unit_orders u))
unit_plain turn u e = search (rules, unit_orders, clock_first, no_resets, plain_dirs)

-- without its clock
abbrev pub unclocked : StepUnit → StepUnit
unclocked u = record u { reset = None }

abbrev pub set_at : ℕ → ℕ → ℕ → Sent
set_at turn oid clock = record { turn = turn; order = plain (cmd.ResetStepClock oid clock) }

some_reset : (turn oid : ℕ) (o : Option ℕ) (tick : ℕ) → o ≡ Some tick → sent_at turn (map plain (reset_commands oid o)) ≡ set_at turn oid (tick % 2 ^ 32) ∷ []
some_reset turn oid o tick e = rw e refl

pub clock_ahead : (turn : ℕ) (u : StepUnit) (tick : ℕ) → u.reset ≡ Some tick → sent_at turn (unit_orders u) ≡ set_at turn u.stepper (tick % 2 ^ 32) ∷ sent_at turn (unit_orders (unclocked u))
clock_ahead turn u tick e =
    clock_first turn u ∙ ap (λ x. x ++ (dirs_of turn u ++ step_of turn u ∷ [])) (some_reset turn u.stepper u.reset tick e) ∙ ap (λ x. set_at turn u.stepper (tick % 2 ^ 32) ∷ x) (sym (clock_first turn (unclocked u)))

-- a unit of another stepper
one_other : (own : ℕ → ℕ) (stops : ℕ → Option ℕ) (slots turn oid other : ℕ) (c : Course) (o : Option ℕ) → other ≢ oid
    → AreGoodOn own stops slots oid c (sent_at turn (map plain (reset_commands other o))) × (course_from oid c (sent_at turn (map plain (reset_commands other o))) ≡ c)
one_other own stops slots turn oid other c None ne = (tt, refl)
one_other own stops slots turn oid other c (Some tick) ne = ((λ e. absurd (ne e), tt), at_others other oid (next_part turn (tick % 2 ^ 32) c) c ne)

dir_other : (own : ℕ → ℕ) (stops : ℕ → Option ℕ) (slots turn oid other : ℕ) (c : Course) (o : Option Bool) → other ≢ oid
    → AreGoodOn own stops slots oid c (sent_at turn (map plain (dir_commands other o))) × (course_from oid c (sent_at turn (map plain (dir_commands other o))) ≡ c)
dir_other own stops slots turn oid other c None ne = (tt, refl)
dir_other own stops slots turn oid other c (Some up) ne = ((λ e. absurd (ne e), tt), ap (λ (k : Known). record c { known = k }) (at_others other oid _ c.known ne))

pub other_unit : (own : ℕ → ℕ) (stops : ℕ → Option ℕ) (slots turn oid : ℕ) (c : Course) (u : StepUnit) → u.stepper ≢ oid
    → AreGoodOn own stops slots oid c (sent_at turn (unit_orders u)) × (course_from oid c (sent_at turn (unit_orders u)) ≡ c)
other_unit own stops slots turn oid c u ne = search (rules, plain, reset_commands, one_other, dir_other, clock_first, at_others, good_on_append, course_append)

-- a stepper that has begun its part in a section, and of which these units wait
pub record Goes (f : Frame) (oid : ℕ) (total : List Pulse) (k : Known) (ls : List ℕ) (us : List StepUnit) : Type 0 where
  pub made : us ≢ [] → k.made ≡ true
  pub chain : AreChained f.clocks k.clock us
  pub ends : k.ends ≡ ls
  pub said : k.steps ++ steps_said oid k.up us ≡ total

waits_of : (f : Frame) (oid : ℕ) (total : List Pulse) (k : Known) (ls : List ℕ) (us : List StepUnit) → Goes f oid total k ls us → Waits f oid total k ls us
waits_of f oid total k ls us g = record { made = g.made; chain = inr g.chain; old = []; ends = g.ends ∙ sym (append-nil ls); below = λ n h. tt; said = g.said }

-- its next unit
pub unit_on : (f : Frame) (stops : ℕ → Option ℕ) (oid : ℕ) (total : List Pulse) (turn : ℕ) (c : Course) (ls : List ℕ) (u : StepUnit) (us : List StepUnit) → u.stepper ≡ oid → Goes f oid total c.known ls (u ∷ us) → IsInside f u
    → f.start ≤ turn + 250 → u.due ≤ turn + 250 → count_from (f.own turn) ls < f.slots
    → AreGoodOn f.own stops f.slots oid c (sent_at turn (unit_orders u)) × (course_from oid c (sent_at turn (unit_orders u)) ≡ record c { known = behind_unit oid c.known u })
    × Goes f oid total (behind_unit oid c.known u) (u.last ∷ ls) us
unit_on f stops oid total turn c ls u us own g i soon due room =
    let k = c.known in
    let (none, unit, chain) = g.chain in
    let (good, next) = unit_goes f oid total turn k ls u us (waits_of f oid total k ls (u ∷ us) g) i soon due room in
    let At : ℕ → Type 0 = λ x. known_from x k (sent_at turn (unit_orders u)) ≡ behind_unit x k u in
    let known = subst At own (own_known turn k u) in
    let (fine, is) = plain_good f.own stops f.slots oid c (sent_at turn (unit_orders u)) (unit_plain turn u none) (good_unit f.own f.slots turn oid k u (λ _. good)) in
    let some : 0 < length (ticks_meant u) = omega (arith, unit.expands.ticks_of.number, unit.expands.ticks_of.some) in
    let last : last_of (clock_after k.clock u.reset) (ticks_meant u) ≡ u.last = last_any (clock_after k.clock u.reset) 0 (ticks_meant u) some ∙ sym unit.last in (
      fine,
      is ∙ ap (λ (x : Known). record c { known = x }) known,
      record { made = next.made; chain = rw last chain; ends = ap (λ x. x ∷ k.ends) (sym unit.last) ∙ ap (λ x. u.last ∷ x) g.ends; said = next.said },
    )
