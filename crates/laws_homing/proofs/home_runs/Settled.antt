-- As each turn begins, a board has begun the parts that stop by then, and halted their steppers.
use Rattle.std.proofs.Common.{◌≡◌, ℕ, suc, ◌+◌, ◌<◌, ◌≤◌, ◌==◌, ◌⊎◌, inl, inr, Bool, true, false, cond, List, [], ◌∷◌, ◌++◌, length, map, Option, Some, None, refl, ap, sym, ◌∙◌, subst, arith, append_assoc, append-nil, length-append}
use Rattle.laws_board.proofs.Names.{eqb-true, eq-eqb, append_cancel_left, Level, Machine, Running, BoardClock, clock_of, IsValidMachine, board_at, stepper_at, dir_commands, reset_commands, step_command, Cmd, Unit as StepUnit, Entry, Switch, Pending, Meant, commands_of, plain, unit_orders, units_orders, Core, Step, run_world, queued_in, first_state, orders, LinkState, Orders, trigger_of, Member, Homing, members_of, Came, known_by, cons_same}
use Rattle.msg_code.specs.declared.cmd.Cmd.TheVariants as cmd
use Rattle.board_sim.specs.Board as board
use Rattle.board_sim.specs.Halted.{is_halted}
use Rattle.board_sim.specs.RigRuns.{IsHalted}
use Rattle.board_world.specs.Orders.{unit_ticks}
use Rattle.laws_board.specs.turns.Turns.{AreBoardTurns, BoardTurn, stands_after}
use Rattle.laws_board.specs.clocks.Runs.{IsInRun}
use Rattle.laws_board.specs.clocks.Runs as clock_runs
use Rattle.laws_board.proofs.clocks.Lines.{as_long, run_before}
use Rattle.laws_board.proofs.clocks.Orders.{order_length}
use Rattle.laws_board.specs.sections.Courses.{AreInTime, Course, IsFrom, FindStopped, IsInTime, IsSettled, IsStopped, course_behind, course_from, course_of, courses, next_part, no_course}
use Rattle.laws_board.specs.sections.Finds.{AllSetNot, SetsNot, StepsFindHalted}
use Rattle.laws_board.specs.sections.Known.{AreQueued, Known, Sent, more_steps, orders_sent, sent_at, sent_in}
use Rattle.laws_board.proofs.sections.Lists.{cuts, orders_append, orders_at, orders_long, shorter}
use Rattle.laws_homing.specs.home_runs.Sections.{HomesFrom, IsMoved, SetNone, SetNoneFrom, TakesSetUp, queued_in_turns}
use Rattle.laws_homing.specs.home_runs.Settled.{AreHomed, IsHomed, SendNoneIn, SetNoClock, SetNoClockFrom}
use Rattle.laws_homing.specs.fired_runs.Since.{HasFiredSince}
use Rattle.laws_homing.specs.fired_runs.Waiting.{AllStepNot, MoveNone, MoveNoneIn, StepsNot, TookNone}
use Rattle.laws_homing.proofs.fired_runs.Halting.{halts_or_took_none, moves_among, steps_find_halted}
use Rattle.laws_homing.proofs.fired_runs.Rested.{answered_fired, left_of}
use Rattle.laws_homing.proofs.fired_runs.Waiting.{steps_settle}
use Rattle.laws_homing.proofs.home_runs.Forming.{known_formed, moves_is, noted_formed, IsFormed}
use Rattle.laws_homing.proofs.home_runs.Found.{find_behind, found_none, later_steps}
use Rattle.laws_homing.proofs.home_runs.Joining.{all_queued, answered_halt}
use Rattle.laws_homing.proofs.home_runs.Resetting.{AllSetOf, MovesAs, SetsOf, turn_sets}
use Rattle.laws_homing.proofs.home_runs.Staging.{commands_both, ran_steps}
use Rattle.laws_homing.proofs.home_runs.Whole.{turn_commands}
use Rattle.laws_homing.proofs.home_runs.Staying.{halted_stays, not_parts, taken_later}
use Rattle.laws_homing.proofs.home_runs.Windows.{ordered_after}
use Rattle.plan_types.proofs.Facts.{some_same}
use Rattle.laws_board.proofs.sections.Spans.{sent_in_append}
use Rattle.laws_board.proofs.sections.Stepping.{course_append}

-- commands that were sent from a turn on
abbrev pub AllFrom : ℕ → List Sent → Type 0
AllFrom turn [] = Unit {0}
AllFrom turn (s ∷ ss) = (turn ≤ s.turn) × AllFrom turn ss

pub from_at : (turn from : ℕ) (ms : List Meant) → from ≤ turn → AllFrom from (sent_at turn ms)
from_at turn from [] l = tt
from_at turn from (m ∷ ms) l = (l, from_at turn from ms l)

pub from_both : (turn : ℕ) (xs ys : List Sent) → AllFrom turn xs → AllFrom turn ys → AllFrom turn (xs ++ ys)
from_both turn [] ys a b = b
from_both turn (x ∷ xs) ys a b = (a.0, from_both turn xs ys a.1 b)

from_behind : (turn : ℕ) (xs ys : List Sent) → AllFrom turn (xs ++ ys) → AllFrom turn ys
from_behind turn [] ys a = a
from_behind turn (x ∷ xs) ys a = from_behind turn xs ys a.1

pub from_in : (turn from : ℕ) (os : List Orders) → from ≤ turn → AllFrom from (sent_in turn os)
from_in turn from [] l = tt
from_in turn from (o ∷ os) l = from_both from (sent_at turn (queued_in o)) (sent_in (turn + 1) os) (from_at turn from (queued_in o) l) (from_in (turn + 1) from os (omega (arith, l)))

pub later_orders : (later past : List BoardTurn) → (os : List Orders) × (clock_runs.orders_in (later ++ past) ≡ clock_runs.orders_in past ++ os)
later_orders [] past = ([], sym (append-nil (clock_runs.orders_in past)))
later_orders (t ∷ later) past =
    let rest = later_orders later past in
    (rest.0 ++ orders t.control t.batch ∷ [], ap (λ (x : List Orders). x ++ orders t.control t.batch ∷ []) rest.1 ∙ append_assoc (clock_runs.orders_in past) rest.0 (orders t.control t.batch ∷ []))

abbrev pub sent_by : List BoardTurn → List Sent
sent_by turns = sent_in 0 (clock_runs.orders_in turns)

pub sent_parts : (later past : List BoardTurn) → (rest : List Sent) × (sent_by (later ++ past) ≡ sent_by past ++ rest) × AllFrom (length past) rest
sent_parts later past =
    let more = later_orders later past in
    let n = length (clock_runs.orders_in past) in
    let long : length past ≤ 0 + n = let e = order_length past in omega (arith, e) in
    (sent_in (0 + n) more.0, ap (sent_in 0) more.1 ∙ sent_in_append 0 (clock_runs.orders_in past) more.0, from_in (0 + n) (length past) more.0 long)

pub sent_turn : (t : BoardTurn) (before : List BoardTurn) → sent_by (t ∷ before) ≡ sent_by before ++ sent_at (length before) (queued_in (orders t.control t.batch))
sent_turn t before =
    let o = orders t.control t.batch in
    let at : 0 + length (clock_runs.orders_in before) ≡ length before = let e = order_length before in omega (arith, e) in
    sent_in_append 0 (clock_runs.orders_in before) (o ∷ [])
    ∙ ap (λ (n : ℕ). sent_by before ++ (sent_at n (queued_in o) ++ [])) at
    ∙ ap (λ (x : List Sent). sent_by before ++ x) (append-nil (sent_at (length before) (queued_in o)))

queue_is : (turns : List BoardTurn) → orders_sent (sent_by turns) ≡ queued_in_turns turns
queue_is [] = refl
queue_is (t ∷ before) =
    let new = queued_in (orders t.control t.batch) in
    ap orders_sent (sent_turn t before) ∙ orders_append (sent_by before) (sent_at (length before) new) ∙ ap (λ (x : List Meant). x ++ orders_sent (sent_at (length before) new)) (queue_is before)
    ∙ ap (λ (x : List Meant). queued_in_turns before ++ x) (orders_at (length before) new)

-- a part of a stepper's steps is begun by the last command that sets its clock
pub record LastSet (oid turn : ℕ) (ss : List Sent) : Type 0 where
  pub front : List Sent
  pub set : Sent
  pub behind : List Sent
  pub are : ss ≡ front ++ set ∷ behind
  pub at : set.turn ≡ turn
  pub clock : ℕ
  pub is : set.order.command ≡ cmd.ResetStepClock oid clock
  pub none : AllSetNot oid (orders_sent behind)

abbrev Begun : ℕ → ℕ → Course → List Sent → Type 0
Begun oid turn c ss = ((c.since ≡ Some turn) × AllSetNot oid (orders_sent ss)) ⊎ LastSet oid turn ss

-- what one command makes of it
One : ℕ → ℕ → Course → Course → Cmd → ℕ → Type 0
One oid turn c d m at = d.since ≡ Some turn → ((c.since ≡ Some turn) × SetsNot oid m) ⊎ ((at ≡ turn) × ((clock : ℕ) × (m ≡ cmd.ResetStepClock oid clock)))

set_one : (t : Bool) (oid turn at other clock : ℕ) (c : Course) → (other == oid) ≡ t → One oid turn c (cond t (next_part at clock c) c) (cmd.ResetStepClock other clock) at
unfolding One
set_one true oid turn at other clock c e = λ since. inr (some_same at turn since, (clock, ap (λ (n : ℕ). cmd.ResetStepClock n clock) (eqb-true other oid e)))
set_one false oid turn at other clock c e = λ since. inl (since, λ same. clash (other == oid) (eq-eqb other oid same) e)
  where
    clash : (b : Bool) → b ≡ true → b ≡ false → ⊥
    clash true x y = cc
    clash false x y = cc

one_set : (oid turn at : ℕ) (c : Course) (m : Cmd) (ticks : List ℕ) → One oid turn c (course_of oid at c m ticks) m at
unfolding One
one_set oid turn at c (cmd.ResetStepClock other clock) ticks = set_one (other == oid) oid turn at other clock c refl
one_set oid turn at c m ticks = λ since. inl (since, tt)

begun_by : (oid turn : ℕ) (c : Course) (ss : List Sent) → (course_from oid c ss).since ≡ Some turn → Begun oid turn c ss
unfolding One
begun_by oid turn c [] e = inl (e, tt)
begun_by oid turn c (s ∷ ss) e =
    elim (begun_by oid turn (course_behind oid c s) ss e) [
      | inl old ↦ elim (one_set oid turn s.turn c s.order.command s.order.ticks old.0) [
        | inl kept ↦ inl (kept.0, (kept.1, old.1))
        | inr now ↦ inr (record { front = []; set = s; behind = ss; are = refl; at = now.0; clock = now.1.0; is = now.1.1; none = old.1 })
      ]
      | inr last ↦ inr (record { front = s ∷ last.front; set = last.set; behind = last.behind; are = ap (λ (x : List Sent). s ∷ x) last.are; at = last.at; clock = last.clock; is = last.is; none = last.none })
    ]

none_begun : (turn : ℕ) → no_course.since ≡ Some turn → ⊥
none_begun turn e = cc

last_set : (oid turn : ℕ) (ss : List Sent) → (courses ss oid).since ≡ Some turn → LastSet oid turn ss
last_set oid turn ss e = elim (begun_by oid turn no_course ss e) [ inl old ↦ absurd (none_begun turn old.0) | inr last ↦ last ]

-- units that set no clock
clock_none : (i : ℕ) (us : List StepUnit) → SetNoClock us → SetNone i us
clock_none i [] n = tt
clock_none i (u ∷ us) n = (λ same. n.0, clock_none i us n.1)

pub clock_from : (i from : ℕ) (turns : List BoardTurn) → SetNoClockFrom from turns → SetNoneFrom i from turns
clock_from i from [] n = tt
clock_from i from (t ∷ before) n = (λ l. clock_none i t.batch.units (n.0 l), clock_from i from before n.1)

unit_of : (P : ℕ → Type 0) (u : StepUnit) → u.reset ≡ None → AllSetOf P (commands_of (unit_orders u))
unit_of P u none = one u.reset u.up none
  where
    one : (r : Option ℕ) (d : Option Bool) → r ≡ None
        → AllSetOf P (commands_of (map plain (reset_commands u.stepper r) ++ (map plain (dir_commands u.stepper d) ++ record { command = step_command u; ticks = unit_ticks u } ∷ [])))
    one None None e = (tt, tt)
    one None (Some d) e = (tt, (tt, tt))
    one (Some r) d e = absurd (cc)

of_both : (P : ℕ → Type 0) (xs ys : List Cmd) → AllSetOf P xs → AllSetOf P ys → AllSetOf P (xs ++ ys)
of_both P [] ys a b = b
of_both P (x ∷ xs) ys a b = (a.0, of_both P xs ys a.1 b)

units_of : (P : ℕ → Type 0) (us : List StepUnit) → SetNoClock us → AllSetOf P (commands_of (units_orders us))
units_of P [] n = tt
units_of P (u ∷ us) n = subst (λ (l : List Cmd). AllSetOf P l) (sym (commands_both (unit_orders u) (units_orders us))) (of_both P (commands_of (unit_orders u)) (commands_of (units_orders us)) (unit_of P u n.0) (units_of P us n.1))

-- in some turns clocks are set of steppers that move alone
abbrev SentOf : (ℕ → Type 0) → ℕ → List Sent → Type 0
SentOf P from [] = Unit {0}
SentOf P from (s ∷ ss) = (from ≤ s.turn → SetsOf P s.order.command) × SentOf P from ss

sent_both : (P : ℕ → Type 0) (from : ℕ) (xs ys : List Sent) → SentOf P from xs → SentOf P from ys → SentOf P from (xs ++ ys)
sent_both P from [] ys a b = b
sent_both P from (x ∷ xs) ys a b = (a.0, sent_both P from xs ys a.1 b)

sent_here : (P : ℕ → Type 0) (from : ℕ) (front : List Sent) (s : Sent) (behind : List Sent) → SentOf P from (front ++ s ∷ behind) → from ≤ s.turn → SetsOf P s.order.command
sent_here P from [] s behind a l = a.0 l
sent_here P from (x ∷ front) s behind a l = sent_here P from front s behind a.1 l

sent_now : (P : ℕ → Type 0) (from turn : ℕ) (ms : List Meant) → (from ≤ turn → AllSetOf P (commands_of ms)) → SentOf P from (sent_at turn ms)
sent_now P from turn [] a = tt
sent_now P from turn (m ∷ ms) a = (λ l. (a l).0, sent_now P from turn ms (λ l. (a l).1))

homed_sets : (m : Machine) (switches : List Switch) (pins : List (List Level)) (entries : List Entry) (b from start : ℕ) (ms : List Member) (came : List Came) (turns : List BoardTurn) → IsInRun m switches pins entries b came turns
    → HomesFrom m switches from start ms came → SetNoClockFrom from turns → SentOf (MovesAs m b ms) from (sent_by turns)
homed_sets m switches pins entries b from start ms [] [] r homes none = tt
homed_sets m switches pins entries b from start ms [] (t ∷ turns) r homes none = absurd r.both
homed_sets m switches pins entries b from start ms (c ∷ before) [] r homes none = absurd r.both
homed_sets m switches pins entries b from start ms (c ∷ before) (t ∷ turns) r homes none =
    let P = MovesAs m b ms in
    let long = as_long m switches b before turns r.both.2 in
    let new = queued_in (orders t.control t.batch) in
    let now : from ≤ length turns → AllSetOf P (commands_of new) = λ l.
    let known = homes.0 (omega (arith, l, long)) in
    subst (λ (x : List Cmd). AllSetOf P x) (sym (turn_commands t))
    (of_both P t.control.commands (commands_of (units_orders t.batch.units)) (turn_sets m switches pins entries b c before t turns start ms r known.0 known.1) (units_of P t.batch.units (none.0 l))) in
    subst (λ (x : List Sent). SentOf P from x) (sym (sent_turn t turns))
    (sent_both P from (sent_by turns) (sent_at (length turns) new) (homed_sets m switches pins entries b from start ms before turns (run_before m switches pins entries b c before t turns r) homes.1 none.1) (sent_now P from (length turns) new now))

-- a board took what was queued up to 251 turns before the start of a section, the commands that set clocks for it among that
record Takes (first : LinkState) (start : ℕ) (turns : List BoardTurn) : Type 0 where
  later : List BoardTurn
  past : List BoardTurn
  are : turns ≡ later ++ past
  queued : start ≤ length past + 251
  more : List Meant
  took : (stands_after first turns).core.taken ≡ queued_in_turns past ++ more

-- a board that took the set-up in time
takes_soon : (clock : BoardClock) (first : LinkState) (start : ℕ) (turns : List BoardTurn) → AreBoardTurns clock first turns → TakesSetUp first start turns → Takes first start turns
takes_soon clock first start turns are took =
    let mine : AreBoardTurns clock first (took.window ++ (took.late ++ took.past)) = subst (λ (x : List BoardTurn). AreBoardTurns clock first x) took.are are in
    let rest = taken_later clock first took.window (took.late ++ took.past) mine in
    let queued = took.queued in
    record {
      later = took.window ++ took.late;
      past = took.past;
      are = took.are ∙ sym (append_assoc took.window took.late took.past);
      queued = omega (arith, queued);
      more = took.more ++ rest.0;
      took =
          ap (λ (x : List BoardTurn). (stands_after first x).core.taken) took.are ∙ rest.1 ∙ ap (λ (x : List Meant). x ++ rest.0) (sym took.took) ∙ append_assoc (queued_in_turns took.past) took.more rest.0;
    }

-- or whose trigger has fired since
takes_fired : (trigger start : ℕ) (first : LinkState) (turns : List BoardTurn) → HasFiredSince trigger start first turns → Takes first start turns
takes_fired trigger start first turns f =
    let at = f.at in
    record { later = f.later; past = f.early; are = f.are; queued = omega (arith, at); more = f.front ++ f.begin ∷ f.more; took = f.took }

-- what is left was sent behind it
left_from : (early later : List BoardTurn) (done left : List Sent) (more : List Meant) → done ++ left ≡ sent_by (later ++ early) → orders_sent done ≡ queued_in_turns early ++ more → AllFrom (length early) left
left_from early later done left more cut took =
    let parts = sent_parts later early in
    let l : length (sent_by early) ≤ length done =
    omega (arith, orders_long done, orders_long (sent_by early), ap length took, ap length (queue_is early), length-append (queued_in_turns early) more) in
    let cuts_so = shorter done left (sent_by early) parts.0 (cut ∙ parts.1) l in
    from_behind (length early) cuts_so.0 left (subst (λ (x : List Sent). AllFrom (length early) x) (sym cuts_so.2) parts.2)

one_in_time : (stops : ℕ → Option ℕ) (turn at : ℕ) (c : Cmd) → ((oid : ℕ) (clock : ℕ) → c ≡ cmd.ResetStepClock oid clock → IsStopped stops turn (Some at) → ⊥) → IsInTime stops turn at c
one_in_time stops turn at (cmd.ResetStepClock oid clock) f = f oid clock refl
one_in_time stops turn at c f = tt

all_in_time : (stops : ℕ → Option ℕ) (turn : ℕ) (left : List Sent) → ((front : List Sent) (s : Sent) (behind : List Sent) (oid clock : ℕ) → left ≡ front ++ s ∷ behind → s.order.command ≡ cmd.ResetStepClock oid clock → IsStopped stops turn (Some s.turn) → ⊥)
    → AreInTime stops turn left
all_in_time stops turn [] f = tt
all_in_time stops turn (s ∷ ss) f = (
  one_in_time stops turn s.turn s.order.command (λ oid clock e st. f [] s ss oid clock refl e st),
  all_in_time stops turn ss (λ front x behind oid clock e is st. f (s ∷ front) x behind oid clock (ap (λ (l : List Sent). s ∷ l) e) is st),
)

-- where a command stands that was sent before a turn
none_from : (n : ℕ) (x : Sent) (xs ys : List Sent) → AllFrom n (xs ++ x ∷ ys) → n ≤ x.turn
none_from n x [] ys a = a.0
none_from n x (y ∷ xs) ys a = none_from n x xs ys a.1

abbrev Placed : List Sent → Sent → List Sent → List Sent → List Sent → Type 0
Placed front set behind a b = (mid : List Sent) × (a ≡ front ++ set ∷ mid) × (behind ≡ mid ++ b)

first_placed : (front : List Sent) (set : Sent) (behind a b mid : List Sent) (n : ℕ) → AllFrom n b → set.turn < n → a ≡ front ++ mid → set ∷ behind ≡ mid ++ b → Placed front set behind a b
first_placed front set behind a b [] n all l e f = let k = (subst (λ (x : List Sent). AllFrom n x) (sym f) all).0 in absurd (omega (arith, k, l))
first_placed front set behind a b (y ∷ mid) n all l e f =
    let same : set ≡ y = cc in
    let rest : behind ≡ mid ++ b = cc in
    (mid, e ∙ ap (λ (x : Sent). front ++ x ∷ mid) (sym same), rest)

placed : (front : List Sent) (set : Sent) (behind a b : List Sent) (n : ℕ) → front ++ set ∷ behind ≡ a ++ b → AllFrom n b → set.turn < n → Placed front set behind a b
placed front set behind a b n e all l = elim (cuts front (set ∷ behind) a b e) [
  | inl p ↦ first_placed front set behind a b p.0 n all l p.1 p.2
  | inr p ↦ let k = none_from n set (p.0 ∷ p.1) behind (subst (λ (x : List Sent). AllFrom n x) p.3 all) in absurd (omega (arith, k, l))
]

-- a stepper of a section that has ended
moved_by : (m : Machine) (b oid clock : ℕ) (ms : List Member) (c : Cmd) → c ≡ cmd.ResetStepClock oid clock → SetsOf (MovesAs m b ms) c → MovesAs m b ms oid
moved_by m b oid clock ms c e s = subst (λ (x : Cmd). SetsOf (MovesAs m b ms) x) e s

-- what was sent before some turns
abbrev AllUntil : ℕ → List Sent → Type 0
AllUntil turn [] = Unit {0}
AllUntil turn (s ∷ ss) = (s.turn < turn) × AllUntil turn ss

until_both : (turn : ℕ) (xs ys : List Sent) → AllUntil turn xs → AllUntil turn ys → AllUntil turn (xs ++ ys)
until_both turn [] ys a b = b
until_both turn (x ∷ xs) ys a b = (a.0, until_both turn xs ys a.1 b)

until_up : (turn next : ℕ) (xs : List Sent) → turn ≤ next → AllUntil turn xs → AllUntil next xs
until_up turn next [] l a = tt
until_up turn next (x ∷ xs) l a = (let b = a.0 in omega (arith, b, l), until_up turn next xs l a.1)

until_at : (turn : ℕ) (ms : List Meant) → AllUntil (suc turn) (sent_at turn ms)
until_at turn [] = tt
until_at turn (m ∷ ms) = (omega arith, until_at turn ms)

until_by : (turns : List BoardTurn) → AllUntil (length turns) (sent_by turns)
until_by [] = tt
until_by (t ∷ before) =
    let new = sent_at (length before) (queued_in (orders t.control t.batch)) in
    subst (λ (x : List Sent). AllUntil (suc (length before)) x) (sym (sent_turn t before))
    (until_both (suc (length before)) (sent_by before) new (until_up (length before) (suc (length before)) (sent_by before) (omega arith) (until_by before)) (until_at (length before) (queued_in (orders t.control t.batch))))

until_in : (turn : ℕ) (xs : List Sent) (s : Sent) (ys : List Sent) → AllUntil turn (xs ++ s ∷ ys) → s.turn < turn
until_in turn [] s ys a = a.0
until_in turn (x ∷ xs) s ys a = until_in turn xs s ys a.1

-- a command that was sent from a turn on stands behind those that were sent before it
placed_behind : (n : ℕ) (front : List Sent) (set : Sent) (behind a b : List Sent) → front ++ set ∷ behind ≡ a ++ b → AllUntil n a → n ≤ set.turn → (mid : List Sent) × (front ≡ a ++ mid)
placed_behind n front set behind a b e until late = elim (cuts a b front (set ∷ behind) (sym e)) [
  | inl p ↦ (p.0, p.1)
  | inr p ↦
      let same : set ≡ p.0 = (cons_same set p.0 behind (p.1 ++ b) p.3).0 in
      let k = until_in n front p.0 p.1 (subst (λ (x : List Sent). AllUntil n x) p.2 until) in
      absurd (omega (arith, k, ap (λ (x : Sent). x.turn) same, late))
]

-- a part of which no step was taken has none
ends_if : (t : Bool) (c : Course) (k : Known) → k.ends ≡ c.known.ends → (record c { known = cond t k c.known }).known.ends ≡ c.known.ends
ends_if true c k e = e
ends_if false c k e = refl

if_not : (t : Bool) (oid other : ℕ) (k l : Known) → (other == oid) ≡ t → (other ≡ oid → ⊥) → (cond t k l).ends ≡ l.ends
if_not true oid other k l e n = absurd (n (eqb-true other oid e))
if_not false oid other k l e n = refl

next_if : (t : Bool) (oid other turn clock : ℕ) (c : Course) → (other == oid) ≡ t → (other ≡ oid → ⊥) → (cond t (next_part turn clock c) c).known.ends ≡ c.known.ends
next_if true oid other turn clock c e n = absurd (n (eqb-true other oid e))
next_if false oid other turn clock c e n = refl

one_ends : (oid turn : ℕ) (c : Course) (m : Cmd) (ticks : List ℕ) → SetsNot oid m → StepsNot oid m → (course_of oid turn c m ticks).known.ends ≡ c.known.ends
one_ends oid turn c (cmd.ResetStepClock other clock) ticks sets steps = next_if (other == oid) oid other turn clock c refl sets
one_ends oid turn c (cmd.QueueStep other interval count add) ticks sets steps = if_not (other == oid) oid other (more_steps oid c.known ticks) c.known refl steps
one_ends oid turn c (cmd.ConfigStepper other step dir invert width) ticks sets steps = ends_if (other == oid) c (record c.known { made = true }) refl
one_ends oid turn c (cmd.SetNextStepDir other dir) ticks sets steps = ends_if (other == oid) c (record c.known { up = dir == 1 }) refl
one_ends oid turn c m ticks sets steps = refl

all_ends : (oid : ℕ) (c : Course) (ss : List Sent) → AllSetNot oid (orders_sent ss) → AllStepNot oid (orders_sent ss) → (course_from oid c ss).known.ends ≡ c.known.ends
all_ends oid c [] sets steps = refl
all_ends oid c (s ∷ ss) sets steps = all_ends oid (course_behind oid c s) ss sets.1 steps.1 ∙ one_ends oid s.turn c s.order.command s.order.ticks sets.0 steps.0

set_own : (t : Bool) (oid turn clock : ℕ) (c : Course) → (oid == oid) ≡ t → (cond t (next_part turn clock c) c).known.ends ≡ []
set_own true oid turn clock c e = refl
set_own false oid turn clock c e = absurd (clash (oid == oid) (eq-eqb oid oid refl) e)
  where
    clash : (b : Bool) → b ≡ true → b ≡ false → ⊥
    clash b x y = cc

set_ends : (oid turn clock : ℕ) (c : Course) (m : Cmd) (ticks : List ℕ) → m ≡ cmd.ResetStepClock oid clock → (course_of oid turn c m ticks).known.ends ≡ []
set_ends oid turn clock c m ticks e = subst (λ (x : Cmd). (course_of oid turn c x ticks).known.ends ≡ []) (sym e) (set_own (oid == oid) oid turn clock c refl)

none_ends : (oid clock : ℕ) (front : List Sent) (set : Sent) (behind : List Sent) → set.order.command ≡ cmd.ResetStepClock oid clock → AllSetNot oid (orders_sent behind) → AllStepNot oid (orders_sent behind)
    → (courses (front ++ set ∷ behind) oid).known.ends ≡ []
none_ends oid clock front set behind is sets steps =
    let c = courses front oid in
    ap (λ (x : Course). x.known.ends) (course_append oid no_course front (set ∷ behind)) ∙ all_ends oid (course_behind oid c set) behind sets steps ∙ set_ends oid set.turn clock c set.order.command set.order.ticks is

step_parts : (i : ℕ) (xs ys : List Meant) → AllStepNot i (xs ++ ys) → AllStepNot i ys
step_parts i [] ys a = a
step_parts i (x ∷ xs) ys a = step_parts i xs ys a.1

step_both : (i : ℕ) (xs ys : List Meant) → AllStepNot i xs → AllStepNot i ys → AllStepNot i (xs ++ ys)
step_both i [] ys a b = b
step_both i (x ∷ xs) ys a b = (a.0, step_both i xs ys a.1 b)

-- where nothing is sent, no unit is of a stepper
move_none : (oid : ℕ) (us : List StepUnit) → us ≡ [] → MoveNone oid us
move_none oid us e = subst (λ (x : List StepUnit). MoveNone oid x) (sym e) tt

moves_none : (oid from to : ℕ) (turns : List BoardTurn) → SendNoneIn from to turns → MoveNoneIn oid from to turns
moves_none oid from to [] n = tt
moves_none oid from to (t ∷ before) n = (λ l h. move_none oid t.batch.units (n.0 l h), moves_none oid from to before n.1)

halted_so : (o : Option Pending) → IsHalted o → is_halted o ≡ true
halted_so None h = absurd h
halted_so (Some q) h = h.0

-- a homing section that has ended, over a board's turns
module _ (m : Machine) (switches : List Switch) (pins : List (List Level)) (entries : List Entry) (b start end : ℕ) (turns : List BoardTurn) (v : IsValidMachine m)
    (are : AreBoardTurns (clock_of (board_at m b)) (first_state (board_at m b) pins b entries) turns) (hm : IsHomed m switches pins entries b start end turns) (order : start ≤ end) where
  abbrev First : LinkState
  First = first_state (board_at m b) pins b entries

  abbrev Now : Core
  Now = (stands_after First turns).core

  abbrev Then : Core
  Then = (stands_after First hm.past).core

  -- a stepper whose clock is set for it moves in it
  record Mover (oid : ℕ) : Type 0 where
    stepper : ℕ
    own : IsMoved m b hm.homing hm.past stepper
    same : (stepper_at m stepper).oid ≡ oid

  mover_of : (front : List Sent) (set : Sent) (behind : List Sent) (oid clock : ℕ) → front ++ set ∷ behind ≡ sent_by turns → set.order.command ≡ cmd.ResetStepClock oid clock → start ≤ set.turn + 254 → set.turn + 252 ≤ start → Mover oid
  mover_of front set behind oid clock whole is soon late =
      let c = hm.came in
      let before = hm.before in
      let past = hm.past in
      let h = hm.homing in
      let a = hm.answered in
      let ms = members_of h.group in
      let long = hm.long in
      let parts = sent_parts hm.later past in
      let in_past = placed front set behind (sent_by past) parts.0 (length past) (whole ∙ ap sent_by hm.are ∙ parts.1) parts.2 (omega (arith, late, order, long)) in
      let sets = homed_sets m switches pins entries b a.from h.start ms before past hm.run_is a.since hm.sets_none in
      let from_is = a.set_up in
      let begin = hm.begin in
      let sets_it = sent_here (MovesAs m b ms) a.from front set in_past.0 (subst (λ (x : List Sent). SentOf (MovesAs m b ms) a.from x) in_past.1 sets) (omega (arith, from_is, begin, soon)) in
      let moved = moved_by m b oid clock ms set.order.command is sets_it in
      let formed : IsFormed m (Some h) = subst (λ (o : Option Homing). IsFormed m o) a.known (noted_formed m c.note (known_by m switches before) (known_formed m switches before hm.run_is.goes_on)) in
      let there = moves_is m h b moved.0 formed moved.1 in
      record {
        stepper = moved.0;
        own = record { moves = moved.1; there = there.0; on = there.1; from = a.from; begun = a.set_up; sets_none = clock_from (stepper_at m moved.0).oid a.from past hm.sets_none };
        same = moved.2;
      }

  -- so the board took the command
  takes_by : (oid : ℕ) → Mover oid → Takes First start hm.past
  takes_by oid x = elim hm.fires [
    | inl soon ↦ takes_soon (clock_of (board_at m b)) First start hm.past hm.run_is.turns_are soon
    | inr so ↦
        let h = hm.homing in
        let a = hm.answered in
        let fired = answered_fired m v switches pins entries b hm.came hm.before hm.past h a.end hm.run_is hm.states so.apart so.reads so.behind a.known a.answer (moves_among b x.stepper (members_of h.group) x.own.moves) in
        subst (λ (n : ℕ). Takes First n hm.past) hm.begin (takes_fired (trigger_of m b) h.start First hm.past fired)
  ]

  -- and as the group answers the stepper is halted, or the board took no step of it; and each step finds it halted from then on
  ended_finds : (oid : ℕ) → Mover oid → Then.board.controller.state ≡ Running → (IsHalted (board.stepper_at Then.board.controller oid) ⊎ TookNone oid hm.answered.from First hm.past) × ((steps : List Step) → StepsFindHalted oid Then steps)
  ended_finds oid x ran =
      let c = hm.came in
      let before = hm.before in
      let past = hm.past in
      let h = hm.homing in
      let a = hm.answered in
      let r = hm.run_is in
      let i = (stepper_at m x.stepper).oid in
      let left = left_of m v switches pins entries b past r.turns_are in
      let Ends : ℕ → Type 0 = λ n. (IsHalted (board.stepper_at Then.board.controller n) ⊎ TookNone n a.from First past) × ((steps : List Step) → StepsFindHalted n Then steps) in
      subst Ends x.same (elim hm.fires [
        | inl soon ↦
            let halted = answered_halt m switches pins entries b c before past h x.stepper v r hm.states a x.own (subst (λ (n : ℕ). TakesSetUp First n past) (sym hm.begin) soon) ran in (
              inl halted,
              λ steps. steps_settle i (trigger_of m b) steps Then left.0 (ordered_after (board_at m b) pins b entries past r.turns_are) (left.1 ∙ sym (all_queued (board_at m b) pins b entries past r.turns_are)) (inr (inl halted)),
            )
        | inr so ↦
            let none = moves_none i a.from (a.from + 4) past hm.sends_none in (
              halts_or_took_none m v switches pins entries b c before past h x.stepper r hm.states a x.own so.apart so.reads so.behind none ran,
              λ steps. steps_find_halted m v switches pins entries b c before past h x.stepper r hm.states a x.own so.apart so.reads so.behind none ran steps,
            )
      ])

  -- what was taken since sets the clock no more
  record Since (oid q : ℕ) (done : List Sent) : Type 0 where
    last : LastSet oid q done
    mover : Mover oid
    steps : List Step
    are_steps : Now ≡ run_world steps Then
    since : List Meant
    took : (run_world steps Then).taken ≡ Then.taken ++ since
    sets : AllSetNot oid since
    behind : (mid : List Meant) × (orders_sent last.behind ≡ mid ++ since)

  since_of : (q oid : ℕ) (done left : List Sent) → start ≤ q + 254 → q + 252 ≤ start → done ++ left ≡ sent_by turns → orders_sent done ≡ Now.taken → LastSet oid q done → Since oid q done
  since_of q oid done left soon late cut taken last =
      let clock = clock_of (board_at m b) in
      let mine : AreBoardTurns clock First (hm.later ++ hm.past) = subst (λ (x : List BoardTurn). AreBoardTurns clock First x) hm.are are in
      let steps = later_steps clock First hm.later hm.past mine in
      let now_is : Now ≡ run_world steps.0 Then = ap (λ (x : List BoardTurn). (stands_after First x).core) hm.are ∙ steps.1 in
      let later = taken_later clock First hm.later hm.past mine in
      let took : (run_world steps.0 Then).taken ≡ Then.taken ++ later.0 = ap (λ (x : Core). x.taken) (sym steps.1) ∙ later.1 in
      let turn_is = last.at in
      let whole : last.front ++ last.set ∷ (last.behind ++ left) ≡ sent_by turns = sym (append_assoc last.front (last.set ∷ last.behind) left) ∙ ap (λ (x : List Sent). x ++ left) (sym last.are) ∙ cut in
      let mover = mover_of last.front last.set (last.behind ++ left) oid last.clock whole last.is (omega (arith, soon, turn_is)) (omega (arith, late, turn_is)) in
      let t = takes_by oid mover in
      let queued = t.queued in
      let flat : turns ≡ (hm.later ++ t.later) ++ t.past = hm.are ∙ ap (λ (x : List BoardTurn). hm.later ++ x) t.are ∙ sym (append_assoc hm.later t.later t.past) in
      let parts = sent_parts (hm.later ++ t.later) t.past in
      let in_early = placed last.front last.set (last.behind ++ left) (sent_by t.past) parts.0 (length t.past) (whole ∙ ap sent_by flat ∙ parts.1) parts.2 (omega (arith, turn_is, late, queued)) in
      let set = last.front ++ last.set ∷ [] in
      let set_taken = orders_sent last.front ++ last.set.order ∷ [] in
      let early_is : queued_in_turns t.past ≡ orders_sent last.front ++ last.set.order ∷ orders_sent in_early.0 = sym (queue_is t.past) ∙ ap orders_sent in_early.1 ∙ orders_append last.front (last.set ∷ in_early.0) in
      let ended : Then.taken ≡ set_taken ++ (orders_sent in_early.0 ++ t.more) =
      t.took ∙ ap (λ (x : List Meant). x ++ t.more) early_is ∙ append_assoc (orders_sent last.front) (last.set.order ∷ orders_sent in_early.0) t.more ∙ sym (append_assoc (orders_sent last.front) (last.set.order ∷ []) (orders_sent in_early.0 ++ t.more)) in
      let took_all : set_taken ++ orders_sent last.behind ≡ set_taken ++ ((orders_sent in_early.0 ++ t.more) ++ later.0) =
      append_assoc (orders_sent last.front) (last.set.order ∷ []) (orders_sent last.behind) ∙ sym (orders_append last.front (last.set ∷ last.behind)) ∙ ap orders_sent (sym last.are) ∙ taken ∙ ap (λ (x : Core). x.taken) now_is ∙ took
      ∙ ap (λ (x : List Meant). x ++ later.0) ended ∙ append_assoc set_taken (orders_sent in_early.0 ++ t.more) later.0 in
      let rest : orders_sent last.behind ≡ (orders_sent in_early.0 ++ t.more) ++ later.0 = append_cancel_left set_taken (orders_sent last.behind) ((orders_sent in_early.0 ++ t.more) ++ later.0) took_all in
      record {
        last = last;
        mover = mover;
        steps = steps.0;
        are_steps = now_is;
        since = later.0;
        took = took;
        sets = (not_parts oid (orders_sent in_early.0 ++ t.more) later.0 (subst (λ (x : List Meant). AllSetNot oid x) rest last.none)).1;
        behind = (orders_sent in_early.0 ++ t.more, rest);
      }

  running_then : (steps : List Step) → Now ≡ run_world steps Then → Now.board.controller.state ≡ Running → (run_world steps Then).board.controller.state ≡ Running
  running_then steps e runs = subst (λ (h : Core). h.board.controller.state ≡ Running) e runs

  -- of a board that took no step of the stepper by then no step of its part is taken, where it takes none since
  part_none : (q oid : ℕ) (done left : List Sent) → start ≤ q + 254 → done ++ left ≡ sent_by turns → orders_sent done ≡ Now.taken → (x : Since oid q done) → (n : TookNone oid hm.answered.from First hm.past) → AllStepNot oid x.since → (courses done oid).known.ends ≡ []
  part_none q oid done left soon cut taken x n none =
      let last = x.last in
      let turn_is = last.at in
      let from_is = hm.answered.set_up in
      let begin = hm.begin in
      let long = n.long in
      let flat : turns ≡ (hm.later ++ n.later) ++ n.early = hm.are ∙ ap (λ (y : List BoardTurn). hm.later ++ y) n.are ∙ sym (append_assoc hm.later n.later n.early) in
      let parts = sent_parts (hm.later ++ n.later) n.early in
      let whole : last.front ++ last.set ∷ (last.behind ++ left) ≡ sent_by n.early ++ parts.0 =
      sym (append_assoc last.front (last.set ∷ last.behind) left) ∙ ap (λ (y : List Sent). y ++ left) (sym last.are) ∙ cut ∙ ap sent_by flat ∙ parts.1 in
      let mid = placed_behind (length n.early) last.front last.set (last.behind ++ left) (sent_by n.early) parts.0 whole (until_by n.early) (omega (arith, turn_is, from_is, begin, long, soon)) in
      let front_is : orders_sent last.front ≡ queued_in_turns n.early ++ orders_sent mid.0 = ap orders_sent mid.1 ∙ orders_append (sent_by n.early) mid.0 ∙ ap (λ (y : List Meant). y ++ orders_sent mid.0) (queue_is n.early) in
      let all : queued_in_turns n.early ++ (orders_sent mid.0 ++ last.set.order ∷ orders_sent last.behind) ≡ queued_in_turns n.early ++ (n.more ++ x.since) =
      sym (append_assoc (queued_in_turns n.early) (orders_sent mid.0) (last.set.order ∷ orders_sent last.behind)) ∙ ap (λ (y : List Meant). y ++ last.set.order ∷ orders_sent last.behind) (sym front_is) ∙ sym (orders_append last.front (last.set ∷ last.behind))
      ∙ ap orders_sent (sym last.are) ∙ taken ∙ ap (λ (y : Core). y.taken) x.are_steps ∙ x.took ∙ ap (λ (y : List Meant). y ++ x.since) n.took ∙ append_assoc (queued_in_turns n.early) n.more x.since in
      let rest : orders_sent mid.0 ++ last.set.order ∷ orders_sent last.behind ≡ n.more ++ x.since = append_cancel_left (queued_in_turns n.early) (orders_sent mid.0 ++ last.set.order ∷ orders_sent last.behind) (n.more ++ x.since) all in
      let steps = step_parts oid (orders_sent mid.0) (last.set.order ∷ orders_sent last.behind) (subst (λ (y : List Meant). AllStepNot oid y) (sym rest) (step_both oid n.more x.since n.none none)) in
      ap (λ (y : List Sent). (courses y oid).known.ends) last.are ∙ none_ends oid last.clock last.front last.set last.behind last.is last.none steps.1

  section_settles : (q oid : ℕ) (done left : List Sent) → start ≤ q + 254 → q + 252 ≤ start → Now.board.controller.state ≡ Running → done ++ left ≡ sent_by turns → orders_sent done ≡ Now.taken → LastSet oid q done
      → ((is_halted (board.stepper_at Now.board.controller oid) ≡ true) ⊎ ((courses done oid).known.ends ≡ [])) × ((steps : List Step) → StepsFindHalted oid Now steps)
  section_settles q oid done left soon late runs cut taken last =
      let x = since_of q oid done left soon late cut taken last in
      let now_is = x.are_steps in
      let on = running_then x.steps now_is runs in
      let ended = ended_finds oid x.mover (ran_steps x.steps Then on) in
      let Halts : Core → Type 0 = λ h. IsHalted (board.stepper_at h.board.controller oid) in
      let Finds : Core → Type 0 = λ h. (steps : List Step) → StepsFindHalted oid h steps in
      let halted : IsHalted (board.stepper_at (run_world x.steps Then).board.controller oid) → is_halted (board.stepper_at Now.board.controller oid) ≡ true = λ is. halted_so (board.stepper_at Now.board.controller oid) (subst Halts (sym now_is) is) in (
        elim ended.0 [
          | inl is ↦ inl (halted (halted_stays oid x.steps Then x.since x.took x.sets is))
          | inr n ↦ elim (found_none oid x.steps Then x.since x.took x.sets (ended.1 x.steps) on) [
            | inl is ↦ inl (halted is)
            | inr none ↦ inr (part_none q oid done left soon cut taken x n none)
          ]
        ],
        subst Finds (sym now_is) (λ steps. find_behind oid x.steps steps Then x.since x.took x.sets (ended.1 (x.steps ++ steps))),
      )

  -- a command that is left is not of its set-up
  none_left : (done front : List Sent) (s : Sent) (behind : List Sent) (oid clock : ℕ) → start ≤ s.turn + 254 → s.turn + 252 ≤ start → done ++ (front ++ s ∷ behind) ≡ sent_by turns → orders_sent done ≡ Now.taken
      → s.order.command ≡ cmd.ResetStepClock oid clock → ⊥
  none_left done front s behind oid clock soon late cut taken is =
      let t = takes_by oid (mover_of (done ++ front) s behind oid clock (append_assoc done front (s ∷ behind) ∙ cut) is soon late) in
      let mine : AreBoardTurns (clock_of (board_at m b)) First (hm.later ++ hm.past) = subst (λ (x : List BoardTurn). AreBoardTurns (clock_of (board_at m b)) First x) hm.are are in
      let later = taken_later (clock_of (board_at m b)) First hm.later hm.past mine in
      let flat : turns ≡ (hm.later ++ t.later) ++ t.past = hm.are ∙ ap (λ (x : List BoardTurn). hm.later ++ x) t.are ∙ sym (append_assoc hm.later t.later t.past) in
      let took : orders_sent done ≡ queued_in_turns t.past ++ (t.more ++ later.0) =
      taken ∙ ap (λ (x : List BoardTurn). (stands_after First x).core.taken) hm.are ∙ later.1 ∙ ap (λ (x : List Meant). x ++ later.0) t.took ∙ append_assoc (queued_in_turns t.past) t.more later.0 in
      let from = left_from t.past (hm.later ++ t.later) done (front ++ s ∷ behind) (t.more ++ later.0) (cut ∙ ap sent_by flat) took in
      let low = none_from (length t.past) s front behind from in
      let queued = t.queued in
      omega (arith, low, late, queued)

queued_at : (turn : ℕ) (xs : List Sent) (s : Sent) (ys : List Sent) → AreQueued turn (xs ++ s ∷ ys) → s.turn ≤ turn
queued_at turn [] s ys a = a.0
queued_at turn (x ∷ xs) s ys a = queued_at turn xs s ys a.1

-- of a board that took none behind a front of what was queued, all of which was queued by a turn
module _ (m : Machine) (switches : List Switch) (pins : List (List Level)) (entries : List Entry) (b until : ℕ) (turns : List BoardTurn) (stops : ℕ → Option ℕ) (v : IsValidMachine m)
    (are : AreBoardTurns (clock_of (board_at m b)) (first_state (board_at m b) pins b entries) turns) (homed : AreHomed m switches pins entries b until stops turns)
    (front tail rest : List Sent) (by : AreQueued until front) (all_is : front ++ tail ≡ sent_by turns ++ rest) (later : AllFrom (length turns) rest) where
  abbrev Here : Core
  Here = (stands_after (first_state (board_at m b) pins b entries) turns).core

  abbrev Stands : ℕ → List Sent → Type 0
  Stands oid done = ((is_halted (board.stepper_at Here.board.controller oid) ≡ true) ⊎ ((courses done oid).known.ends ≡ [])) × ((steps : List Step) → StepsFindHalted oid Here steps)

  stopped_stands : (oid : ℕ) (done left more : List Sent) (since : Option ℕ) → Here.board.controller.state ≡ Running → done ++ left ≡ sent_by turns → done ++ more ≡ front → orders_sent done ≡ Here.taken → (courses done oid).since ≡ since
      → IsStopped stops (length turns) since → Stands oid done
  stopped_stands oid done left more None runs cut ahead taken e st = absurd st
  stopped_stands oid done left more (Some q) runs cut ahead taken e st = by_stop (stops q) refl st
    where
      last : LastSet oid q done
      last = last_set oid q done e

      low : q ≤ until
      low =
          let whole : last.front ++ last.set ∷ (last.behind ++ more) ≡ front = sym (append_assoc last.front (last.set ∷ last.behind) more) ∙ ap (λ (x : List Sent). x ++ more) (sym last.are) ∙ ahead in
          let soon = queued_at until last.front last.set (last.behind ++ more) (subst (λ (x : List Sent). AreQueued until x) (sym whole) by) in
          let at = last.at in
          omega (arith, soon, at)

      by_stop : (o : Option ℕ) → stops q ≡ o → IsFrom (length turns) o → Stands oid done
      by_stop None is f = absurd f
      by_stop (Some end) is f =
          let x = homed q end low is f in
          section_settles m switches pins entries b x.0 end turns v are x.4 x.3 q oid done left x.1 x.2 runs cut taken last

  left_stops : (done first : List Sent) (s : Sent) (behind : List Sent) (oid clock : ℕ) (o : Option ℕ) → done ++ (first ++ s ∷ behind) ≡ front → orders_sent done ≡ Here.taken → s.order.command ≡ cmd.ResetStepClock oid clock → stops s.turn ≡ o
      → IsFrom (length turns) o → ⊥
  left_stops done first s behind oid clock None ahead taken is e st = st
  left_stops done first s behind oid clock (Some end) ahead taken is e st =
      let here : (done ++ first) ++ s ∷ behind ≡ front = append_assoc done first (s ∷ behind) ∙ ahead in
      let x = homed s.turn end (queued_at until (done ++ first) s behind (subst (λ (y : List Sent). AreQueued until y) (sym here) by)) e st in
      let whole : (done ++ first) ++ s ∷ (behind ++ tail) ≡ sent_by turns ++ rest = sym (append_assoc (done ++ first) (s ∷ behind) tail) ∙ ap (λ (y : List Sent). y ++ tail) here ∙ all_is in
      let late = x.2 in
      let order = x.3 in
      let in_turns = placed (done ++ first) s (behind ++ tail) (sent_by turns) rest (length turns) whole later (omega (arith, late, order, st)) in
      none_left m switches pins entries b x.0 end turns v are x.4 x.3 done first s in_turns.0 oid clock x.1 x.2 (sym (append_assoc done first (s ∷ in_turns.0)) ∙ sym in_turns.1) taken is

  pub settled : IsSettled stops front (length turns) (sent_in 0 (clock_runs.orders_in turns)) Here
  settled = λ runs done left more cut ahead taken. (
    all_in_time stops (length turns) more (λ first s behind oid clock e is st.
        left_stops done first s behind oid clock (stops s.turn) (subst (λ (x : List Sent). done ++ x ≡ front) e ahead) taken is refl st),
    λ oid st. (stopped_stands oid done left more (courses done oid).since runs cut ahead taken refl st).0,
  )

  -- and in whatever follows
  pub finds_stopped : (steps : List Step) → FindStopped stops front (length turns) (sent_in 0 (clock_runs.orders_in turns)) Here steps
  finds_stopped steps = λ runs done left more cut ahead taken oid st. (stopped_stands oid done left more (courses done oid).since runs cut ahead taken refl st).1 steps
