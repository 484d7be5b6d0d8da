-- A board takes good commands, those of triggers among them, one behind the other.
use Rattle.std.proofs.Common.{◌≡◌, ℕ, Bool, true, false, cond, ◌≤◌, ◌==◌, ◌⊎◌, List, [], ◌∷◌, ◌++◌, Option, Some, refl, ap, sym, ◌∙◌, subst, arith, inl, inr, append-nil, rules}
use Rattle.laws_board.proofs.Names.{eq-eqb, BoardState, Running, Pulse, Cmd, Controller, is_shut, Rig, acts_running, takes, takes_all, Meant, commands_of}
use Rattle.msg_code.specs.declared.cmd.Cmd.TheVariants as cmd
use Rattle.board_sim.specs.Board.{stepper_at, acts, command_request}
use Rattle.board_sim.specs.Rig as rig
use Rattle.board_sim.specs.Fair.{IsFairCommand, IsFairRunning, AreFair}
use Rattle.board_sim.proofs.RigShut.{all_left_by}
use Rattle.board_sim.proofs.RigStates.{all_tick}
use Rattle.laws_board.specs.sections.Known.{AreQueued, Known, Sent, orders_sent, IsLostFor}
use Rattle.laws_board.specs.sections.Timely.{IsTimely, AreTimely}
use Rattle.laws_board.specs.sections.Finds.{AllFindHalted, AllSetNot, FindsHalted, SetsNot}
use Rattle.laws_board.specs.sections.Courses.{Course, IsStopped, next_part, course_parts, course_of, course_behind, course_from, AreMadeFor, IsMadeBy, IsGoodOn, AreGoodOn, IsInTime, AreInTime, BeginLostOn, FindsFree}
use Rattle.laws_board.proofs.sections.Fits.{IsShutBy}
use Rattle.laws_board.proofs.sections.Free.{board_acts}
use Rattle.laws_board.proofs.sections.Taking.{shut_fair}
use Rattle.laws_board.proofs.sections.Moving.{BoardMoves}
use Rattle.laws_board.proofs.sections.MovingRigs.{IsOfTriggers, triggers_move}
use Rattle.laws_board.proofs.sections.Standing.{BoardStands, board_moved, made_moved, stop_none, made_for}
use Rattle.laws_board.proofs.sections.Coursing.{MadeOn, StandsOn, same_stands, dir_stands, make_stands, reset_stands, push_stands, lost_stands}

-- a command that is none of triggers
abbrev IsOther : Cmd → Type 0
IsOther (cmd.ConfigTrsync oid) = ⊥
IsOther (cmd.TrsyncStart oid clock every reason) = ⊥
IsOther (cmd.TrsyncSetTimeout oid clock) = ⊥
IsOther (cmd.TrsyncTrigger oid reason) = ⊥
IsOther (cmd.StepperStopOnTrigger oid other) = ⊥
IsOther (cmd.ConfigEndstop oid pin pull) = ⊥
IsOther (cmd.EndstopHome oid clock sample count rest value other reason) = ⊥
IsOther _ = Unit {0}

either : (c : Cmd) → IsOfTriggers c ⊎ IsOther c
either (cmd.ConfigTrsync oid) = inl tt
either (cmd.TrsyncStart oid clock every reason) = inl tt
either (cmd.TrsyncSetTimeout oid clock) = inl tt
either (cmd.TrsyncTrigger oid reason) = inl tt
either (cmd.StepperStopOnTrigger oid other) = inl tt
either (cmd.ConfigEndstop oid pin pull) = inl tt
either (cmd.EndstopHome oid clock sample count rest value other reason) = inl tt
either c = inr tt

rig_acts : (r : Rig) (c : Cmd) → r.controller.state ≡ Running → IsOther c → (rig.acts r c).rig.controller ≡ (acts r.controller c).board
rig_acts r c p2 p3 = search (rules, board_acts)

takes_acts : (r : Rig) (c : Cmd) → r.controller.state ≡ Running → IsOther c → (takes r c).rig.controller ≡ (acts r.controller c).board
takes_acts r c e i = ap (λ o. (acts_running o r c).rig.controller) e ∙ rig_acts r c e i

-- what a command that was queued in a turn makes of what is known
abbrev pub next_of : ℕ → (ℕ → Course) → Cmd → List ℕ → ℕ → Course
next_of queued cs c ticks oid = course_of oid queued (cs oid) c ticks

abbrev Acts : (ℕ → ℕ) → (ℕ → Option ℕ) → ℕ → ℕ → ℕ → ℕ → (ℕ → Course) → Controller → Cmd → List ℕ → Type 0
Acts own stops slots by queued turn cs b c ticks =
    IsFairCommand b c ticks × StandsOn own stops slots by turn cs (next_of queued cs c ticks) b (acts b c).board

plainly : (own : ℕ → ℕ) (stops : ℕ → Option ℕ) (slots by turn : ℕ) (cs : ℕ → Course) (b c : Controller) → c.state ≡ b.state → c.tick ≡ b.tick → c.slots ≡ b.slots → c.steppers ≡ b.steppers → BoardStands own stops slots by turn cs b
    → Unit {0} × StandsOn own stops slots by turn cs cs b c
plainly own stops slots by turn cs b c state tick slots_same steppers f = (tt, same_stands own stops slots by turn cs b c state tick slots_same steppers f)

-- a command of a board's own
acts_stand : (own : ℕ → ℕ) (stops : ℕ → Option ℕ) (slots by queued turn : ℕ) (cs : ℕ → Course) (r : Rig) (c : Cmd) (ticks : List ℕ) → BoardStands own stops slots by turn cs r.controller → own queued ≤ own turn → queued ≤ by
    → ((oid : ℕ) → IsGoodOn own stops slots oid queued (cs oid) c ticks) → IsTimely (own turn) c ticks → IsInTime stops by queued c → ((oid : ℕ) → IsStopped stops by (cs oid).since → FindsHalted oid r c)
    → Acts own stops slots by queued turn cs r.controller c ticks
acts_stand own stops slots by queued turn cs r (cmd.QueueStep other interval count add) ticks f h k good timely time finds =
    push_stands own stops slots by queued turn cs r.controller other (stepper_at r.controller other) (record { interval = interval; count = count; add = add }) ticks refl f h (good other refl) timely
    (λ st. finds other st f.running refl)
acts_stand own stops slots by queued turn cs r (cmd.ResetStepClock other clock) ticks f h k good timely time finds =
    (tt, reset_stands own stops slots by turn queued cs r.controller other clock (stepper_at r.controller other) refl f h k (good other refl) time)
acts_stand own stops slots by queued turn cs r (cmd.SetNextStepDir other dir) ticks f h k good timely time finds = (tt, dir_stands own stops slots by turn cs r.controller other dir (stepper_at r.controller other) refl f (good other refl))
acts_stand own stops slots by queued turn cs r (cmd.ConfigStepper other step dir invert width) ticks f h k good timely time finds = (tt, make_stands own stops slots by turn cs r.controller other (stepper_at r.controller other) refl f (good other))
acts_stand own stops slots by queued turn cs r cmd.EmergencyStop ticks f h k good timely time finds = (tt, inr (command_request, r.controller.tick, 0, refl, inr refl))
acts_stand own stops slots by queued turn cs r (cmd.AllocateOids count) ticks f h k good timely time finds = plainly own stops slots by turn cs r.controller (record r.controller { oids = count }) refl refl refl refl f
acts_stand own stops slots by queued turn cs r (cmd.FinalizeConfig crc) ticks f h k good timely time finds = plainly own stops slots by turn cs r.controller (record r.controller { complete = true; crc = crc }) refl refl refl refl f
acts_stand own stops slots by queued turn cs r _ ticks f h k good timely time finds = plainly own stops slots by turn cs r.controller r.controller refl refl refl refl f

-- a board that halts steppers at most
moves_stand : (own : ℕ → ℕ) (stops : ℕ → Option ℕ) (slots by turn : ℕ) (cs : ℕ → Course) (b c : Controller) → BoardStands own stops slots by turn cs b → BoardMoves b c [] → c.tick ≡ b.tick
    → StandsOn own stops slots by turn cs cs b c
moves_stand own stops slots by turn cs b c f m same = search (rules, board_moved, append-nil, made_moved, stop_none)

-- a command of triggers means no steps
trigger_next : (queued : ℕ) (cs : ℕ → Course) (c : Cmd) (ticks : List ℕ) → IsOfTriggers c → (oid : ℕ) → next_of queued cs c ticks oid ≡ cs oid
trigger_next queued cs (cmd.ConfigTrsync other) ticks i oid = refl
trigger_next queued cs (cmd.TrsyncStart other clock every reason) ticks i oid = refl
trigger_next queued cs (cmd.TrsyncSetTimeout other clock) ticks i oid = refl
trigger_next queued cs (cmd.TrsyncTrigger other reason) ticks i oid = refl
trigger_next queued cs (cmd.StepperStopOnTrigger other trigger) ticks i oid = refl
trigger_next queued cs (cmd.ConfigEndstop other pin pull) ticks i oid = refl
trigger_next queued cs (cmd.EndstopHome other clock sample count rest value trigger reason) ticks i oid = refl
trigger_next queued cs c ticks i oid = absurd i

trigger_fair : (b : Controller) (c : Cmd) (ticks : List ℕ) → IsOfTriggers c → IsFairCommand b c ticks
trigger_fair b (cmd.ConfigTrsync other) ticks i = tt
trigger_fair b (cmd.TrsyncStart other clock every reason) ticks i = tt
trigger_fair b (cmd.TrsyncSetTimeout other clock) ticks i = tt
trigger_fair b (cmd.TrsyncTrigger other reason) ticks i = tt
trigger_fair b (cmd.StepperStopOnTrigger other trigger) ticks i = tt
trigger_fair b (cmd.ConfigEndstop other pin pull) ticks i = tt
trigger_fair b (cmd.EndstopHome other clock sample count rest value trigger reason) ticks i = tt
trigger_fair b c ticks i = absurd i

-- where the same is known
pub stands_same : (own : ℕ → ℕ) (stops : ℕ → Option ℕ) (slots by turn : ℕ) (cs ds : ℕ → Course) (b : Controller) → ((oid : ℕ) → ds oid ≡ cs oid) → BoardStands own stops slots by turn cs b → BoardStands own stops slots by turn ds b
stands_same own stops slots by turn cs ds b e f = record {
  running = f.running;
  tick = f.tick;
  slots_are = f.slots_are;
  places = f.places;
  each = λ oid. rw (e oid) (f.each oid);
  stopped = λ oid. rw (e oid) (f.stopped oid);
}

on_same : (own : ℕ → ℕ) (stops : ℕ → Option ℕ) (slots by turn : ℕ) (cs ds : ℕ → Course) (b c : Controller) → ((oid : ℕ) → ds oid ≡ cs oid) → StandsOn own stops slots by turn cs cs b c → StandsOn own stops slots by turn cs ds b c
on_same own stops slots by turn cs ds b c e s = search (rules, stands_same)

abbrev OneStands : (ℕ → ℕ) → (ℕ → Option ℕ) → ℕ → ℕ → ℕ → ℕ → (ℕ → Course) → Rig → Cmd → List ℕ → Type 0
OneStands own stops slots by queued turn cs r c ticks =
    IsFairRunning r.controller.state r.controller c ticks × StandsOn own stops slots by turn cs (next_of queued cs c ticks) r.controller (takes r c).rig.controller

one_stands : (own : ℕ → ℕ) (stops : ℕ → Option ℕ) (slots by queued turn : ℕ) (cs : ℕ → Course) (r : Rig) (c : Cmd) (ticks : List ℕ) → BoardStands own stops slots by turn cs r.controller → own queued ≤ own turn → queued ≤ by
    → ((oid : ℕ) → IsGoodOn own stops slots oid queued (cs oid) c ticks) → IsTimely (own turn) c ticks → IsInTime stops by queued c
    → ((oid : ℕ) → IsStopped stops by (cs oid).since → FindsHalted oid r c) → OneStands own stops slots by queued turn cs r c ticks
one_stands own stops slots by queued turn cs r c ticks f h k good timely time finds =
    let Fair : BoardState → Type 0 = λ o. IsFairRunning o r.controller c ticks in
    let Then : Controller → Type 0 = λ d. StandsOn own stops slots by turn cs (next_of queued cs c ticks) r.controller d in
    elim (either c) [
      | inl i ↦ (
        subst Fair (sym f.running) (trigger_fair r.controller c ticks i),
        on_same own stops slots by turn cs (next_of queued cs c ticks) r.controller (takes r c).rig.controller (trigger_next queued cs c ticks i)
            (moves_stand own stops slots by turn cs r.controller (takes r c).rig.controller f (triggers_move r c f.running i) (all_tick r (c ∷ []))),
      )
      | inr i ↦
          let a = acts_stand own stops slots by queued turn cs r c ticks f h k good timely time finds in
          (subst Fair (sym f.running) a.0, subst Then (sym (takes_acts r c f.running i)) a.1)
    ]

-- The board takes good commands: all are fair. It runs on, and stands as is known then; or it shut down, behind some of them that it took.
abbrev pub AllStand : (ℕ → ℕ) → (ℕ → Option ℕ) → ℕ → ℕ → ℕ → (ℕ → Course) → Rig → List Sent → Type 0
AllStand own stops slots by turn cs r ss =
    let after = (takes_all r (commands_of (orders_sent ss))).rig.controller in
    AreFair r (orders_sent ss)
    × ((BoardStands own stops slots by turn (λ oid. course_from oid (cs oid) ss) after × MadeOn own stops cs (λ oid. course_from oid (cs oid) ss) r.controller after)
    ⊎ (IsShutBy after × ((done more : List Sent) × (ss ≡ done ++ more)
    × ((oid : ℕ) (m : List Pulse) → IsMadeBy own stops oid (stepper_at r.controller oid) (cs oid) m → AreMadeFor own stops (course_parts (course_from oid (cs oid) done)) m))))

-- a part that is stopped behind a command was so before it, and the command sets no clock of its stepper
set_since : (t : Bool) (stops : ℕ → Option ℕ) (by queued oid other clock : ℕ) (c : Course) → (other == oid) ≡ t → (IsStopped stops by (Some queued) → ⊥) → IsStopped stops by (cond t (next_part queued clock c) c).since
    → IsStopped stops by c.since × (other ≡ oid → ⊥)
set_since t stops by queued oid other clock c p8 p9 p10 = search (rules, eq-eqb)

since_one : (stops : ℕ → Option ℕ) (by queued oid : ℕ) (c : Course) (m : Cmd) (ticks : List ℕ) → IsInTime stops by queued m → IsStopped stops by (course_of oid queued c m ticks).since → IsStopped stops by c.since × SetsNot oid m
since_one stops by queued oid c (cmd.ResetStepClock other clock) ticks time st = set_since (other == oid) stops by queued oid other clock c refl time st
since_one stops by queued oid c m ticks time st = (st, tt)

pub since_all : (stops : ℕ → Option ℕ) (by oid : ℕ) (c : Course) (ss : List Sent) → AreInTime stops by ss → IsStopped stops by (course_from oid c ss).since → IsStopped stops by c.since × AllSetNot oid (orders_sent ss)
since_all stops by oid c [] time st = (st, tt)
since_all stops by oid c (s ∷ ss) time st =
    let rest = since_all stops by oid (course_behind oid c s) ss time.1 st in
    let one = since_one stops by s.turn oid c s.order.command s.order.ticks time.0 rest.0 in
    (one.0, (one.1, rest.1))

-- what the commands behind one find
pub finds_on : (stops : ℕ → Option ℕ) (by : ℕ) (s : Sent) (cs : ℕ → Course) (r : Rig) (ms : List Meant) → IsInTime stops by s.turn s.order.command
    → ((oid : ℕ) → IsStopped stops by (cs oid).since → AllFindHalted oid r (s.order ∷ ms)) → (oid : ℕ) → IsStopped stops by (course_behind oid (cs oid) s).since → AllFindHalted oid (takes r s.order.command).rig ms
finds_on stops by s cs r ms time finds oid st =
    let was = since_one stops by s.turn oid (cs oid) s.order.command s.order.ticks time st in
    (finds oid was.0).1 was.1

pub all_stand : (own : ℕ → ℕ) → ((j k : ℕ) → j ≤ k → own j ≤ own k) → (stops : ℕ → Option ℕ) (slots by turn : ℕ) (ss : List Sent) (cs : ℕ → Course) (r : Rig) → BoardStands own stops slots by turn cs r.controller → by ≤ turn → AreQueued by ss
    → ((oid : ℕ) → AreGoodOn own stops slots oid (cs oid) ss) → AreTimely (own turn) (orders_sent ss) → AreInTime stops by ss
    → ((oid : ℕ) → IsStopped stops by (cs oid).since → AllFindHalted oid r (orders_sent ss)) → AllStand own stops slots by turn cs r ss
all_stand own up stops slots by turn [] cs r f le old good timely time finds = (tt, inl (f, λ oid m k. k))
all_stand own up stops slots by turn (s ∷ ss) cs r f le old good timely time finds =
    let one = one_stands own stops slots by s.turn turn cs r s.order.command s.order.ticks f (up s.turn turn (omega (arith, old.0, le))) old.0 (λ oid. (good oid).0) timely.0 time.0 (λ oid st. (finds oid st).0) in
    let next : ℕ → Course = λ oid. course_behind oid (cs oid) s in
    let after = (takes r s.order.command).rig in
    elim one.1 [
      | inl g ↦
          let rest = all_stand own up stops slots by turn ss next after g.0 le old.1 (λ oid. (good oid).1) timely.1 time.1 (finds_on stops by s cs r (orders_sent ss) time.0 finds) in (
            (one.0, rest.0),
            elim rest.1 [
              | inl q ↦ inl (q.0, λ oid m k. q.1 oid m (g.1 oid m k))
              | inr q ↦ let (shut, stop) = q in let (done, more, is, made) = stop in inr (shut, (s ∷ done, more, ap (λ t. s ∷ t) is, λ oid m k. made oid m (g.1 oid m k)))
            ],
          )
      | inr g ↦
          let (reason, t, first, state, may) = g in
          let same = ap (λ (x : Controller). x.state) (all_left_by after (commands_of (orders_sent ss)) (ap is_shut state)) ∙ state in (
            (one.0, shut_fair after (orders_sent ss) reason t first state),
            inr ((reason, t, first, same, may), ([], s ∷ ss, refl, λ oid m k. made_for own stops oid (stepper_at r.controller oid) (cs oid) m k)),
          )
    ]

-- a triple that comes too late, where its stepper isn't halted
one_lost : (own : ℕ → ℕ) (stops : ℕ → Option ℕ) (slots by queued turn : ℕ) (cs : ℕ → Course) (r : Rig) (c : Cmd) (ticks : List ℕ) → BoardStands own stops slots by turn cs r.controller → own queued ≤ own turn
    → ((oid : ℕ) → IsGoodOn own stops slots oid queued (cs oid) c ticks) → IsTimely (own turn) c ticks → IsLostFor own queued (λ oid. (cs oid).known) c ticks → FindsFree r.controller c → IsShutBy (takes r c).rig.controller
one_lost own stops slots by queued turn cs r (cmd.QueueStep other interval count add) ticks f h good timely lost free =
    subst IsShutBy (sym (takes_acts r (cmd.QueueStep other interval count add) f.running tt))
    (lost_stands own stops slots by queued turn cs r.controller other (stepper_at r.controller other) (record { interval = interval; count = count; add = add }) ticks refl f free h (good other refl) timely lost.0 lost.1)
one_lost own stops slots by queued turn cs r _ ticks f h good timely lost free = absurd lost

-- The board takes good commands, and behind them one that comes too late: all are fair, and it shut down, behind some of them that it took.
abbrev pub AllLost : (ℕ → ℕ) → (ℕ → Option ℕ) → (ℕ → Course) → Rig → List Sent → List Sent → Type 0
AllLost own stops cs r ss tail =
    AreFair r (orders_sent (ss ++ tail)) × IsShutBy (takes_all r (commands_of (orders_sent (ss ++ tail)))).rig.controller × ((done more : List Sent) × (ss ≡ done ++ more)
    × ((oid : ℕ) (m : List Pulse) → IsMadeBy own stops oid (stepper_at r.controller oid) (cs oid) m → AreMadeFor own stops (course_parts (course_from oid (cs oid) done)) m))

-- which sets no clock
lost_time : (own : ℕ → ℕ) (stops : ℕ → Option ℕ) (by turn : ℕ) (ks : ℕ → Known) (c : Cmd) (ticks : List ℕ) → IsLostFor own turn ks c ticks → IsInTime stops by turn c
lost_time own stops by turn ks (cmd.ResetStepClock oid clock) ticks i = absurd i
lost_time own stops by turn ks c ticks i = tt

pub all_lost : (own : ℕ → ℕ) → ((j k : ℕ) → j ≤ k → own j ≤ own k) → (stops : ℕ → Option ℕ) (slots by turn : ℕ) (ss : List Sent) (s : Sent) (tail : List Sent) (cs : ℕ → Course) (r : Rig) → BoardStands own stops slots by turn cs r.controller
    → by ≤ turn → AreQueued by (ss ++ s ∷ tail) → ((oid : ℕ) → AreGoodOn own stops slots oid (cs oid) ss) → BeginLostOn own stops slots (λ oid. course_from oid (cs oid) ss) (s ∷ tail)
    → AreTimely (own turn) (orders_sent (ss ++ s ∷ tail)) → AreInTime stops by ss
    → ((takes_all r (commands_of (orders_sent ss))).rig.controller.state ≡ Running → FindsFree (takes_all r (commands_of (orders_sent ss))).rig.controller s.order.command)
    → ((oid : ℕ) → IsStopped stops by (cs oid).since → AllFindHalted oid r (orders_sent (ss ++ s ∷ tail))) → AllLost own stops cs r ss (s ∷ tail)
all_lost own up stops slots by turn [] s tail cs r f le old good lost timely time free finds =
    let h = up s.turn turn (omega (arith, old.0, le)) in
    let one = one_stands own stops slots by s.turn turn cs r s.order.command s.order.ticks f h old.0 lost.0 timely.0 (lost_time own stops by s.turn (λ oid. (cs oid).known) s.order.command s.order.ticks lost.1) (λ oid st. (finds oid st).0) in
    let (reason, t, first, state, may) = one_lost own stops slots by s.turn turn cs r s.order.command s.order.ticks f h lost.0 timely.0 lost.1 (free f.running) in
    let after = (takes r s.order.command).rig in
    let same = ap (λ (x : Controller). x.state) (all_left_by after (commands_of (orders_sent tail)) (ap is_shut state)) ∙ state in
    ((one.0, shut_fair after (orders_sent tail) reason t first state), (reason, t, first, same, may), ([], [], refl, λ oid m k. made_for own stops oid (stepper_at r.controller oid) (cs oid) m k))
all_lost own up stops slots by turn (x ∷ ss) s tail cs r f le old good lost timely time free finds =
    let one = one_stands own stops slots by x.turn turn cs r x.order.command x.order.ticks f (up x.turn turn (omega (arith, old.0, le))) old.0 (λ oid. (good oid).0) timely.0 time.0 (λ oid st. (finds oid st).0) in
    let next : ℕ → Course = λ oid. course_behind oid (cs oid) x in
    let after = (takes r x.order.command).rig in
    elim one.1 [
      | inl g ↦
          let (fair, shut, stop) = all_lost own up stops slots by turn ss s tail next after g.0 le old.1 (λ oid. (good oid).1) lost timely.1 time.1 free (finds_on stops by x cs r (orders_sent (ss ++ s ∷ tail)) time.0 finds) in
          let (done, more, is, made) = stop in
          ((one.0, fair), shut, (x ∷ done, more, ap (λ y. x ∷ y) is, λ oid m k. made oid m (g.1 oid m k)))
      | inr g ↦
          let (reason, t, first, state, may) = g in
          let same = ap (λ (y : Controller). y.state) (all_left_by after (commands_of (orders_sent (ss ++ s ∷ tail))) (ap is_shut state)) ∙ state in
          ((one.0, shut_fair after (orders_sent (ss ++ s ∷ tail)) reason t first state), (reason, t, first, same, may), ([], x ∷ ss, refl, λ oid m k. made_for own stops oid (stepper_at r.controller oid) (cs oid) m k))
    ]
