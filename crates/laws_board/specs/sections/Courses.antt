-- What the host knows of a stepper that a trigger may halt, and what is made of its steps: a part of them
-- begins where its clock is set, and each part may be cut short.
use Rattle.std.specs.Prelude.{◌≡◌, ℕ, ◌+◌, ◌++◌, ◌<◌, ◌≤◌, ◌==◌, ◌⊎◌, true, false, List, [], ◌∷◌, Option, Some, None, if◌then◌else◌}
use Rattle.plan_types.specs.declared.levels.Level.{Level}
use Rattle.plan_types.specs.declared.machine.BoardDef.{BoardDef}
use Rattle.plan_types.specs.declared.plan.BoardState.TheVariants.{Running}
use Rattle.plan_types.specs.declared.plan.Pulse.{Pulse}
use Rattle.board_step.specs.Steps.{Pending}
use Rattle.msg_code.specs.declared.cmd.Cmd.{Cmd}
use Rattle.msg_code.specs.declared.cmd.Cmd.TheVariants as cmd
use Rattle.board_sim.specs.Board.{stepper_at, Controller}
use Rattle.board_sim.specs.Fair.{pending_at, Meant, commands_of}
use Rattle.board_sim.specs.Halted.{is_halted}
use Rattle.board_world.specs.World.{Core, Step, run_world, new_world, Do, Turn, world_after, takes_in}
use Rattle.link_work.specs.Turn.{Orders}
use Rattle.link_work.specs.Runs.{queued_in}
use Rattle.laws_board.specs.sections.Events.{AreTicks, AreTurnsOf}
use Rattle.laws_board.specs.sections.Known.{Sent, sent_at, sent_in, orders_sent, Known, unknown, knows_of, AreBelow, IsGoodTriple, IsLostFor}
use Rattle.laws_board.specs.sections.Finds.{StepsFindHalted}
use Rattle.laws_board.specs.sections.Runs.{Begins}
use Rattle.laws_board.specs.sections.Timely.{AllTimely}
use Rattle.board_sim.specs.Rig.{takes_all}

-- the steps that a stepper was told between two commands that set its clock, and the turn in which the first
-- of the two was queued, where there was one
pub record Part : Type 0 where
  pub since : Option ℕ
  pub steps : List Pulse

-- a stepper, as some commands make it: what is known of its present part, the turn in which that was begun,
-- and its earlier parts, the latest first
pub record Course : Type 0 where
  pub known : Known
  pub since : Option ℕ
  pub past : List Part

-- a stepper of which nothing was said
abbrev pub no_course : Course
no_course = record { known = unknown; since = None; past = [] }

-- the parts of its steps, the present one first
abbrev pub course_parts : Course → List Part
course_parts c = record { since = c.since; steps = c.known.steps } ∷ c.past

-- its clock is set by a command that was queued in a turn: a part ends, and one begins
abbrev pub next_part : ℕ → ℕ → Course → Course
next_part turn clock c = record {
  known = record c.known { clock = clock; ends = []; steps = [] };
  since = Some turn;
  past = course_parts c;
}

-- what a command that was queued in a turn makes of a stepper
abbrev pub course_of : ℕ → ℕ → Course → Cmd → List ℕ → Course
course_of oid turn c (cmd.ResetStepClock other clock) ticks = if other == oid then next_part turn clock c else c
course_of oid turn c m ticks = record c { known = knows_of oid c.known m ticks }

-- and what some commands make of it
abbrev pub course_behind : ℕ → Course → Sent → Course
course_behind oid c s = course_of oid s.turn c s.order.command s.order.ticks

-- and what all of some commands make of it, one after the other
abbrev pub course_from : ℕ → Course → List Sent → Course
course_from oid c [] = c
course_from oid c (s ∷ ss) = course_from oid (course_behind oid c s) ss

-- what is known of each stepper behind some commands
abbrev pub courses : List Sent → ℕ → Course
courses ss oid = course_from oid no_course ss

-- a stepper's present part was begun in a turn or later
abbrev pub IsSince : ℕ → Option ℕ → Type 0
IsSince turn None = ⊥
IsSince turn (Some since) = turn ≤ since

-- a turn is not before another, where there is one
abbrev pub IsFrom : ℕ → Option ℕ → Type 0
IsFrom turn None = ⊥
IsFrom turn (Some stop) = stop ≤ turn

-- A part that was begun in a turn is stopped by another one: from that on its stepper is halted. So of each
-- part, where it stops.
abbrev pub IsStopped : (ℕ → Option ℕ) → ℕ → Option ℕ → Type 0
IsStopped stops turn None = ⊥
IsStopped stops turn (Some since) = IsFrom turn (stops since)

-- each pulse is before a tick
abbrev pub AreBefore : ℕ → List Pulse → Type 0
AreBefore tick [] = Unit {0}
AreBefore tick (p ∷ ps) = (p.tick < tick) × AreBefore tick ps

-- pulses before the board's own tick of the turn in which their part stops, if it does
abbrev pub AreBeforeTurn : (ℕ → ℕ) → Option ℕ → List Pulse → Type 0
AreBeforeTurn own None ps = Unit {0}
AreBeforeTurn own (Some stop) ps = AreBefore (own stop) ps

-- pulses of the part that was begun in a turn, before the tick at which it stops; so all pulses, where no
-- part was begun
abbrev pub AreBeforeStop : (ℕ → ℕ) → (ℕ → Option ℕ) → Option ℕ → List Pulse → Type 0
AreBeforeStop own stops None ps = Unit {0}
AreBeforeStop own stops (Some since) ps = AreBeforeTurn own (stops since) ps

-- Pulses of a stepper that are made for these parts of its steps, the latest part first: for the first steps
-- of each, one part behind the other, and none at or after the board's tick of the turn in which its part
-- stops.
abbrev pub AreMadeFor : (ℕ → ℕ) → (ℕ → Option ℕ) → List Part → List Pulse → Type 0
AreMadeFor own stops [] ps = ps ≡ []
AreMadeFor own stops (p ∷ past) ps =
    (early late : List Pulse) × (ps ≡ early ++ late) × AreMadeFor own stops past early × Begins late p.steps
    × AreBeforeStop own stops p.since late

-- The pulses that a stepper has made so far: for its earlier parts, and for its present one, whose other
-- steps pend, but for those that a halt dropped.
pub record IsMadeBy (own : ℕ → ℕ) (stops : ℕ → Option ℕ) (oid : ℕ) (o : Option Pending) (c : Course)
    (made : List Pulse) : Type 0 where
  pub early : List Pulse
  pub late : List Pulse
  pub is : made ≡ early ++ late
  pub past : AreMadeFor own stops c.past early
  pub dropped : List Pulse
  pub steps : (late ++ pending_at oid o) ++ dropped ≡ c.known.steps
  pub whole : is_halted o ≡ false → dropped ≡ []
  pub before : AreBeforeStop own stops c.since late

-- a stepper's clock may be set in a turn: its present part is stopped by then, or all its steps are before
-- the board's tick
pub record MaySetClock (own : ℕ → ℕ) (stops : ℕ → Option ℕ) (turn : ℕ) (c : Course) : Type 0 where
  pub made : c.known.made ≡ true
  pub over : IsStopped stops turn c.since ⊎ AreBelow (own turn) c.known.ends

-- a command that is queued in a turn is good for a stepper
abbrev pub IsGoodOn : (ℕ → ℕ) → (ℕ → Option ℕ) → ℕ → ℕ → ℕ → Course → Cmd → List ℕ → Type 0
IsGoodOn own stops slots oid turn c (cmd.QueueStep other interval count add) ticks =
    other ≡ oid → IsGoodTriple own slots turn c.known (record { interval = interval; count = count; add = add }) ticks
IsGoodOn own stops slots oid turn c (cmd.ResetStepClock other clock) ticks = other ≡ oid → MaySetClock own stops turn c
IsGoodOn own stops slots oid turn c (cmd.SetNextStepDir other dir) ticks = other ≡ oid → c.known.made ≡ true
IsGoodOn own stops slots oid turn c (cmd.ConfigStepper other step dir invert width) ticks = other < 256
IsGoodOn own stops slots oid turn c _ ticks = Unit {0}

-- commands that are good for a stepper, one behind the other
abbrev pub AreGoodOn : (ℕ → ℕ) → (ℕ → Option ℕ) → ℕ → ℕ → Course → List Sent → Type 0
AreGoodOn own stops slots oid c [] = Unit {0}
AreGoodOn own stops slots oid c (s ∷ ss) =
    IsGoodOn own stops slots oid s.turn c s.order.command s.order.ticks
    × AreGoodOn own stops slots oid (course_behind oid c s) ss

-- commands that are good for every stepper
abbrev pub AreAllGood : (ℕ → ℕ) → (ℕ → Option ℕ) → ℕ → List Sent → Type 0
AreAllGood own stops slots ss = (oid : ℕ) → AreGoodOn own stops slots oid no_course ss

-- commands of which the first one is a triple that is queued too late, and good but for that: its first step
-- is before the board's tick of that turn, as are all before it of the stepper's present part
abbrev pub BeginLostOn : (ℕ → ℕ) → (ℕ → Option ℕ) → ℕ → (ℕ → Course) → List Sent → Type 0
BeginLostOn own stops slots cs [] = Unit {0}
BeginLostOn own stops slots cs (s ∷ ss) =
    ((oid : ℕ) → IsGoodOn own stops slots oid s.turn (cs oid) s.order.command s.order.ticks)
    × IsLostFor own s.turn (λ oid. (cs oid).known) s.order.command s.order.ticks

-- the stepper of a triple isn't halted
abbrev pub FindsFree : Controller → Cmd → Type 0
FindsFree b (cmd.QueueStep oid interval count add) = is_halted (stepper_at b oid) ≡ false
FindsFree b _ = Unit {0}

-- Where a board takes these commands, and runs when it took all of a front of what was queued, the stepper of
-- the first triple behind that front isn't halted then: a halted stepper takes no triple, and so refuses none
-- that comes too late.
abbrev pub HeedsIn : List Sent → List Sent → Core → List Meant → Type 0
HeedsIn front [] h ms = Unit {0}
HeedsIn front (t ∷ tail) h ms =
    (first rest : List Meant) → ms ≡ first ++ t.order ∷ rest → h.taken ++ first ≡ orders_sent front →
    (takes_all h.board (commands_of first)).rig.controller.state ≡ Running →
    FindsFree (takes_all h.board (commands_of first)).rig.controller t.order.command

-- so it is of the commands that a board takes in one step of a run
abbrev pub HeedsAt : List Sent → List Sent → Core → Step → Type 0
HeedsAt front tail h (Do e) = HeedsIn front tail h (takes_in h e)
HeedsAt front tail h (Turn turn) = Unit {0}

-- so it is in some steps
abbrev pub AllHeed : List Sent → List Sent → Core → List Step → Type 0
AllHeed front tail h [] = Unit {0}
AllHeed front tail h (s ∷ steps) = HeedsAt front tail h s × AllHeed front tail (world_after h s) steps

-- a command that sets a clock is taken in a turn before the one in which the part that it begins stops
abbrev pub IsInTime : (ℕ → Option ℕ) → ℕ → ℕ → Cmd → Type 0
IsInTime stops turn queued (cmd.ResetStepClock oid clock) = IsStopped stops turn (Some queued) → ⊥
IsInTime stops turn queued _ = Unit {0}

-- so each of some commands, which were sent in their turns
abbrev pub AreInTime : (ℕ → Option ℕ) → ℕ → List Sent → Type 0
AreInTime stops turn [] = Unit {0}
AreInTime stops turn (s ∷ ss) = IsInTime stops turn s.turn s.order.command × AreInTime stops turn ss

-- As a turn begins, a board that runs, and took none behind a front of what is queued, has taken those commands of the
-- front with which each part began that is stopped by now, and each stepper whose part is stopped is halted, or no step
-- of that part was taken.
abbrev pub IsSettled : (ℕ → Option ℕ) → List Sent → ℕ → List Sent → Core → Type 0
IsSettled stops front turn sent h =
    h.board.controller.state ≡ Running → (done left more : List Sent) → done ++ left ≡ sent → done ++ more ≡ front →
    orders_sent done ≡ h.taken →
    AreInTime stops turn more
    × ((oid : ℕ) → IsStopped stops turn (courses done oid).since →
    (is_halted (stepper_at h.board.controller oid) ≡ true) ⊎ ((courses done oid).known.ends ≡ []))

-- And in some steps that follow such a stepper is halted before the board takes a step of it.
abbrev pub FindStopped : (ℕ → Option ℕ) → List Sent → ℕ → List Sent → Core → List Step → Type 0
FindStopped stops front turn sent h steps =
    h.board.controller.state ≡ Running →
    (done left more : List Sent) → done ++ left ≡ sent → done ++ more ≡ front → orders_sent done ≡ h.taken →
    (oid : ℕ) → IsStopped stops turn (courses done oid).since → StepsFindHalted oid h steps

-- so as each of some turns begins, before which some commands were queued, and in its steps
abbrev pub AreSettled : (stops : ℕ → Option ℕ) (front : List Sent) (own : ℕ → ℕ) (turn : ℕ) (sent : List Sent)
    (os : List Orders) (steps : List Step) (h : Core) → AreTurnsOf own turn os steps → Type 0
AreSettled stops front own turn sent [] steps h t = IsSettled stops front turn sent h
AreSettled stops front own turn sent (o ∷ os) steps h t =
    IsSettled stops front turn sent h × FindStopped stops front turn sent h t.0
    × AreSettled stops front own (turn + 1) (sent ++ sent_at turn (queued_in o)) os t.1 (run_world t.0 h) t.4

-- What happens on a board and its link in some turns, where the commands that are queued are good, up to one
-- that is queued too late, and triggers may halt steppers: no unit is taken half a round of the 32-bit clock
-- after its first tick; where a part of a stepper's steps stops, the board has begun it by then, and halts
-- the stepper by then or before it takes a step of it; and where it takes the late one, that one's stepper
-- isn't halted.
pub record IsGoodRun (b : BoardDef) (pins : List (List Level)) (own : ℕ → ℕ) (stops : ℕ → Option ℕ) (os : List Orders)
    (steps : List Step) : Type 0 where
  pub ticks : AreTicks own
  pub first : own 0 ≡ b.start
  pub ahead : (turn : ℕ) → IsFrom turn (stops turn) → ⊥
  pub front : List Sent
  pub tail : List Sent
  pub are : front ++ tail ≡ sent_in 0 os
  pub good : AreAllGood own stops b.slots front
  pub lost : BeginLostOn own stops b.slots (courses front) tail
  pub turns : AreTurnsOf own 0 os steps
  pub timely : AllTimely (new_world b pins) steps
  pub settled : AreSettled stops front own 0 [] os steps (new_world b pins) turns
  pub heed : AllHeed front tail (new_world b pins) steps
